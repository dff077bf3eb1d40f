-- The places of labels.
use Rattle.std.specs.Prelude.{◌≡◌, ℕ, ◌<◌, List, length, map}
use Rattle.std.specs.List.{AllByRecursion}
use Rattle.ir_types.specs.declared.name.Name.{Name}
use Rattle.ir_types.specs.declared.name.ValueId.{ValueId}

-- the places of labels, each of which is one of a table
pub record ArePlacesOf (names : List Name) (labels : List ValueId) (places : List ℕ) : Type 0 where
  pub are : places ≡ map (λ (l : ValueId). l.0) labels
  pub within : AllByRecursion (λ i. i < length names) places
