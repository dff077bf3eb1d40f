-- What a table of names is, and what adding a name does to it.
use Rattle.std.specs.Prelude.{ℕ, zero, suc, ◌≡◌, ◌≢◌, ◌^◌, ◌<◌, ◌⊎◌, Bool, false, nat_eq, bytes_eq, List, [], ◌∷◌, ◌++◌, length, Contains, AllPairs, if◌then◌else◌}
use Rattle.std.specs.List.{list_any}
use Rattle.ir_types.specs.declared.name.Name.{Name}
use Rattle.ir_types.specs.declared.name.Name.TheVariants.{Text, Number}

-- no name stands twice, and each place fits 32 bits
pub record IsTable (names : List Name) : Type 0 where
  pub distinct : AllPairs (λ x y. x ≢ y) names
  pub small : length names < 2 ^ 32

-- the table stays where it has the name, and has it at its end where it lacked it
abbrev pub Adds : List Name → Name → List Name → Type 0
Adds old name new =
    (Contains old name × (new ≡ old)) ⊎ ((¬ Contains old name) × (new ≡ old ++ name ∷ []))

-- the name at a place; where there is none, a number that no name has
abbrev pub name_at : List Name → ℕ → Name
name_at [] i = Number (2 ^ 32)
name_at (n ∷ ns) zero = n
name_at (n ∷ ns) (suc i) = name_at ns i

-- whether two names are one
abbrev pub same_name : Name → Name → Bool
same_name (Text s) (Text t) = bytes_eq s t
same_name (Text s) (Number n) = false
same_name (Number m) (Text t) = false
same_name (Number m) (Number n) = nat_eq m n

-- whether a name is one of some
abbrev pub has_name : Name → List Name → Bool
has_name n names = list_any (same_name n) names

-- those of some names that are not known, each once, in their order
abbrev pub unknown : (known names : List Name) → List Name
unknown known [] = []
unknown known (n ∷ ns) = if has_name n known then unknown known ns else n ∷ unknown (known ++ n ∷ []) ns
