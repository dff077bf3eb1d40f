-- The first number that isn't above all earlier ones, as it is looked for.
use Rattle.std.specs.Prelude.{ℕ, nat_lt, Bool, true, List, [], ◌∷◌, slice_get, Option, Some, None, if◌then◌else◌}
use Rattle.std.specs.Option.{option_map}
use Rattle.ir_types.specs.declared.name.Name.{Name}
use Rattle.ir_types.specs.declared.name.Name.TheVariants.{Text, Number}
use Rattle.ir_types.specs.declared.name.ValueId.{ValueId}
use Rattle.ir_types.specs.declared.module.Function.{Function}
use Rattle.ir_rules.specs.declared.fault.Breach.{Breach}
use Rattle.ir_check_names.specs.declared.definitions.Definition.{Definition}
use Rattle.ir_check_names.specs.Definitions.{of_function, breach_at}

-- the number that is a name
abbrev pub as_number : Name → Option ℕ
as_number (Text s) = None
as_number (Number n) = Some n

-- the number at a place, where there is one
abbrev pub number_at : List Name → ValueId → Option ℕ
number_at names id = elim (slice_get names id.0) [ Some n ↦ as_number n | None ↦ None ]

-- whether a number is above the highest one before it
abbrev pub is_above_all : ℕ → Option ℕ → Bool
is_above_all n None = true
is_above_all n (Some earlier) = nat_lt earlier n

-- the first of the definitions whose number isn't above this one, and all that stand before
abbrev pub misnumbered_from : List Name → Option ℕ → List Definition → Option Definition
misnumbered_from names highest [] = None
misnumbered_from names highest (d ∷ ds) = elim (number_at names d.name) [
  | None ↦ misnumbered_from names highest ds
  | Some n ↦ (if is_above_all n highest then misnumbered_from names (Some n) ds else Some d)
]

-- in a function
abbrev pub misnumbered_in : Function → Option Breach
misnumbered_in f = option_map (breach_at f) (misnumbered_from f.names None (of_function f))
