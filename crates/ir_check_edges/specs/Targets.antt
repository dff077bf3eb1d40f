-- The rules about edges by the positions of labels.
use Rattle.std.specs.Prelude.{List, [], ◌∷◌, map, filter, Option, Some, None}
use Rattle.ir_types.specs.declared.name.Name.{Name}
use Rattle.ir_types.specs.declared.name.ValueId.{ValueId}
use Rattle.ir_types.specs.declared.module.Function.{Function}
use Rattle.ir_types.specs.declared.module.Module.{Module}
use Rattle.ir_types.specs.Names.{same_name}
use Rattle.ir_types.specs.Denotes.{tables_of, function_in, name_in}
use Rattle.ir_rules.specs.declared.fault.Subject.{Subject}
use Rattle.ir_rules.specs.declared.fault.Subject.TheVariants.{Local}
use Rattle.ir_rules.specs.declared.fault.Breach.{Breach}
use Rattle.ir_rules.specs.Breaches.{first, inside}
use Rattle.ir_rules.specs.Edges.{entered_again}

-- what is there, or else what the other has
abbrev pub or_else : {B : Type 0} → Option B → Option B → Option B
or_else None other = other
or_else (Some b) other = Some b

-- the first that a function finds in a list
abbrev pub first_of : {A B : Type 0} → (A → Option B) → List A → Option B
first_of f [] = None
first_of f (x ∷ xs) = or_else (f x) (first_of f xs)

-- those of labels that have the name of one
abbrev pub to_label : List Name → ValueId → List ValueId → List Subject
to_label names entry labels = map Local (filter (same_name (name_in names entry)) (map (name_in names) labels))

-- the first branch to a function's entry
abbrev pub entered_in : Module → Function → Option Breach
entered_in m f = first (map (inside f.name) (entered_again (function_in (tables_of m) f)))
