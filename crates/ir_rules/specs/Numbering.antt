-- Rule: a number that names a parameter, a block or a result is above all earlier ones of its function. (What is written without a name has
-- taken one.)
use Rattle.std.specs.Prelude.{List, map, filter, not, Bool, true, nat_lt}
use Rattle.std.specs.List.{list_all}
use Rattle.ir_types.specs.declared.name.Name.{Name}
use Rattle.ir_types.specs.declared.name.Name.TheVariants.{Text, Number}
use Rattle.ir_types.specs.Tree.{FunctionTree, ModuleTree}
use Rattle.ir_rules.specs.declared.fault.Subject.TheVariants.{Local}
use Rattle.ir_rules.specs.declared.fault.Breach.{Breach}
use Rattle.ir_rules.specs.Breaches.{Found, with_before, in_functions}
use Rattle.ir_rules.specs.Locals.{Definition, definitions_of}

-- whether a name may stand behind an earlier one: of two numbers, it has to be the greater
abbrev pub is_above : Name → Name → Bool
is_above (Number n) (Number earlier) = nat_lt earlier n
is_above (Number n) (Text s) = true
is_above (Text s) earlier = true

-- the locals of a function whose numbers aren't above all earlier ones
abbrev pub misnumbered : FunctionTree → List Found
misnumbered f =
    map (λ x. (Local x.1.name, x.1.place)) (filter (λ x. not (list_all (λ (d : Definition). is_above x.1.name d.name) x.0)) (with_before (definitions_of f)))

abbrev pub misnumbered_names : ModuleTree → List Breach
misnumbered_names m = in_functions misnumbered m
