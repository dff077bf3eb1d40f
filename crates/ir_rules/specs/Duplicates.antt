-- Rule: no two types and no two symbols have one name, and no two locals of a function have one name that is a text.
use Rattle.std.specs.Prelude.{List, map, filter, ◌++◌, ◌&&◌}
use Rattle.ir_types.specs.declared.name.Name.{Name}
use Rattle.ir_types.specs.Names.{has_name}
use Rattle.ir_types.specs.Tree.{FunctionTree, TypeNameTree, SymbolTree, ModuleTree}
use Rattle.ir_rules.specs.declared.fault.Subject.TheVariants.{Local, Symbol, TypeName as TypeOf}
use Rattle.ir_rules.specs.declared.fault.Breach.{Breach}
use Rattle.ir_rules.specs.Breaches.{Found, with_before, outside, in_functions}
use Rattle.ir_rules.specs.Locals.{definitions_of, names_of, is_text}

-- the names of a list that an earlier one is equal to
abbrev pub repeated : List Name → List Name
repeated names = map (λ x. x.1) (filter (λ x. has_name x.1 x.0) (with_before names))

-- the locals of a function whose name is a text that an earlier local has
abbrev pub repeated_locals : FunctionTree → List Found
repeated_locals f =
    map (λ x. (Local x.1.name, x.1.place)) (filter (λ x. is_text x.1.name && has_name x.1.name (names_of x.0)) (with_before (definitions_of f)))

-- where a name is repeated
abbrev pub duplicate_names : ModuleTree → List Breach
duplicate_names m =
    map (λ n. outside (TypeOf n)) (repeated (map (λ (t : TypeNameTree). t.name) m.type_names))
    ++ (map (λ n. outside (Symbol n)) (repeated (map (λ (s : SymbolTree). s.name) m.symbols)) ++ in_functions repeated_locals m)
