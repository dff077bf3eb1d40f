-- Variables whose types have no size.
use Rattle.std.specs.Prelude.{Bool, false, not, List, map}
use Rattle.std.specs.List.{filter_map}
use Rattle.text_forms.specs.Nested.{concat}
use Rattle.ir_types.specs.declared.module.Symbol.{Symbol}
use Rattle.ir_types.specs.declared.module.SymbolKind.{SymbolKind}
use Rattle.ir_types.specs.declared.module.SymbolKind.TheVariants as symbols
use Rattle.ir_types.specs.declared.module.Module.{Module}
use Rattle.ir_types.specs.Tree.{SymbolTree}
use Rattle.ir_types.specs.Denotes.{nodes_in, symbol_in, tree_of}
use Rattle.ir_rules.specs.declared.fault.Breach.{Breach}
use Rattle.ir_rules.specs.Steps.{type_definitions, has_size}
use Rattle.ir_rules.specs.Mismatch.{sizeless}

-- whether a symbol of a module is one
abbrev pub kind_sizeless : Module → SymbolKind → Bool
kind_sizeless m (symbols.Variable id writable) = not (has_size (type_definitions (tree_of m)) (nodes_in m id))
kind_sizeless m (symbols.Function f) = false
kind_sizeless m symbols.Missing = false

abbrev pub is_sizeless : Module → Symbol → Bool
is_sizeless m s = kind_sizeless m s.kind

-- the breaches of symbols
abbrev pub breaches_of : Module → List Symbol → List Breach
breaches_of m symbols = concat (map (λ (s : SymbolTree). sizeless (tree_of m) s.kind) (filter_map (symbol_in m) symbols))
