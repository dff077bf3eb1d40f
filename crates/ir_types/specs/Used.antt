-- The names that a module uses, of types and of symbols, in the order in which a module has what uses them, and within that in the text's order.
use Rattle.std.specs.Prelude.{List, [], ◌++◌, map, Option, Some, None}
use Rattle.std.specs.List.{filter_map}
use Rattle.text_forms.specs.Nested.{concat}
use Rattle.ir_types.specs.declared.name.Name.{Name}
use Rattle.ir_types.specs.Names.{unknown}
use Rattle.ir_types.specs.TypeNodes.{names_used}
use Rattle.ir_types.specs.Kinds.{Kind, Offset}
use Rattle.ir_types.specs.Tree.{OperandTree, global, out_of_range, InstTree, BlockTree, FunctionTree, NamedTree, defined, opaque, TypeNameTree, SymbolKindTree, variable, function, SymbolTree, ModuleTree}

-- ---- in instructions. The type in a constant that steps from a symbol has a size, so that each of its names is defined.

-- the names of types that an instruction of this kind uses
abbrev pub types_in : Kind → List Name
types_in (Offset nodes widths inbounds nuw nusw) = names_used nodes
types_in kind = []

-- the symbol that an operand uses. What a call calls is no operand.
abbrev pub symbol_at : OperandTree → Option Name
symbol_at (global n o) = Some n
symbol_at (out_of_range n) = n
symbol_at operand = None

-- the names of types that some instructions use
abbrev pub types_of : List InstTree → List Name
types_of insts = concat (map (λ (i : InstTree). types_in i.kind) insts)

-- their operands
abbrev pub operands_of : List InstTree → List OperandTree
operands_of insts = concat (map (λ (i : InstTree). i.args) insts)

-- the symbols that some operands use
abbrev pub symbols_of : List OperandTree → List Name
symbols_of operands = filter_map symbol_at operands

-- ---- in a module

-- a function's instructions
abbrev pub insts_of : FunctionTree → List InstTree
insts_of f = concat (map (λ (b : BlockTree). b.insts) f.body)

-- a module's instructions
abbrev pub all_insts : ModuleTree → List InstTree
all_insts m = concat (map insts_of m.functions)

-- the names that a definition uses
abbrev pub types_of_definition : NamedTree → List Name
types_of_definition (defined nodes) = names_used nodes
types_of_definition opaque = []

-- the names of types that a variable uses
abbrev pub types_of_symbol : SymbolKindTree → List Name
types_of_symbol (variable nodes writable) = names_used nodes
types_of_symbol function = []

-- the names of types that definitions, variables and instructions use
abbrev pub types_used : ModuleTree → List Name
types_used m =
    concat (map (λ (n : TypeNameTree). types_of_definition n.ty) m.type_names)
    ++ (concat (map (λ (s : SymbolTree). types_of_symbol s.kind) m.symbols) ++ types_of (all_insts m))

-- the symbols that instructions use
abbrev pub symbols_used : ModuleTree → List Name
symbols_used m = symbols_of (operands_of (all_insts m))

-- ---- the lists of a module

-- known names, and behind them those that are used and not known, each once, by first use
abbrev pub with_unknown : (known used : List Name) → List Name
with_unknown known used = known ++ unknown known used

-- all names of types: those that are defined, and those that are only used
abbrev pub all_type_names : ModuleTree → List Name
all_type_names m = with_unknown (map (λ (n : TypeNameTree). n.name) m.type_names) (types_used m)

-- all names of symbols: those that are defined or declared, and those that are only used
abbrev pub all_symbol_names : ModuleTree → List Name
all_symbol_names m = with_unknown (map (λ (s : SymbolTree). s.name) m.symbols) (symbols_used m)
