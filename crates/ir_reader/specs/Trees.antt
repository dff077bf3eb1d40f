-- What is made of a module's parts, as parts of its tree, over a list of names and a list of types.
use Rattle.std.specs.Prelude.{ℕ, ◌+◌, List, [], ◌∷◌, Option, Some, None}
use Rattle.std.specs.Option.{option_map}
use Rattle.ir_types.specs.declared.name.Name.{Name}
use Rattle.ir_types.specs.declared.module.Symbol.{Symbol}
use Rattle.ir_types.specs.declared.module.SymbolKind.TheVariants as symbols
use Rattle.ir_types.specs.declared.memory_type.MemTy.{MemTy}
use Rattle.ir_types.specs.declared.memory_type.NamedType.{NamedType}
use Rattle.ir_types.specs.declared.memory_type.NamedType.TheVariants.{Defined, Opaque, Missing}
use Rattle.ir_types.specs.TypeNodes.{TypeNode, type_nodes}
use Rattle.ir_types.specs.Tree.{variable, function, SymbolTree}
use Rattle.ir_types.specs.Collected.{symbol_of}
use Rattle.ir_reader_items.specs.declared.part.Definition.{Definition}
use Rattle.ir_reader_items.specs.declared.part.Variable.{Variable}
use Rattle.ir_reader_types.specs.declared.tables.TableParts.{TableParts}
use Rattle.ir_reader_types.specs.TypeTable.{names_of}
use Rattle.ir_types.specs.Denotes.{Tables}
use Rattle.ir_reader_items.specs.Parts.{nodes_of, variable_of}

-- ---- names of types

-- what a name stands for, where it is defined: a type by its nodes, or none where it is opaque
abbrev pub stands_for : List Name → List MemTy → NamedType → Option (Option (List TypeNode))
stands_for names types (Defined id) = Some (Some (type_nodes names types id))
stands_for names types Opaque = Some None
stands_for names types Missing = None

-- the same, as the definition says it
abbrev pub defined_as : Definition → Option (Option (List TypeNode))
defined_as d = Some (option_map nodes_of d.ty)

-- ---- symbols

-- a symbol with what it stands for, where it is defined or declared
abbrev pub symbol_over : List Name → List MemTy → Symbol → Option SymbolTree
symbol_over names types s = elim s.kind [
  | symbols.Variable id writable ↦ Some (record { name = s.name; kind = variable (type_nodes names types id) writable; before = s.before; after = s.after })
  | symbols.Function f ↦ Some (record { name = s.name; kind = function; before = s.before; after = s.after })
  | symbols.Missing ↦ None
]

-- a variable's
abbrev pub variable_symbol : Variable → SymbolTree
variable_symbol v = symbol_of (variable_of v)

-- a function's, by its name
abbrev pub function_named : Name → SymbolTree
function_named name = record { name = name; kind = function; before = []; after = [] }

-- that of the function at a place, by its name
abbrev pub function_symbol : ℕ → Name → Symbol
function_symbol place name = record { name = name; kind = symbols.Function (record { 0 = place }); before = []; after = [] }

-- those of functions from a place on, by their names
abbrev pub function_symbols : ℕ → List Name → List Symbol
function_symbols place [] = []
function_symbols place (n ∷ names) = function_symbol place n ∷ function_symbols (place + 1) names

-- that of a name that is only used
abbrev pub missing_symbol : Name → Symbol
missing_symbol n = record { name = n; kind = symbols.Missing; before = []; after = [] }

-- what places in functions stand for, by the parts of the tables
abbrev pub tables_in_parts : TableParts → Tables
tables_in_parts p = record { symbols = p.symbols; type_names = names_of p.type_names; types = p.types }
