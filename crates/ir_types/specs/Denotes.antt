-- Which tree a module denotes: each position replaced by what it names.
use Rattle.std.specs.Prelude.{◌≡◌, ℕ, List, [], length, map, Option, Some, None}
use Rattle.std.specs.Option.{option_map}
use Rattle.std.specs.List.{AllByRecursion, filter_map, range_with_len}
use Rattle.ir_types.specs.declared.name.Name.{Name}
use Rattle.ir_types.specs.declared.name.ValueId.{ValueId}
use Rattle.ir_types.specs.declared.inst.Operand.{Operand}
use Rattle.ir_types.specs.declared.inst.Operand.TheVariants.{Local, Int, Null, Poison, Lanes, Global, OutOfRange}
use Rattle.ir_types.specs.declared.inst.InstKind.{InstKind}
use Rattle.ir_types.specs.declared.inst.InstKind.TheVariants as kinds
use Rattle.ir_types.specs.declared.memory_type.MemTy.{MemTy}
use Rattle.ir_types.specs.declared.inst.Inst.{Inst}
use Rattle.ir_types.specs.declared.module.Block.{Block}
use Rattle.ir_types.specs.declared.module.Param.{Param}
use Rattle.ir_types.specs.declared.module.Function.{Function}
use Rattle.ir_types.specs.declared.module.Symbol.{Symbol}
use Rattle.ir_types.specs.declared.module.SymbolKind.TheVariants as symbols
use Rattle.ir_types.specs.declared.module.Module.{Module}
use Rattle.ir_types.specs.declared.memory_type.TypeId.{TypeId}
use Rattle.ir_types.specs.declared.memory_type.TypeName.{TypeName}
use Rattle.ir_types.specs.declared.memory_type.NamedType.TheVariants.{Defined, Opaque, Missing}
use Rattle.ir_types.specs.Types.{AreTypes}
use Rattle.ir_types.specs.TypeNodes.{TypeNode, type_nodes}
use Rattle.ir_types.specs.Sizes.{AreExtents}
use Rattle.ir_types.specs.Names.{name_at, IsTable}
use Rattle.ir_types.specs.Used.{all_type_names, all_symbol_names}
use Rattle.ir_types.specs.Kinds.{Kind, Binary, Compare, Select, Freeze, Trunc, Zext, Sext, PtrToInt, Phi, Offset, Load, Store, Call, Extract, Insert, Shuffle, Jump, Branch, Switch, ReturnVoid, Return, Unreachable}
use Rattle.ir_types.specs.Tree.{OperandTree, local, number, null, poison, lanes, global, out_of_range, InstTree, BlockTree, ParamTree, FunctionTree, defined, opaque, TypeNameTree, variable, function, SymbolTree, ModuleTree}

-- the name at a place
abbrev pub name_in : List Name → ValueId → Name
name_in ns i = name_at ns i.0

-- what a module has for the positions in its functions: the names of its symbols and of its types, and its types
pub record Tables : Type 0 where
  pub symbols : List Name
  pub type_names : List Name
  pub types : List MemTy

-- an operand, a local and a symbol by their names
abbrev pub operand_in : Tables → List Name → Operand → OperandTree
operand_in t ns (Local i) = local (name_in ns i)
operand_in t ns (Int n) = number n
operand_in t ns Null = null
operand_in t ns Poison = poison
operand_in t ns (Lanes xs) = lanes xs
operand_in t ns (Global i o) = global (name_at t.symbols i) o
operand_in t ns (OutOfRange i) = out_of_range (option_map (name_at t.symbols) i)

-- what an instruction does, a memory type by its nodes
abbrev pub kind_in : Tables → InstKind → Kind
kind_in t (kinds.Binary op flags) = Binary op flags
kind_in t (kinds.Compare p of) = Compare p of
kind_in t (kinds.Select condition last) = Select condition last
kind_in t kinds.Freeze = Freeze
kind_in t (kinds.Trunc from nuw nsw) = Trunc from nuw nsw
kind_in t (kinds.Zext from nneg) = Zext from nneg
kind_in t (kinds.Sext from) = Sext from
kind_in t kinds.PtrToInt = PtrToInt
kind_in t kinds.Phi = Phi
kind_in t (kinds.Offset id widths inbounds nuw nusw) = Offset (type_nodes t.type_names t.types id) widths inbounds nuw nusw
kind_in t (kinds.Load align) = Load align
kind_in t (kinds.Store of align) = Store of align
kind_in t (kinds.Call callee) = Call callee
kind_in t (kinds.Extract of width) = Extract of width
kind_in t (kinds.Insert element width) = Insert element width
kind_in t (kinds.Shuffle one other mask) = Shuffle one other mask
kind_in t kinds.Jump = Jump
kind_in t kinds.Branch = Branch
kind_in t (kinds.Switch width cases) = Switch width cases
kind_in t kinds.ReturnVoid = ReturnVoid
kind_in t (kinds.Return of) = Return of
kind_in t kinds.Unreachable = Unreachable

-- an instruction, with the names of its operands, its labels and its result
abbrev pub inst_in : Tables → List Name → Inst → InstTree
inst_in t ns i = record { kind = kind_in t i.kind; ty = i.ty; args = map (operand_in t ns) i.args; labels = map (name_in ns) i.labels; result = option_map (name_in ns) i.result; wide = i.wide; kept = i.kept }

-- a block, with its label and its instructions
abbrev pub block_in : Tables → List Name → Block → BlockTree
block_in t ns b = record { name = name_in ns b.name; insts = map (inst_in t ns) b.insts }

-- a parameter, with its name
abbrev pub param_in : List Name → Param → ParamTree
param_in ns p = record { ty = p.ty; kept = p.kept; name = name_in ns p.name }

-- a function: each place is one in its names, or in the module's lists
abbrev pub function_in : Tables → Function → FunctionTree
function_in t f = record { name = f.name; before = f.before; ret = f.ret; params = map (param_in f.names) f.params; varargs = f.varargs; after = f.after; body = map (block_in t f.names) f.body }

-- the names of types
abbrev pub type_names_of : Module → List Name
type_names_of m = map (λ (n : TypeName). n.name) m.type_names

-- the nodes of the type at a place
abbrev pub nodes_in : Module → TypeId → List TypeNode
nodes_in m id = type_nodes (type_names_of m) m.types id

-- a name of a type with its definition, where it is defined
abbrev pub type_name_in : Module → TypeName → Option TypeNameTree
type_name_in m n = elim n.ty [ Defined id ↦ Some (record { name = n.name; ty = defined (nodes_in m id) }) | Opaque ↦ Some (record { name = n.name; ty = opaque }) | Missing ↦ None ]

-- a symbol with what it is defined or declared as, where it is
abbrev pub symbol_in : Module → Symbol → Option SymbolTree
symbol_in m s = elim s.kind [
  | symbols.Variable id writable ↦ Some (record { name = s.name; kind = variable (nodes_in m id) writable; before = s.before; after = s.after })
  | symbols.Function f ↦ Some (record { name = s.name; kind = function; before = s.before; after = s.after })
  | symbols.Missing ↦ None
]

-- a module's lists for its functions
abbrev pub tables_of : Module → Tables
tables_of m = record { symbols = map (λ (s : Symbol). s.name) m.symbols; type_names = type_names_of m; types = m.types }

-- a module: each position replaced by what it names
abbrev pub tree_of : Module → ModuleTree
tree_of m = record { head = m.head; type_names = filter_map (type_name_in m) m.type_names; symbols = filter_map (symbol_in m) m.symbols; functions = map (function_in (tables_of m)) m.functions; tail = m.tail }

-- a symbol that is only used has no texts
abbrev pub IsBare : Symbol → Type 0
IsBare s = elim s.kind as (λ _. Type 0) [ symbols.Variable id writable ↦ Unit {0} | symbols.Function f ↦ Unit {0} | symbols.Missing ↦ (s.before ≡ []) × (s.after ≡ []) ]

-- the place of the function that a symbol stands for
abbrev pub function_place : Symbol → Option ℕ
function_place s = elim s.kind [ symbols.Variable id writable ↦ None | symbols.Function f ↦ Some f.0 | symbols.Missing ↦ None ]

-- the module says what the tree says, and has its names, its types and what goes by places as that asks
pub record Denotes (m : Module) (tree : ModuleTree) : Type 0 where
  pub says : tree_of m ≡ tree
  -- in no function's names a name stands twice, and there are fewer than 2^32
  pub tables : AllByRecursion (λ f. IsTable f.names) m.functions
  -- each type stands behind its parts, and a name of a type by its first place
  pub types : AreTypes (type_names_of m) 0 m.types
  -- the extents are those of the types
  pub extents : AreExtents m.types m.type_names m.extents
  -- the names that are only used stand behind the others, each once, by first use
  pub type_names : type_names_of m ≡ all_type_names tree
  pub symbols : map (λ (s : Symbol). s.name) m.symbols ≡ all_symbol_names tree
  -- nothing is kept with those
  pub bare : AllByRecursion IsBare m.symbols
  -- the symbols of functions stand for the functions, one by one
  pub functions : filter_map function_place m.symbols ≡ range_with_len 0 (length m.functions)
