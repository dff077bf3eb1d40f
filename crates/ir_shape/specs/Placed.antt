-- Each position in a module is one of the list that it speaks of: that of a local name in its function's table of names, that of a type, a symbol or
-- a function in the module's lists.
use Rattle.std.specs.Prelude.{ℕ, ◌<◌, List, length, IfSome}
use Rattle.std.specs.List.{AllByRecursion}
use Rattle.ir_types.specs.declared.name.Name.{Name}
use Rattle.ir_types.specs.declared.name.ValueId.{ValueId}
use Rattle.ir_types.specs.declared.inst.Operand.{Operand}
use Rattle.ir_types.specs.declared.inst.Operand.TheVariants.{Local, Global, OutOfRange}
use Rattle.ir_types.specs.declared.inst.InstKind.{InstKind}
use Rattle.ir_types.specs.declared.inst.InstKind.TheVariants.{Offset}
use Rattle.ir_types.specs.declared.inst.Inst.{Inst}
use Rattle.ir_types.specs.declared.module.Block.{Block}
use Rattle.ir_types.specs.declared.module.Param.{Param}
use Rattle.ir_types.specs.declared.module.Function.{Function}
use Rattle.ir_types.specs.declared.module.Symbol.{Symbol}
use Rattle.ir_types.specs.declared.module.SymbolKind.{SymbolKind}
use Rattle.ir_types.specs.declared.module.SymbolKind.TheVariants.{Variable}
use Rattle.ir_types.specs.declared.module.SymbolKind.TheVariants as symbols
use Rattle.ir_types.specs.declared.module.Module.{Module}
use Rattle.ir_types.specs.Types.{AreTypes}
use Rattle.ir_types.specs.Denotes.{Tables, type_names_of, tables_of}
use Rattle.ir_types.specs.declared.memory_type.MemTy.{MemTy}
use Rattle.ir_types.specs.declared.memory_type.NamedType.{NamedType}
use Rattle.ir_types.specs.declared.memory_type.NamedType.TheVariants.{Defined, Opaque, Missing}
use Rattle.ir_types.specs.declared.memory_type.TypeName.{TypeName}

-- a position in a table of names
abbrev pub IsPlace : List Name → ValueId → Type 0
IsPlace names id = id.0 < length names

-- an operand: only a local and a symbol have a position, also a symbol that is stepped from by a number out of its type's range
abbrev pub IsOperandPlaced : Tables → List Name → Operand → Type 0
IsOperandPlaced t names (Local id) = IsPlace names id
IsOperandPlaced t names (Global i bytes) = i < length t.symbols
IsOperandPlaced t names (OutOfRange i) = IfSome i (λ (s : ℕ). s < length t.symbols)
IsOperandPlaced t names a = Unit {0}

-- what an instruction does: only `getelementptr` has a memory type
abbrev pub IsKindPlaced : Tables → InstKind → Type 0
IsKindPlaced t (Offset id widths inbounds nuw nusw) = id.0 < length t.types
IsKindPlaced t kind = Unit {0}

-- an instruction: its memory type, its operands, its labels, and its result where there is one
pub record IsInstPlaced (t : Tables) (names : List Name) (i : Inst) : Type 0 where
  pub kind : IsKindPlaced t i.kind
  pub args : AllByRecursion (IsOperandPlaced t names) i.args
  pub labels : AllByRecursion (IsPlace names) i.labels
  pub result : IfSome i.result (IsPlace names)

-- a block: its name, and its instructions
pub record IsBlockPlaced (t : Tables) (names : List Name) (b : Block) : Type 0 where
  pub name : IsPlace names b.name
  pub insts : AllByRecursion (IsInstPlaced t names) b.insts

-- a parameter: its name
pub record IsParamPlaced (names : List Name) (p : Param) : Type 0 where
  pub name : IsPlace names p.name

-- a function: its parameters and its blocks, in its own table and in the module's lists
pub record IsFunctionPlaced (t : Tables) (f : Function) : Type 0 where
  pub params : AllByRecursion (IsParamPlaced f.names) f.params
  pub blocks : AllByRecursion (IsBlockPlaced t f.names) f.body

-- what a name of a type stands for: a type of the list
abbrev pub IsNamedPlaced : List MemTy → NamedType → Type 0
IsNamedPlaced types (Defined id) = id.0 < length types
IsNamedPlaced types Opaque = Unit {0}
IsNamedPlaced types Missing = Unit {0}

-- what a symbol stands for: a variable's type, or a function of the list
abbrev pub IsSymbolPlaced : Module → SymbolKind → Type 0
IsSymbolPlaced m (Variable id writable) = id.0 < length m.types
IsSymbolPlaced m (symbols.Function f) = f.0 < length m.functions
IsSymbolPlaced m symbols.Missing = Unit {0}

-- a module: all its functions, types, names of types and symbols
pub record IsPlaced (m : Module) : Type 0 where
  pub functions : AllByRecursion (IsFunctionPlaced (tables_of m)) m.functions
  -- each type's parts stand before it, and it uses a name by its first place
  pub types : AreTypes (type_names_of m) 0 m.types
  pub named : AllByRecursion (λ (n : TypeName). IsNamedPlaced m.types n.ty) m.type_names
  pub symbols : AllByRecursion (λ (s : Symbol). IsSymbolPlaced m s.kind) m.symbols
