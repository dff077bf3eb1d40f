-- What a module says, with names in the place of positions.
use Rattle.std.specs.Prelude.{ℕ, Bool, List, Option}
use Rattle.ir_types.specs.declared.name.Name.{Name}
use Rattle.ir_types.specs.declared.inst.Ty.{Ty}
use Rattle.ir_types.specs.Kinds.{Kind}
use Rattle.ir_types.specs.TypeNodes.{TypeNode}

-- tokens that are kept as they stand, as their texts
abbrev pub KeptTexts : Type 0
KeptTexts = List (List ℕ)

-- an operand
pub data OperandTree : Type 0 where
  -- a local by its name
  local : Name → OperandTree
  number : ℕ → OperandTree
  -- the null pointer
  null : OperandTree
  poison : OperandTree
  -- constant lanes, none for a poison lane
  lanes : List (Option ℕ) → OperandTree
  -- a symbol, and so many bytes behind it, modulo 2^64
  global : Name → ℕ → OperandTree
  -- a constant with a number out of its type's range, of this symbol where one is stepped from by such a number
  out_of_range : Option Name → OperandTree

-- an instruction: what it does, its result's type (`Void` where it has none), its operands and its labels in the text's order, its result's name
-- where it has one, whether a number that is written in it is out of its type's range, and its attachments
pub record InstTree : Type 0 where
  pub kind : Kind
  pub ty : Ty
  pub args : List OperandTree
  pub labels : List Name
  pub result : Option Name
  pub wide : Bool
  pub kept : KeptTexts

-- a block: its label, and its instructions
pub record BlockTree : Type 0 where
  pub name : Name
  pub insts : List InstTree

-- a parameter, with what is kept between its type and its name
pub record ParamTree : Type 0 where
  pub ty : Ty
  pub kept : KeptTexts
  pub name : Name

-- a function: its name, what is kept before the type of what it returns, that type, its parameters, whether it takes further arguments, what is
-- kept behind them, and its blocks, the entry first; a declared one has none
pub record FunctionTree : Type 0 where
  pub name : Name
  pub before : KeptTexts
  pub ret : Ty
  pub params : List ParamTree
  pub varargs : Bool
  pub after : KeptTexts
  pub body : List BlockTree

-- what the name of a type is defined as, a type by its nodes
pub data NamedTree : Type 0 where
  defined : List TypeNode → NamedTree
  opaque : NamedTree

-- a name of a type, with its definition
pub record TypeNameTree : Type 0 where
  pub name : Name
  pub ty : NamedTree

-- what a symbol is defined or declared as: a variable of a type, by its nodes, which may be written or not; or a function
pub data SymbolKindTree : Type 0 where
  variable : List TypeNode → Bool → SymbolKindTree
  function : SymbolKindTree

-- a symbol, with what is kept before and behind a variable's type
pub record SymbolTree : Type 0 where
  pub name : Name
  pub kind : SymbolKindTree
  pub before : KeptTexts
  pub after : KeptTexts

-- a module; of its symbols the variables stand first, and then the functions, in the order of `functions`. Names of types and symbols that are
-- used, and not defined or declared, stand where they are used, and nowhere else.
pub record ModuleTree : Type 0 where
  pub head : List KeptTexts
  pub type_names : List TypeNameTree
  pub symbols : List SymbolTree
  pub functions : List FunctionTree
  pub tail : List KeptTexts

-- ---- the same as it is written: parameters, blocks and results may have no name, and items stand in the text's order

-- a parameter, with its name where it is written
pub record WrittenParam : Type 0 where
  pub ty : Ty
  pub kept : KeptTexts
  pub name : Option Name

-- a block, with its label where it is written
pub record WrittenBlock : Type 0 where
  pub label : Option Name
  pub insts : List InstTree

-- a function of such parameters and blocks
pub record WrittenFunction : Type 0 where
  pub name : Name
  pub before : KeptTexts
  pub ret : Ty
  pub params : List WrittenParam
  pub varargs : Bool
  pub after : KeptTexts
  pub body : List WrittenBlock

-- a variable: what is kept before `global` or `constant`, whether it may be written, its type, and what is kept behind that
pub record VariableTree : Type 0 where
  pub name : Name
  pub before : KeptTexts
  pub writable : Bool
  pub ty : List TypeNode
  pub after : KeptTexts

-- an item of a module, whose functions are of this kind
pub data Item (F : Type 0) : Type 0 where
  -- the name of the source, or a line about the target
  head_line : KeptTexts → Item F
  comdat_line : KeptTexts → Item F
  -- a named type: none where it is opaque
  type_item : Name → Option (List TypeNode) → Item F
  variable_item : VariableTree → Item F
  function_item : F → Item F
  attribute_line : KeptTexts → Item F
  metadata_line : KeptTexts → Item F
