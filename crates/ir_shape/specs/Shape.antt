-- The shape of a module's tree, and what more is known of one that can be printed: no number in that is out of its type's range.
use Rattle.std.specs.Prelude.{codes, Bool, true, false, ◌≡◌, ◌<◌, ◌^◌, ℕ, zero, suc, List, [], ◌∷◌, ◌++◌, length, map, Option, Some, None}
use Rattle.std.specs.List.{AllByRecursion, AllZip}
use Rattle.text_forms.specs.declared.TokenKind.TheVariants.{Word}
use Rattle.text_forms.specs.Form.{Form, Spells, either}
use Rattle.text_forms.specs.Nested.{concat, joined}
use Rattle.text_forms.specs.Kept.{kept_token, attachments}
use Rattle.text_lex.specs.KeptText.{token_of, IsToken}
use Rattle.ir_types.specs.declared.name.Name.{Name}
use Rattle.ir_types.specs.declared.name.Name.TheVariants.{Text, Number}
use Rattle.ir_types.specs.declared.inst.Ty.{Ty}
use Rattle.ir_types.specs.declared.inst.Ty.TheVariants.{Ptr, Vector, Void}
use Rattle.ir_types.specs.declared.inst.BinOp.{BinOp}
use Rattle.ir_types.specs.declared.inst.BinOp.TheVariants.{Add, Sub, Mul, Shl, UDiv, SDiv, URem, SRem, LShr, AShr, And, Or, Xor, SMin, SMax, UMin, UMax}
use Rattle.ir_types.specs.declared.inst.Flags.{Flags}
use Rattle.ir_types.specs.declared.call.Actual.{Actual}
use Rattle.ir_types.specs.declared.call.Callee.{Callee}
use Rattle.ir_types.specs.declared.call.Signature.{Signature}
use Rattle.ir_types.specs.Kinds.{Kind, Binary, Compare, Phi, Offset, Load, Store, Call, Extract, Shuffle, Jump, Branch, Switch, ReturnVoid, Return, Unreachable, operand_types}
pub use Rattle.ir_types.specs.Types.{IsOneOf, widths, IsType}
use Rattle.ir_types.specs.TypeNodes.{TypeNode, scalar, called, array, opening, closing}
use Rattle.ir_types.specs.Collected.{collected}
use Rattle.ir_types.specs.FlagForms.{no_flags, wrap_flags, exact_flag, disjoint_flag}
use Rattle.ir_types.specs.ValueForms.{width_of}
use Rattle.ir_types.specs.Words.{kept}
use Rattle.ir_types.specs.InstForms.{bits_for, element_of, shuffled, inst_attachments}
use Rattle.ir_types.specs.ItemForms.{equal_string, target_line, attribute_group, comdat, metadata, behind_type}
use Rattle.ir_types.specs.Tree.{KeptTexts, OperandTree, local, number, null, poison, lanes, global, out_of_range, InstTree, BlockTree, ParamTree, FunctionTree, ModuleTree, VariableTree, Item, head_line, comdat_line, type_item, variable_item, function_item, attribute_line, metadata_line}

-- a number as a name has 32 bits
abbrev pub IsName : Name → Type 0
IsName (Text s) = Unit {0}
IsName (Number n) = n < 2 ^ 32

-- a name, where there is one
abbrev pub IsNameThere : Option Name → Type 0
IsNameThere None = Unit {0}
IsNameThere (Some n) = IsName n

-- the types of what a function returns: one of a value, or none
abbrev pub IsReturnType : Ty → Type 0
IsReturnType Void = Unit {0}
IsReturnType t = IsType t

-- a form spells these texts by the tokens with these texts
pub record IsKept (form : Form KeptTexts) (xs : KeptTexts) : Type 0 where
  pub spelled : Spells form xs (map token_of xs)
  pub tokens : AllByRecursion IsToken xs

-- ---- memory types

-- a memory type by its nodes, nested at most so deep: a type of values, a name, an array of so many of one, or a struct of some behind which it is closed
abbrev pub IsNested : ℕ → List TypeNode → Type 0
IsNested zero nodes = ⊥
IsNested (suc depth) [] = ⊥
IsNested (suc depth) (scalar t ∷ rest) = IsType t × (rest ≡ [])
IsNested (suc depth) (called n ∷ rest) = IsName n × (rest ≡ [])
IsNested (suc depth) (array n ∷ rest) = (n < 2 ^ 64) × IsNested depth rest
IsNested (suc depth) (opening packed ∷ rest) = (members : List (List TypeNode)) × (rest ≡ concat members ++ closing ∷ []) × AllByRecursion (IsNested depth) members
IsNested (suc depth) (closing ∷ rest) = ⊥

-- the nodes of one memory type, as it can be written
pub record IsMemory (nodes : List TypeNode) : Type 0 where
  pub depth : ℕ
  pub nested : IsNested depth nodes

-- ---- instructions

-- a number of so many bits
abbrev pub IsBelow : ℕ → ℕ → Type 0
IsBelow w n = n < 2 ^ w

-- a lane of so many bits: a number, or none where it is poison
abbrev pub IsLane : ℕ → Option ℕ → Type 0
IsLane w None = Unit {0}
IsLane w (Some v) = IsBelow w v

-- lanes at a type: a vector's, and there is one at least
abbrev pub AreLanes : Ty → List (Option ℕ) → Type 0
AreLanes (Vector n w) xs = (0 < length xs) × AllByRecursion (IsLane w) xs
AreLanes t xs = ⊥

-- a name, a number of the type, `null`, `poison`, lanes, or a symbol and a number of bytes of 64 bits; no number is out of its type's range
abbrev pub IsOperand : Ty → OperandTree → Type 0
IsOperand t (local n) = IsName n
IsOperand t (number v) = IsBelow (width_of t) v
IsOperand t null = Unit {0}
IsOperand t poison = Unit {0}
IsOperand t (lanes xs) = AreLanes t xs
IsOperand t (global n bytes) = IsName n × IsBelow 64 bytes
IsOperand t (out_of_range n) = ⊥

-- the same in an instruction that is wide or not: a wide one's may be out of range
abbrev pub IsOperandIn : Bool → Ty → OperandTree → Type 0
IsOperandIn wide t (out_of_range n) = (wide ≡ true) × IsNameThere n
IsOperandIn wide t a = IsOperand t a

-- a type that is written, and an operand at it
abbrev pub IsTyped : Ty → OperandTree → Type 0
IsTyped t a = IsType t × IsOperand t a

-- the same in an instruction that is wide or not
abbrev pub IsTypedIn : Bool → Ty → OperandTree → Type 0
IsTypedIn wide t a = IsType t × IsOperandIn wide t a

-- how many labels an instruction with so many operands has
abbrev pub label_count : Kind → ℕ → ℕ
label_count Phi n = n
label_count Jump n = 1
label_count Branch n = 2
label_count (Switch w cases) n = suc (length cases)
label_count kind n = 0

-- an instruction ends a block
abbrev pub IsTerminator : Kind → Type 0
IsTerminator Jump = Unit {0}
IsTerminator Branch = Unit {0}
IsTerminator (Switch w cases) = Unit {0}
IsTerminator ReturnVoid = Unit {0}
IsTerminator (Return u) = Unit {0}
IsTerminator Unreachable = Unit {0}
IsTerminator kind = ⊥

-- the result's type: one that follows from the operands', or one that is written, for a call perhaps `Void`; none of a store and a terminator
abbrev pub HasResult : Kind → Ty → Type 0
HasResult (Compare p u) t = t ≡ bits_for u
HasResult (Offset nodes indexes inbounds nuw nusw) t = t ≡ Ptr
HasResult (Call callee) t = IsReturnType t
HasResult (Extract u w) t = t ≡ element_of u
HasResult (Shuffle u v mask) t = t ≡ shuffled u mask
HasResult (Store u n) t = t ≡ Void
HasResult Jump t = t ≡ Void
HasResult Branch t = t ≡ Void
HasResult (Switch w cases) t = t ≡ Void
HasResult ReturnVoid t = t ≡ Void
HasResult (Return u) t = t ≡ Void
HasResult Unreachable t = t ≡ Void
HasResult kind t = IsType t

-- the flags that an operator may have; of the minima and maxima, which no instruction's word spells, there is no instruction
abbrev pub HasFlags : BinOp → Flags → Type 0
HasFlags Add f = f ≡ wrap_flags (f.nuw, f.nsw)
HasFlags Sub f = f ≡ wrap_flags (f.nuw, f.nsw)
HasFlags Mul f = f ≡ wrap_flags (f.nuw, f.nsw)
HasFlags Shl f = f ≡ wrap_flags (f.nuw, f.nsw)
HasFlags UDiv f = f ≡ exact_flag f.exact
HasFlags SDiv f = f ≡ exact_flag f.exact
HasFlags URem f = f ≡ no_flags
HasFlags SRem f = f ≡ no_flags
HasFlags LShr f = f ≡ exact_flag f.exact
HasFlags AShr f = f ≡ exact_flag f.exact
HasFlags And f = f ≡ no_flags
HasFlags Or f = f ≡ disjoint_flag f.disjoint
HasFlags Xor f = f ≡ no_flags
HasFlags SMin f = ⊥
HasFlags SMax f = ⊥
HasFlags UMin f = ⊥
HasFlags UMax f = ⊥

-- the types that a call writes before the function's name, where it writes them
abbrev pub IsSignature : Option Signature → Type 0
IsSignature None = Unit {0}
IsSignature (Some s) = AllByRecursion IsType s.params

-- what is called: its name, the types that are written, and what is kept before its result's type, behind each argument's type and behind all
pub record IsCallee (c : Callee) : Type 0 where
  pub before : IsKept kept c.before
  pub signature : IsSignature c.signature
  pub name : IsName c.name
  pub actuals : AllByRecursion (λ (a : Actual). IsKept kept a.kept) c.actuals
  pub after : IsKept kept c.after

-- what else is known of an instruction with so many operands: its flags, its memory type, its alignment, that there is an entry or an index, that
-- cases are numbers of their type, and what is called
abbrev pub HasParts : Kind → ℕ → Type 0
HasParts (Binary op f) n = HasFlags op f
HasParts Phi n = 0 < n
HasParts (Offset nodes indexes inbounds nuw nusw) n = IsMemory nodes × (0 < length indexes)
HasParts (Load align) n = IsBelow 64 align
HasParts (Store u align) n = IsBelow 64 align
HasParts (Call callee) n = IsCallee callee
HasParts (Switch w cases) n = AllByRecursion (IsBelow w) cases
HasParts kind n = Unit {0}

-- an instruction but for its result's name and its attachments, each of whose operands is so at its type
pub record IsBodyOf (P : Ty → OperandTree → Type 0) (i : InstTree) : Type 0 where
  pub args : AllZip P (operand_types i.kind i.ty (length i.args)) i.args
  pub labels : AllByRecursion IsName i.labels
  pub count : length i.labels ≡ label_count i.kind (length i.args)
  pub result : HasResult i.kind i.ty
  pub parts : HasParts i.kind (length i.args)

-- the same, where no operand is out of range
abbrev pub IsBody : InstTree → Type 0
IsBody i = IsBodyOf IsTyped i

-- what has a type has a name
abbrev pub IsResult : Ty → Option Name → Type 0
IsResult Void None = Unit {0}
IsResult t None = ⊥
IsResult t (Some n) = IsName n

-- an instruction, with its result's name where its type has a value: only a wide one has an operand that is out of range
pub record IsReadInst (i : InstTree) : Type 0 where
  pub body : IsBodyOf (IsTypedIn i.wide) i
  pub result : IsResult i.ty i.result
  pub attachments : IsKept inst_attachments i.kept

-- an instruction that can be printed: the same, and not wide
pub record IsInst (i : InstTree) : Type 0 where
  pub body : IsBody i
  pub result : IsResult i.ty i.result
  pub attachments : IsKept inst_attachments i.kept
  pub narrow : i.wide ≡ false

-- a terminator is the last instruction, and no other is one
abbrev pub EndsOnce : List Kind → Type 0
EndsOnce [] = ⊥
EndsOnce (k ∷ []) = IsTerminator k
EndsOnce (k ∷ l ∷ ks) = (¬ IsTerminator k) × EndsOnce (l ∷ ks)

-- a block: a name, and instructions that are so, of which the last and no other is a terminator
pub record IsBlockOf (P : InstTree → Type 0) (b : BlockTree) : Type 0 where
  pub name : IsName b.name
  pub insts : AllByRecursion P b.insts
  pub ending : EndsOnce (map (λ i. i.kind) b.insts)

-- one that can be printed
abbrev pub IsBlock : BlockTree → Type 0
IsBlock b = IsBlockOf IsInst b

-- ---- what is kept

-- what a function keeps before its result's type: attachments and a run where it is declared, a run where it is defined
abbrev pub before_form : List BlockTree → Form KeptTexts
before_form [] = joined attachments kept
before_form (b ∷ bs) = kept

-- and behind its parameters
abbrev pub after_form : List BlockTree → Form KeptTexts
after_form [] = kept
after_form (b ∷ bs) = joined kept attachments

-- a line of a module's head
abbrev pub head_form : Form KeptTexts
head_form = either (joined (kept_token Word (codes "source_filename")) equal_string) (joined (kept_token Word (codes "target")) target_line)

-- a group of attributes
abbrev pub attributes_form : Form KeptTexts
attributes_form = joined (kept_token Word (codes "attributes")) attribute_group

-- ---- functions, types and modules

-- a parameter: a type that is written, a kept run, and a name
pub record IsParam (p : ParamTree) : Type 0 where
  pub ty : IsType p.ty
  pub kept_texts : IsKept kept p.kept
  pub name : IsName p.name

-- a function whose instructions are so, declared where it has no block; only a declared one takes further arguments
pub record IsFunctionOf (P : InstTree → Type 0) (f : FunctionTree) : Type 0 where
  pub name : IsName f.name
  pub before : IsKept (before_form f.body) f.before
  pub ret : IsReturnType f.ret
  pub params : AllByRecursion IsParam f.params
  pub fixed : f.varargs ≡ true → f.body ≡ []
  pub after : IsKept (after_form f.body) f.after
  pub blocks : AllByRecursion (IsBlockOf P) f.body

-- one that can be printed
abbrev pub IsFunction : FunctionTree → Type 0
IsFunction f = IsFunctionOf IsInst f

-- the type of a definition, where it is not opaque
abbrev pub IsDefinition : Option (List TypeNode) → Type 0
IsDefinition None = Unit {0}
IsDefinition (Some nodes) = IsMemory nodes

-- a variable
pub record IsVariable (v : VariableTree) : Type 0 where
  pub name : IsName v.name
  pub before : IsKept kept v.before
  pub ty : IsMemory v.ty
  pub after : IsKept behind_type v.after

-- an item, where instructions are so
abbrev pub IsItemOf : (InstTree → Type 0) → Item FunctionTree → Type 0
IsItemOf P (head_line xs) = IsKept head_form xs
IsItemOf P (comdat_line xs) = IsKept comdat xs
IsItemOf P (type_item n t) = IsName n × IsDefinition t
IsItemOf P (variable_item v) = IsVariable v
IsItemOf P (function_item f) = IsFunctionOf P f
IsItemOf P (attribute_line xs) = IsKept attributes_form xs
IsItemOf P (metadata_line xs) = IsKept metadata xs

-- one that can be printed
abbrev pub IsItem : Item FunctionTree → Type 0
IsItem i = IsItemOf IsInst i

-- a module whose instructions are so: what such items are collected to
pub record IsModuleOf (P : InstTree → Type 0) (m : ModuleTree) : Type 0 where
  pub items : List (Item FunctionTree)
  pub known : AllByRecursion (IsItemOf P) items
  pub says : collected items ≡ m

-- the tree has the shape of a module
abbrev pub HasShape : ModuleTree → Type 0
HasShape m = IsModuleOf IsReadInst m

-- one that can be printed
abbrev pub IsPrintable : ModuleTree → Type 0
IsPrintable m = IsModuleOf IsInst m
