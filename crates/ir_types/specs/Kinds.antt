-- What an instruction does, with names in the place of positions.
use Rattle.std.specs.Prelude.{ℕ, Bool, true, false, List, [], ◌∷◌, map, replicate}
use Rattle.ir_types.specs.declared.call.Actual.{Actual}
use Rattle.ir_types.specs.declared.call.Callee.{Callee}
use Rattle.ir_types.specs.declared.inst.Ty.{Ty}
use Rattle.ir_types.specs.declared.inst.Ty.TheVariants.{Int, Ptr}
use Rattle.ir_types.specs.declared.inst.BinOp.{BinOp}
use Rattle.ir_types.specs.declared.inst.Flags.{Flags}
use Rattle.ir_types.specs.declared.inst.Pred.{Pred}
use Rattle.ir_types.specs.TypeNodes.{TypeNode}

-- What an instruction does, with the types that the grammar writes beside the result's type. (`InstKind` is the same, but that `getelementptr`
-- holds its memory type's place, and not its nodes.)
pub data Kind : Type 0 where
  -- an operator with its flags
  Binary : BinOp → Flags → Kind
  -- `icmp`: the predicate, and the operands' type
  Compare : Pred → Ty → Kind
  -- `select`: the condition's type, and that of the last arm
  Select : Ty → Ty → Kind
  Freeze : Kind
  -- `trunc`: the operand's type, `nuw` and `nsw`; `zext`: the operand's type and `nneg`; `sext`: the operand's type
  Trunc : Ty → Bool → Bool → Kind
  Zext : Ty → Bool → Kind
  Sext : Ty → Kind
  PtrToInt : Kind
  Phi : Kind
  -- `getelementptr`: the memory type, the indexes' widths, `inbounds`, `nuw` and `nusw`
  Offset : List TypeNode → List ℕ → Bool → Bool → Bool → Kind
  -- `load` and `store`: the alignment; of a store the value's type before it
  Load : ℕ → Kind
  Store : Ty → ℕ → Kind
  Call : Callee → Kind
  -- `extractelement`: the vector's type and the index's width; `insertelement`: the element's type and the index's width
  Extract : Ty → ℕ → Kind
  Insert : Ty → ℕ → Kind
  -- `shufflevector`: the types of both vectors and of the mask
  Shuffle : Ty → Ty → Ty → Kind
  -- `br label`, `br i1`
  Jump : Kind
  Branch : Kind
  -- `switch`: the value's width, and the numbers of the cases
  Switch : ℕ → List ℕ → Kind
  ReturnVoid : Kind
  Return : Ty → Kind
  Unreachable : Kind

-- whether it is a phi
abbrev pub is_phi_kind : Kind → Bool
is_phi_kind Phi = true
is_phi_kind kind = false

-- the types of the arguments that a call writes
abbrev pub actual_types : Callee → List Ty
actual_types callee = map (λ (a : Actual). a.ty) callee.actuals

-- The types of an instruction's operands, in the text's order, by its kind and its result's type. Of a phi, and of no other, their number
-- counts: each entry has the result's type.
abbrev pub operand_types : Kind → Ty → (number : ℕ) → List Ty
operand_types (Binary op flags) ty n = ty ∷ ty ∷ []
operand_types (Compare p of) ty n = of ∷ of ∷ []
operand_types (Select condition last) ty n = condition ∷ ty ∷ last ∷ []
operand_types Freeze ty n = ty ∷ []
operand_types (Trunc from nuw nsw) ty n = from ∷ []
operand_types (Zext from nneg) ty n = from ∷ []
operand_types (Sext from) ty n = from ∷ []
operand_types PtrToInt ty n = Ptr ∷ []
operand_types Phi ty n = replicate n ty
operand_types (Offset nodes widths inbounds nuw nusw) ty n = Ptr ∷ map Int widths
operand_types (Load align) ty n = Ptr ∷ []
operand_types (Store of align) ty n = of ∷ Ptr ∷ []
operand_types (Call callee) ty n = actual_types callee
operand_types (Extract of width) ty n = of ∷ Int width ∷ []
operand_types (Insert element width) ty n = ty ∷ element ∷ Int width ∷ []
operand_types (Shuffle one other mask) ty n = one ∷ other ∷ mask ∷ []
operand_types Jump ty n = []
operand_types Branch ty n = Int 1 ∷ []
operand_types (Switch width cases) ty n = Int width ∷ []
operand_types ReturnVoid ty n = []
operand_types (Return of) ty n = of ∷ []
operand_types Unreachable ty n = []
