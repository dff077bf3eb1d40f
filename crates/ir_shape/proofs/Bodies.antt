-- What is known of instructions that tokens spell, without their results' names and their attachments.
use Rattle.std.proofs.Common.{◌≡◌, Bool, true, List, [], length}
use Rattle.std.specs.List.{AllByRecursion, AllZip}
use Rattle.ir_types.specs.declared.name.Name.{Name}
use Rattle.ir_types.specs.declared.inst.Ty.{Ty}
use Rattle.ir_types.specs.declared.inst.Ty.TheVariants.{Void}
use Rattle.ir_types.specs.Kinds.{Kind, operand_types}
use Rattle.ir_types.specs.Tree.{OperandTree, InstTree}
use Rattle.ir_types.specs.InstForms.{bare_inst, if_wide}
use Rattle.ir_shape.specs.Shape.{IsName, IsTypedIn, label_count, IsTerminator, HasResult, HasParts, IsBodyOf}

-- before it is known whether the instruction is wide
abbrev pub IsBare : InstTree → Type 0
IsBare i = IsBodyOf (IsTypedIn true) i

pub record IsOperationBody (i : InstTree) : Type 0 where
  pub body : IsBare i
  pub goes_on : ¬ IsTerminator i.kind

pub record IsTerminatorBody (i : InstTree) : Type 0 where
  pub body : IsBare i
  pub ends : IsTerminator i.kind

-- without labels
pub operation_of : (k : Kind) (t : Ty) (args : List OperandTree) → AllZip (IsTypedIn true) (operand_types k t (length args)) args → 0 ≡ label_count k (length args) → HasResult k t → HasParts k (length args) → ¬ IsTerminator k → IsOperationBody (bare_inst k t args [])
operation_of k t args h c r p n = record { body = record { args = h; labels = tt; count = c; result = r; parts = p }; goes_on = n }

-- a terminator's kind with its operands, labels and parts makes an instruction's body
pub terminator_of : (k : Kind) (args : List OperandTree) (labels : List Name) → AllZip (IsTypedIn true) (operand_types k Void (length args)) args → AllByRecursion IsName labels → length labels ≡ label_count k (length args) → HasResult k Void → HasParts k (length args) → IsTerminator k → IsTerminatorBody (bare_inst k Void args labels)
terminator_of k args labels h g c r p n = record { body = record { args = h; labels = g; count = c; result = r; parts = p }; ends = n }

-- be it wide or not
pub wide_or_not : (wide : Bool) (i : InstTree) → IsTerminatorBody i → IsTerminatorBody (if_wide wide i)
wide_or_not wide i h = record { body = record { args = h.body.args; labels = h.body.labels; count = h.body.count; result = h.body.result; parts = h.body.parts }; ends = h.ends }
