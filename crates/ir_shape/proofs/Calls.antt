-- What is known of calls and of `getelementptr` that tokens spell.
use Rattle.std.proofs.Common.{ℕ, true, List, [], ◌∷◌, Option, Some, None, refl, subst}
use Rattle.std.specs.Prelude.{map, codes}
use Rattle.std.specs.List.{AllByRecursion, AllZip}
use Rattle.std.proofs.lemmas.List.{length-map}
use Rattle.text_forms.specs.declared.TokenKind.TheVariants.{Comma, LeftParen, RightParen}
use Rattle.text_forms.proofs.Sound.{bind_some}
use Rattle.text_forms.proofs.Exact.{some_is}
use Rattle.ir_types.specs.declared.inst.Ty.TheVariants.{Int, Ptr}
use Rattle.ir_types.specs.declared.call.Actual.{Actual}
use Rattle.ir_types.specs.declared.call.Signature.{Signature}
use Rattle.ir_types.specs.declared.call.TailKind.{TailKind}
use Rattle.ir_types.specs.declared.call.TailKind.TheVariants.{Unmarked, Tail, MustTail, NoTail}
use Rattle.ir_types.specs.Kinds.{Offset}
use Rattle.ir_types.specs.Offsets.{Definitions}
use Rattle.ir_types.specs.Tree.{OperandTree}
use Rattle.ir_types.specs.ValueForms.{operand_at}
use Rattle.ir_types.specs.InstForms.{getelementptr, argument, signature, call_tree, call, call_behind}
use Rattle.ir_shape.specs.Shape.{IsKept, IsType, IsTypedIn, IsSignature}
use Rattle.ir_types.specs.Words.{kept}
use Rattle.ir_shape.proofs.Sure.{Sure, any_sure, pair_sure, mapped_sure, made_sure, IsThere, optional_sure, behind_sure, after_mark_sure, between_sure, marked_sure, some_sure, list_sure}
use Rattle.ir_shape.proofs.Values.{global_sure, type_sure, return_type_sure, value_sure, operand_is, pointer_sure, index_sure}
use Rattle.ir_shape.proofs.Runs.{run_sure, dotted_sure}
use Rattle.ir_shape.proofs.Memory.{inst_memory_sure}
use Rattle.ir_shape.proofs.Bodies.{IsOperationBody, operation_of}

-- ---- getelementptr

abbrev IsIndex : ℕ × OperandTree → Type 0
IsIndex x = IsTypedIn true (Int x.0) x.1

indexes_are : (xs : List (ℕ × OperandTree)) → AllByRecursion IsIndex xs → AllZip (IsTypedIn true) (map Int (map (λ x. x.0) xs)) (map (λ x. x.1) xs)
indexes_are [] h = tt
indexes_are (x ∷ xs) h = (h.0, indexes_are xs h.1)

-- what the form of `getelementptr` reads is an operation's body
pub offset_sure : (defs : Definitions) → Sure (getelementptr defs) IsOperationBody
unfolding getelementptr
offset_sure defs = mapped_sure (pair_sure any_sure (pair_sure inst_memory_sure (pair_sure (after_mark_sure Comma (pointer_sure defs)) (some_sure (marked_sure Comma (index_sure defs)))))) (λ x h.
    let indexes = x.1.1.1 in
    let widths = map (λ (i : ℕ × OperandTree). i.0) indexes in
    operation_of (Offset x.1.0 widths x.0.0 x.0.1.0 x.0.1.1) Ptr (x.1.1.0 ∷ map (λ i. i.1) indexes) (h.1.1.0, indexes_are indexes h.1.1.1.1) refl refl (h.1.0, rw (length-map indexes (λ (i : ℕ × OperandTree). i.0)) h.1.1.1.0) (λ b. b))

-- ---- calls

-- an argument
abbrev IsArgument : Actual × OperandTree → Type 0
IsArgument x = IsTypedIn true x.0.ty x.1 × IsKept kept x.0.kept

argument_sure : (defs : Definitions) → Sure (argument defs) IsArgument
unfolding argument
argument_sure defs = made_sure {Q = IsArgument} (pair_sure type_sure (pair_sure run_sure value_sure)) (λ x y h e.
    let a = bind_some (operand_at defs x.0 x.1.1) _ y e in
    subst IsArgument (some_is _ y a.2) ((h.0, operand_is defs x.0 x.1.1 a.0 h.0 h.1.1 a.1), h.1.0))

arguments_are : (xs : List (Actual × OperandTree)) → AllByRecursion IsArgument xs → AllZip (IsTypedIn true) (map (λ a. a.ty) (map (λ x. x.0) xs)) (map (λ x. x.1) xs)
arguments_are [] h = tt
arguments_are (x ∷ xs) h = (h.0.0, arguments_are xs h.1)

actuals_are : (xs : List (Actual × OperandTree)) → AllByRecursion IsArgument xs → AllByRecursion (λ a. IsKept kept a.kept) (map (λ x. x.0) xs)
actuals_are [] h = tt
actuals_are (x ∷ xs) h = (h.0.1, actuals_are xs h.1)

signature_sure : Sure signature (λ s. AllByRecursion IsType s.params)
unfolding signature
signature_sure = mapped_sure (between_sure LeftParen RightParen (dotted_sure type_sure)) (λ x h. h)

there_signature : (o : Option Signature) → IsThere (λ s. AllByRecursion IsType s.params) o → IsSignature o
there_signature None h = tt
there_signature (Some s) h = h

call_sure : (defs : Definitions) (tail : TailKind) → Sure (call defs tail) IsOperationBody
unfolding call
call_sure defs tail = mapped_sure (pair_sure run_sure (pair_sure return_type_sure (pair_sure (optional_sure signature_sure) (pair_sure global_sure (pair_sure (between_sure LeftParen RightParen (list_sure (argument_sure defs))) run_sure))))) (λ x h.
    let arguments = x.1.1.1.1.0 in
    operation_of (call_tree tail x).kind x.1.0 (map (λ a. a.1) arguments) (arguments_are arguments h.1.1.1.1.0) refl h.1.0 (record {
      before = h.0;
      signature = there_signature x.1.1.0 h.1.1.0;
      name = h.1.1.1.0;
      actuals = actuals_are arguments h.1.1.1.1.0;
      after = h.1.1.1.1.1;
    }) (λ b. b))

-- and what is read of a call behind its word
pub call_behind_sure : (defs : Definitions) (tail : TailKind) → Sure (call_behind defs tail) IsOperationBody
call_behind_sure defs Unmarked = call_sure defs Unmarked
call_behind_sure defs Tail = behind_sure (codes "call") (call_sure defs Tail)
call_behind_sure defs MustTail = behind_sure (codes "call") (call_sure defs MustTail)
call_behind_sure defs NoTail = behind_sure (codes "call") (call_sure defs NoTail)
