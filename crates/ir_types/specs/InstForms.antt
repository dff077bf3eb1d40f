-- The grammar of instructions, where names of types are defined so.
use Rattle.std.specs.Prelude.{ℕ, Bool, true, false, not, ◌||◌, List, [], ◌∷◌, map, codes, ◌==◌, Option, Some, None, if◌then◌else◌}
use Rattle.std.specs.List.{list_all, list_any}
use Rattle.text_forms.specs.declared.TokenKind.TheVariants.{Number, Comma, LeftParen, RightParen, LeftBracket, RightBracket}
use Rattle.text_forms.specs.Form.{Form, one, pair, either, mapped, made, optional, many, by_word}
use Rattle.text_forms.specs.Reading.{◌>>=◌}
use Rattle.text_forms.specs.Combined.{word, behind, after_mark, between, marked, some, commas, list}
use Rattle.ir_types.specs.declared.name.Name.{Name}
use Rattle.ir_types.specs.declared.inst.Ty.{Ty}
use Rattle.ir_types.specs.declared.inst.Ty.TheVariants.{Int, Ptr, Vector, Void}
use Rattle.ir_types.specs.declared.inst.BinOp.{BinOp}
use Rattle.ir_types.specs.declared.inst.BinOp.TheVariants.{Or}
use Rattle.ir_types.specs.declared.inst.Flags.{Flags}
use Rattle.ir_types.specs.Kinds.{Kind}
use Rattle.ir_types.specs.Kinds as kinds
use Rattle.ir_types.specs.declared.inst.Pred.{Pred}
use Rattle.ir_types.specs.declared.inst.Pred.TheVariants.{Eq, Ne, Ugt, Uge, Ult, Ule, Sgt, Sge, Slt, Sle}
use Rattle.ir_types.specs.declared.opcode.Operation.{Operation}
use Rattle.ir_types.specs.declared.opcode.Operation.TheVariants as operations
use Rattle.ir_types.specs.declared.call.Actual.{Actual}
use Rattle.ir_types.specs.declared.call.Signature.{Signature}
use Rattle.ir_types.specs.declared.call.TailKind.{TailKind}
use Rattle.ir_types.specs.declared.call.TailKind.TheVariants.{Unmarked, Tail, MustTail, NoTail}
use Rattle.ir_types.specs.declared.opcode.Terminator.{Terminator}
use Rattle.ir_types.specs.declared.opcode.Terminator.TheVariants as terminators
use Rattle.ir_types.specs.Written.{number_at}
use Rattle.text_forms.specs.Nested.{concat}
use Rattle.text_forms.specs.Kept.{attachment, kept_behind_comma}
use Rattle.ir_types.specs.Offsets.{Definitions}
use Rattle.ir_types.specs.TypeNodes.{TypeNode}
use Rattle.ir_types.specs.Tree.{KeptTexts, OperandTree, out_of_range, InstTree}
use Rattle.ir_types.specs.TypeForms.{local_name, global_name, width, value_type, return_type, inst_memory}
use Rattle.ir_types.specs.FlagForms.{one_flag, two_flags, three_flags, no_flags, wrap_flags, exact_flag, disjoint_flag}
use Rattle.ir_types.specs.ValueForms.{WrittenValue, value, index_fits, operand_at}
use Rattle.ir_types.specs.Words.{operation_words, terminator_words, kept}
use Rattle.ir_types.specs.InstParts.{TypedOperand, typed_value, comma_typed, typed_pair, pointer_value, index_value, to_type, target, alignment, align_or, dotted_list}

-- ---- without the name of the result and attachments

-- an instruction of its kind, its result's type, its operands and labels
abbrev pub bare_inst : Kind → Ty → List OperandTree → List Name → InstTree
bare_inst kind ty args labels = record { kind = kind; ty = ty; args = args; labels = labels; result = None; wide = false; kept = [] }

-- an operation of two operands at one type, which is the result's
abbrev pub binary_tree : BinOp → Flags → Ty × (OperandTree × OperandTree) → InstTree
binary_tree op flags (t, (a, b)) = bare_inst (kinds.Binary op flags) t (a ∷ b ∷ []) []

-- [nuw] [nsw] T V, V
unfoldable pub overflowing : Definitions → BinOp → Form InstTree
overflowing defs op = mapped (λ (flags, operands). binary_tree op (wrap_flags flags) operands) (pair (two_flags (codes "nuw") (codes "nsw")) (typed_pair defs))

-- [exact] T V, V
unfoldable pub possibly_exact : Definitions → BinOp → Form InstTree
possibly_exact defs op = mapped (λ (exact, operands). binary_tree op (exact_flag exact) operands) (pair (one_flag (codes "exact")) (typed_pair defs))

-- T V, V
unfoldable pub plain_binary : Definitions → BinOp → Form InstTree
plain_binary defs op = mapped (binary_tree op no_flags) (typed_pair defs)

-- [disjoint] T V, V
unfoldable pub or_operation : Definitions → Form InstTree
or_operation defs = mapped (λ (disjoint, operands). binary_tree Or (disjoint_flag disjoint) operands) (pair (one_flag (codes "disjoint")) (typed_pair defs))

-- the ten predicates
unfoldable pub predicates : List (List ℕ × Pred)
predicates =
    (codes "eq", Eq) ∷ (codes "ne", Ne) ∷ (codes "ugt", Ugt) ∷ (codes "uge", Uge) ∷
    (codes "ult", Ult) ∷ (codes "ule", Ule) ∷ (codes "sgt", Sgt) ∷ (codes "sge", Sge) ∷
    (codes "slt", Slt) ∷ (codes "sle", Sle) ∷ []

-- the type of a comparison's result: a bit, or a bit for each lane
abbrev pub bits_for : Ty → Ty
bits_for (Vector n w) = Vector n 1
bits_for (Int w) = Int 1
bits_for Ptr = Int 1
bits_for Void = Int 1

-- a comparison of two operands at one type
abbrev pub compare_tree : Pred → Ty × (OperandTree × OperandTree) → InstTree
compare_tree p (t, (a, b)) = bare_inst (kinds.Compare p t) (bits_for t) (a ∷ b ∷ []) []

-- T V, V behind the predicate
unfoldable pub compared : Definitions → Pred → Form InstTree
compared defs p = mapped (compare_tree p) (typed_pair defs)

-- pred T V, V
unfoldable pub compare : Definitions → Form InstTree
compare defs = by_word predicates (compared defs)

-- three values with their types
abbrev pub three_values : Definitions → Form (TypedOperand × (TypedOperand × TypedOperand))
three_values defs = pair (typed_value defs) (pair (comma_typed defs) (comma_typed defs))

-- a condition and two arms; the result has the first arm's type
abbrev pub select_tree : TypedOperand × (TypedOperand × TypedOperand) → InstTree
select_tree ((bits, c), ((t, a), (u, b))) = bare_inst (kinds.Select bits u) t (c ∷ a ∷ b ∷ []) []

-- T V, T V, T V
unfoldable pub select : Definitions → Form InstTree
select defs = mapped select_tree (three_values defs)

-- a value of its own type
abbrev pub freeze_tree : TypedOperand → InstTree
freeze_tree (t, a) = bare_inst kinds.Freeze t (a ∷ []) []

-- T V
unfoldable pub freeze : Definitions → Form InstTree
freeze defs = mapped freeze_tree (typed_value defs)

-- a cast of a value to a type
abbrev pub cast_tree : (Ty → Kind) → TypedOperand × Ty → InstTree
cast_tree kind ((from, a), to) = bare_inst (kind from) to (a ∷ []) []

-- [nuw] [nsw] T V to T
unfoldable pub trunc : Definitions → Form InstTree
trunc defs = mapped (λ ((nuw, nsw), cast). cast_tree (λ t. kinds.Trunc t nuw nsw) cast) (pair (two_flags (codes "nuw") (codes "nsw")) (pair (typed_value defs) to_type))

-- [nneg] T V to T
unfoldable pub zext : Definitions → Form InstTree
zext defs = mapped (λ (nneg, cast). cast_tree (λ t. kinds.Zext t nneg) cast) (pair (one_flag (codes "nneg")) (pair (typed_value defs) to_type))

-- T V to T
unfoldable pub sext : Definitions → Form InstTree
sext defs = mapped (cast_tree kinds.Sext) (pair (typed_value defs) to_type)

-- the address of a pointer at a type
abbrev pub address_tree : OperandTree × Ty → InstTree
address_tree (a, t) = bare_inst kinds.PtrToInt t (a ∷ []) []

-- ptr V to T
unfoldable pub ptrtoint : Definitions → Form InstTree
ptrtoint defs = mapped address_tree (pair (pointer_value defs) to_type)

-- [ V, %name ]
unfoldable pub entry_of_phi : Form (WrittenValue × Name)
entry_of_phi = between LeftBracket RightBracket (pair value (after_mark Comma local_name))

-- the operands of a phi's entries at its type
abbrev pub entries_at : Definitions → Ty → List (WrittenValue × Name) → Option (List OperandTree)
entries_at defs t [] = Some []
entries_at defs t ((v, l) ∷ es) = operand_at defs t v >>= λ a. entries_at defs t es >>= λ bs. Some (a ∷ bs)

-- a phi: its operands at its type, and a label for each
abbrev pub phi_tree : Definitions → Ty × List (WrittenValue × Name) → Option InstTree
phi_tree defs (t, entries) = entries_at defs t entries >>= λ args. Some (bare_inst kinds.Phi t args (map (λ (_, l). l) entries))

-- T [ V, %name ], ..
unfoldable pub phi : Definitions → Form InstTree
phi defs = made (phi_tree defs) (pair value_type (commas entry_of_phi))

-- a pointer that is stepped from through a memory type, by indexes
abbrev pub offset_tree : (Bool × (Bool × Bool)) × (List TypeNode × (OperandTree × List (ℕ × OperandTree))) → InstTree
offset_tree ((inbounds, (nuw, nusw)), (m, (a, indexes))) = bare_inst (kinds.Offset m (map (λ (w, _). w) indexes) inbounds nuw nusw) Ptr (a ∷ map (λ (_, i). i) indexes) []

-- [inbounds] [nuw] [nusw] M, ptr V, iN V, ..
unfoldable pub getelementptr : Definitions → Form InstTree
getelementptr defs = mapped offset_tree (pair three_flags (pair inst_memory (pair (after_mark Comma (pointer_value defs)) (some (marked Comma (index_value defs))))))

-- a load from a pointer
abbrev pub load_tree : Ty × (OperandTree × Option ℕ) → InstTree
load_tree (t, (p, align)) = bare_inst (kinds.Load (align_or t align)) t (p ∷ []) []

-- T, ptr V [, align n]
unfoldable pub load : Definitions → Form InstTree
load ds = mapped load_tree (pair value_type (pair (after_mark Comma (pointer_value ds)) alignment))

-- a store of a value to a pointer
abbrev pub store_tree : TypedOperand × (OperandTree × Option ℕ) → InstTree
store_tree ((t, a), (p, align)) = bare_inst (kinds.Store t (align_or t align)) Void (a ∷ p ∷ []) []

-- T V, ptr V [, align n]
unfoldable pub store : Definitions → Form InstTree
store defs = mapped store_tree (pair (typed_value defs) (pair (after_mark Comma (pointer_value defs)) alignment))

-- the type of a vector's elements, and any other type itself
abbrev pub element_of : Ty → Ty
element_of (Vector n w) = Int w
element_of (Int w) = Int w
element_of Ptr = Ptr
element_of Void = Void

-- a lane of a vector
abbrev pub extract_tree : TypedOperand × (ℕ × OperandTree) → InstTree
extract_tree ((t, a), (w, i)) = bare_inst (kinds.Extract t w) (element_of t) (a ∷ i ∷ []) []

-- T V, iN V
unfoldable pub extractelement : Definitions → Form InstTree
extractelement ds = mapped extract_tree (pair (typed_value ds) (after_mark Comma (index_value ds)))

-- a vector with another lane
abbrev pub insert_tree : TypedOperand × (TypedOperand × (ℕ × OperandTree)) → InstTree
insert_tree ((t, a), ((u, b), (w, i))) = bare_inst (kinds.Insert u w) t (a ∷ b ∷ i ∷ []) []

-- T V, T V, iN V
unfoldable pub insertelement : Definitions → Form InstTree
insertelement defs = mapped insert_tree (pair (typed_value defs) (pair (comma_typed defs) (after_mark Comma (index_value defs))))

-- the type of lanes of the first that a mask of the second chooses: the mask's number of them; where one is no vector, the first
abbrev pub shuffled : Ty → Ty → Ty
shuffled (Vector n w) (Vector m v) = Vector m w
shuffled t u = t

-- two vectors and a mask
abbrev pub shuffle_tree : TypedOperand × (TypedOperand × TypedOperand) → InstTree
shuffle_tree ((t, a), ((u, b), (m, mask))) = bare_inst (kinds.Shuffle t u m) (shuffled t m) (a ∷ b ∷ mask ∷ []) []

-- T V, T V, T V
unfoldable pub shufflevector : Definitions → Form InstTree
shufflevector defs = mapped shuffle_tree (three_values defs)

-- an argument at its type
abbrev pub actual_at : Definitions → Ty × (KeptTexts × WrittenValue) → Option (Actual × OperandTree)
actual_at defs (t, (k, v)) = operand_at defs t v >>= λ a. Some (record { ty = t; kept = k }, a)

-- T K V
unfoldable pub argument : Definitions → Form (Actual × OperandTree)
argument defs = made (actual_at defs) (pair value_type (pair kept value))

-- ( T, .. [, ...] )
unfoldable pub signature : Form Signature
signature = mapped (λ (params, varargs). record { params = params; varargs = varargs }) (between LeftParen RightParen (dotted_list value_type))

-- a call, whose operands are the arguments
abbrev pub call_tree : TailKind → KeptTexts × (Ty × (Option Signature × (Name × (List (Actual × OperandTree) × KeptTexts)))) → InstTree
call_tree tail (before, (t, (s, (name, (arguments, after))))) =
    bare_inst (kinds.Call (record { tail = tail; before = before; signature = s; name = name; actuals = map (λ (actual, _). actual) arguments; after = after }))
    t (map (λ (_, a). a) arguments) []

-- K R [( T, .. [, ...] )] @name ( T K V, .. ) K
unfoldable pub call : Definitions → TailKind → Form InstTree
call defs tail = mapped (call_tree tail) (pair kept (pair return_type (pair (optional signature) (pair global_name (pair (between LeftParen RightParen (list (argument defs))) kept)))))

-- what is behind the first word of a call: the same, and where that word is `tail`, `musttail` or `notail`, `call` before it
abbrev pub call_behind : Definitions → TailKind → Form InstTree
call_behind defs Unmarked = call defs Unmarked
call_behind defs Tail = behind (codes "call") (call defs Tail)
call_behind defs MustTail = behind (codes "call") (call defs MustTail)
call_behind defs NoTail = behind (codes "call") (call defs NoTail)

-- a jump to a block
abbrev pub jump_tree : Name → InstTree
jump_tree l = bare_inst kinds.Jump Void [] (l ∷ [])

-- a condition, and the labels for true and for false
abbrev pub branch_tree : Definitions → WrittenValue × (Name × Name) → Option InstTree
branch_tree defs (v, (on_true, on_false)) = operand_at defs (Int 1) v >>= λ a. Some (bare_inst kinds.Branch Void (a ∷ []) (on_true ∷ on_false ∷ []))

-- label %name | i1 V, label %name, label %name
unfoldable pub branch : Definitions → Form InstTree
branch defs = either (mapped jump_tree target) (made (branch_tree defs) (behind (codes "i1") (pair value (pair (after_mark Comma target) (after_mark Comma target)))))

-- iN number, label %name
unfoldable pub case_of_switch : Form ((ℕ × List ℕ) × Name)
case_of_switch = pair (pair width (one Number)) (after_mark Comma target)

-- the numbers of the cases, each of this width, modulo 2^w
abbrev pub cases_at : ℕ → List ((ℕ × List ℕ) × Name) → Option (List ℕ)
cases_at w cs = if list_all (λ ((v, _), _). v == w) cs then Some (map (λ ((_, s), _). number_at w s) cs) else None

-- an instruction that is wide where this says so
abbrev pub if_wide : Bool → InstTree → InstTree
if_wide wide i = record i { wide = wide }

-- a value with its width, the label of the default, and the cases
abbrev pub switch_tree : (ℕ × OperandTree) × (Name × List ((ℕ × List ℕ) × Name)) → Option InstTree
switch_tree ((w, a), (other, cases)) =
    cases_at w cases >>= λ ns.
    Some (if_wide (list_any (λ (n, _). not (index_fits n)) cases) (bare_inst (kinds.Switch w ns) Void (a ∷ []) (other ∷ map (λ (_, l). l) cases)))

-- iN V, label %name [ iN number, label %name .. ]
unfoldable pub switch : Definitions → Form InstTree
switch defs = made switch_tree (pair (index_value defs) (pair (after_mark Comma target) (between LeftBracket RightBracket (many case_of_switch))))

-- a return of a value at its type
abbrev pub return_tree : TypedOperand → InstTree
return_tree (t, a) = bare_inst (kinds.Return t) Void (a ∷ []) []

-- a return of no value
abbrev pub void_tree : InstTree
void_tree = bare_inst kinds.ReturnVoid Void [] []

-- T V | void
unfoldable pub ret : Definitions → Form InstTree
ret defs = either (mapped return_tree (typed_value defs)) (word (codes "void") void_tree)

-- what is never reached
abbrev pub unreachable_tree : InstTree
unreachable_tree = bare_inst kinds.Unreachable Void [] []

-- ---- with their words and attachments

-- A: as many attachments as stand there, each behind a comma
unfoldable pub inst_attachments : Form KeptTexts
inst_attachments = mapped concat (many (kept_behind_comma attachment))

-- whether an operand has a number out of its type's range
abbrev pub is_out_of_range : OperandTree → Bool
is_out_of_range (out_of_range n) = true
is_out_of_range a = false

-- an instruction with these attachments; an operand that is out of range makes it wide
abbrev pub with_kept : InstTree → KeptTexts → InstTree
with_kept i kept = record i { wide = list_any is_out_of_range i.args || i.wide; kept = kept }

-- an instruction, and its attachments behind it
abbrev pub attached : Form InstTree → Form InstTree
attached f = mapped (λ (i, texts). with_kept i texts) (pair f inst_attachments)

-- what is behind such a word, before the attachments
abbrev pub operation_behind : Definitions → Operation → Form InstTree
operation_behind defs (operations.Overflowing op) = overflowing defs op
operation_behind defs (operations.PossiblyExact op) = possibly_exact defs op
operation_behind defs (operations.Plain op) = plain_binary defs op
operation_behind defs operations.Or = or_operation defs
operation_behind defs operations.Icmp = compare defs
operation_behind defs operations.Select = select defs
operation_behind defs operations.Freeze = freeze defs
operation_behind defs operations.Trunc = trunc defs
operation_behind defs operations.Zext = zext defs
operation_behind defs operations.Sext = sext defs
operation_behind defs operations.PtrToInt = ptrtoint defs
operation_behind defs operations.Phi = phi defs
operation_behind defs operations.GetElementPtr = getelementptr defs
operation_behind defs operations.Load = load defs
operation_behind defs operations.Store = store defs
operation_behind defs (operations.Call tail) = call_behind defs tail
operation_behind defs operations.ExtractElement = extractelement defs
operation_behind defs operations.InsertElement = insertelement defs
operation_behind defs operations.ShuffleVector = shufflevector defs

-- an instruction that doesn't end a block
unfoldable pub operation : Definitions → Form InstTree
operation defs = attached (by_word operation_words (operation_behind defs))

abbrev pub terminator_behind : Definitions → Terminator → Form InstTree
terminator_behind defs terminators.Br = branch defs
terminator_behind defs terminators.Switch = switch defs
terminator_behind defs terminators.Ret = ret defs

-- an instruction that ends a block
unfoldable pub terminator : Definitions → Form InstTree
terminator defs = attached (either (by_word terminator_words (terminator_behind defs)) (word (codes "unreachable") unreachable_tree))
