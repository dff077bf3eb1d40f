-- What is known of instructions that tokens spell.
use Rattle.std.proofs.Common.{◌≡◌, ◌||◌, ◌<◌, ◌^◌, ℕ, suc, List, [], ◌∷◌, length, Some, Bool, true, false, refl, sym, ap, ◌∙◌, subst, inl}
use Rattle.std.specs.Prelude.{not, map, codes, replicate}
use Rattle.std.specs.List.{AllByRecursion, AllZip, list_any}
use Rattle.std.proofs.lemmas.List.{length-map}
use Rattle.std.proofs.lemmas.Option.{cond_some}
use Rattle.text_forms.specs.declared.TokenKind.TheVariants.{Comma, LeftBracket, RightBracket}
use Rattle.text_forms.specs.Form.{mapped, by_word}
use Rattle.text_forms.specs.Kept.{kept_behind_comma, attachment}
use Rattle.text_forms.proofs.Sound.{bind_some}
use Rattle.text_forms.proofs.Exact.{some_is}
use Rattle.kept_runs.specs.Verbatim.{Verbatim}
use Rattle.kept_runs.proofs.Verbatim.{verbatim_behind_comma, verbatim_each, verbatim_attachment}
use Rattle.ir_types.specs.declared.name.Name.{Name}
use Rattle.ir_types.specs.declared.inst.Ty.{Ty}
use Rattle.ir_types.specs.declared.inst.Ty.TheVariants.{Int, Void}
use Rattle.ir_types.specs.declared.inst.BinOp.{BinOp}
use Rattle.ir_types.specs.declared.inst.BinOp.TheVariants.{Add, Sub, Mul, Shl, UDiv, SDiv, URem, SRem, LShr, AShr, And, Or, Xor}
use Rattle.ir_types.specs.declared.inst.Flags.{Flags}
use Rattle.ir_types.specs.declared.inst.Pred.{Pred}
use Rattle.ir_types.specs.Kinds.{Binary, Compare, Select, Freeze, Trunc, Zext, Sext, PtrToInt, Phi, Load, Store, Extract, Insert, Shuffle, Jump, Branch, Switch, ReturnVoid, Return, Unreachable}
use Rattle.ir_types.specs.declared.opcode.Terminator.{Terminator}
use Rattle.ir_types.specs.declared.opcode.Terminator.TheVariants as terminators
use Rattle.ir_types.specs.declared.opcode.Operation.{Operation}
use Rattle.ir_types.specs.declared.opcode.Operation.TheVariants as operations
use Rattle.ir_types.specs.Offsets.{Definitions}
use Rattle.ir_types.specs.Written.{number_at}
use Rattle.ir_types.specs.Tree.{KeptTexts, OperandTree, InstTree}
use Rattle.text_forms.specs.Combined.{behind}
use Rattle.ir_types.specs.TypeForms.{value_type}
use Rattle.ir_types.specs.FlagForms.{wrap_flags, exact_flag, disjoint_flag, no_flags}
use Rattle.ir_types.specs.ValueForms.{WrittenValue, operand_at, index_fits}
use Rattle.ir_types.specs.Words.{operation_words}
use Rattle.ir_types.specs.InstParts.{align_or, target}
use Rattle.ir_types.specs.InstForms.{bits_for, element_of, shuffled, bare_inst, binary_tree, overflowing, possibly_exact, plain_binary, or_operation, compared, compare, select, freeze, trunc, zext, sext, ptrtoint, entry_of_phi, entries_at, phi, load, store, extractelement, insertelement, shufflevector, jump_tree, branch, case_of_switch, cases_at, if_wide, is_out_of_range, switch, void_tree, unreachable_tree, ret, inst_attachments, with_kept, operation_behind, operation, terminator_behind, terminator}
use Rattle.ir_shape.specs.Shape.{IsKept, IsName, IsType, IsBelow, IsTypedIn, IsTerminator, HasFlags, IsBodyOf}
use Rattle.ir_shape.proofs.Sure.{Sure, any_sure, word_sure, pair_sure, either_sure, mapped_sure, made_sure, by_word_sure, by_test_sure, many_sure, behind_sure, after_mark_sure, between_sure, commas_sure, kept_sure}
use Rattle.ir_shape.proofs.Bodies.{IsBare, IsOperationBody, IsTerminatorBody, operation_of, terminator_of, wide_or_not}
use Rattle.ir_shape.proofs.Calls.{offset_sure, call_behind_sure}
use Rattle.ir_shape.proofs.Values.{local_sure, type_sure, number_small, none_below, IsValue, value_sure, operand_is, held_in, typed_sure, typed_pair_sure, pointer_sure, index_sure, target_sure, alignment_sure, align_is}

-- ---- operations

binary_body : (op : BinOp) (f : Flags) (x : Ty × (OperandTree × OperandTree)) → HasFlags op f → IsTypedIn true x.0 x.1.0 × IsTypedIn true x.0 x.1.1 → IsOperationBody (binary_tree op f x)
binary_body op f x p h = operation_of (Binary op f) x.0 (x.1.0 ∷ x.1.1 ∷ []) (h.0, (h.1, tt)) refl h.0.0 p (λ b. b)

-- the operators that may have `nuw` and `nsw`, those that may have `exact`, and those that have no flags
wraps : BinOp → Bool
wraps Add = true
wraps Sub = true
wraps Mul = true
wraps Shl = true
wraps op = false

may_be_exact : BinOp → Bool
may_be_exact UDiv = true
may_be_exact SDiv = true
may_be_exact LShr = true
may_be_exact AShr = true
may_be_exact op = false

is_plain : BinOp → Bool
is_plain URem = true
is_plain SRem = true
is_plain And = true
is_plain Xor = true
is_plain op = false

wrap_known : (op : BinOp) (x : Bool × Bool) → wraps op ≡ true → HasFlags op (wrap_flags x)
unfolding wraps
wrap_known Add x e = refl
wrap_known Sub x e = refl
wrap_known Mul x e = refl
wrap_known Shl x e = refl
wrap_known op x e = absurd cc

exact_known : (op : BinOp) (b : Bool) → may_be_exact op ≡ true → HasFlags op (exact_flag b)
unfolding may_be_exact
exact_known UDiv b e = refl
exact_known SDiv b e = refl
exact_known LShr b e = refl
exact_known AShr b e = refl
exact_known op b e = absurd cc

plain_known : (op : BinOp) → is_plain op ≡ true → HasFlags op no_flags
unfolding is_plain
plain_known URem e = refl
plain_known SRem e = refl
plain_known And e = refl
plain_known Xor e = refl
plain_known op e = absurd cc

overflowing_sure : (defs : Definitions) (op : BinOp) → wraps op ≡ true → Sure (overflowing defs op) IsOperationBody
unfolding overflowing
overflowing_sure defs op e = mapped_sure (pair_sure any_sure (typed_pair_sure defs)) (λ x h. binary_body op (wrap_flags x.0) x.1 (wrap_known op x.0 e) h.1)

exact_sure : (defs : Definitions) (op : BinOp) → may_be_exact op ≡ true → Sure (possibly_exact defs op) IsOperationBody
unfolding possibly_exact
exact_sure defs op e = mapped_sure (pair_sure any_sure (typed_pair_sure defs)) (λ x h. binary_body op (exact_flag x.0) x.1 (exact_known op x.0 e) h.1)

plain_sure : (defs : Definitions) (op : BinOp) → is_plain op ≡ true → Sure (plain_binary defs op) IsOperationBody
unfolding plain_binary
plain_sure defs op e = mapped_sure (typed_pair_sure defs) (λ x h. binary_body op no_flags x (plain_known op e) h)

or_sure : (defs : Definitions) → Sure (or_operation defs) IsOperationBody
unfolding or_operation
or_sure defs = mapped_sure (pair_sure any_sure (typed_pair_sure defs)) (λ x h. binary_body Or (disjoint_flag x.0) x.1 refl h.1)

compared_sure : (defs : Definitions) (p : Pred) → Sure (compared defs p) IsOperationBody
unfolding compared
compared_sure defs p = mapped_sure (typed_pair_sure defs) (λ x h. operation_of (Compare p x.0) (bits_for x.0) (x.1.0 ∷ x.1.1 ∷ []) (h.0, (h.1, tt)) refl refl tt (λ b. b))

compare_sure : (defs : Definitions) → Sure (compare defs) IsOperationBody
unfolding compare
compare_sure defs = by_word_sure (compared_sure defs)

select_sure : (defs : Definitions) → Sure (select defs) IsOperationBody
unfolding select
select_sure defs = mapped_sure (pair_sure (typed_sure defs) (pair_sure (after_mark_sure Comma (typed_sure defs)) (after_mark_sure Comma (typed_sure defs)))) (λ x h. operation_of (Select x.0.0 x.1.1.0) x.1.0.0 (x.0.1 ∷ x.1.0.1 ∷ x.1.1.1 ∷ []) (h.0, (h.1.0, (h.1.1, tt))) refl h.1.0.0 tt (λ b. b))

freeze_sure : (defs : Definitions) → Sure (freeze defs) IsOperationBody
unfolding freeze
freeze_sure defs = mapped_sure (typed_sure defs) (λ x h. operation_of Freeze x.0 (x.1 ∷ []) (h, tt) refl h.0 tt (λ b. b))

to_sure : Sure (behind (codes "to") value_type) IsType
to_sure = behind_sure (codes "to") type_sure

trunc_sure : (defs : Definitions) → Sure (trunc defs) IsOperationBody
unfolding trunc
trunc_sure defs = mapped_sure (pair_sure any_sure (pair_sure (typed_sure defs) to_sure)) (λ x h. operation_of (Trunc x.1.0.0 x.0.0 x.0.1) x.1.1 (x.1.0.1 ∷ []) (h.1.0, tt) refl h.1.1 tt (λ b. b))

zext_sure : (defs : Definitions) → Sure (zext defs) IsOperationBody
unfolding zext
zext_sure defs = mapped_sure (pair_sure any_sure (pair_sure (typed_sure defs) to_sure)) (λ x h. operation_of (Zext x.1.0.0 x.0) x.1.1 (x.1.0.1 ∷ []) (h.1.0, tt) refl h.1.1 tt (λ b. b))

sext_sure : (defs : Definitions) → Sure (sext defs) IsOperationBody
unfolding sext
sext_sure defs = mapped_sure (pair_sure (typed_sure defs) to_sure) (λ x h. operation_of (Sext x.0.0) x.1 (x.0.1 ∷ []) (h.0, tt) refl h.1 tt (λ b. b))

ptrtoint_sure : (defs : Definitions) → Sure (ptrtoint defs) IsOperationBody
unfolding ptrtoint
ptrtoint_sure defs = mapped_sure (pair_sure (pointer_sure defs) to_sure) (λ x h. operation_of PtrToInt x.1 (x.0 ∷ []) (h.0, tt) refl h.1 tt (λ b. b))

load_sure : (defs : Definitions) → Sure (load defs) IsOperationBody
unfolding load
load_sure defs = mapped_sure (pair_sure type_sure (pair_sure (after_mark_sure Comma (pointer_sure defs)) alignment_sure)) (λ x h. operation_of (Load (align_or x.0 x.1.1)) x.0 (x.1.0 ∷ []) (h.1.0, tt) refl h.0 (align_is x.0 x.1.1 h.0 h.1.1) (λ b. b))

store_sure : (defs : Definitions) → Sure (store defs) IsOperationBody
unfolding store
store_sure defs = mapped_sure (pair_sure (typed_sure defs) (pair_sure (after_mark_sure Comma (pointer_sure defs)) alignment_sure)) (λ x h. operation_of (Store x.0.0 (align_or x.0.0 x.1.1)) Void (x.0.1 ∷ x.1.0 ∷ []) (h.0, (h.1.0, tt)) refl refl (align_is x.0.0 x.1.1 h.0.0 h.1.1) (λ b. b))

extract_sure : (defs : Definitions) → Sure (extractelement defs) IsOperationBody
unfolding extractelement
extract_sure defs = mapped_sure (pair_sure (typed_sure defs) (after_mark_sure Comma (index_sure defs))) (λ x h. operation_of (Extract x.0.0 x.1.0) (element_of x.0.0) (x.0.1 ∷ x.1.1 ∷ []) (h.0, (h.1, tt)) refl refl tt (λ b. b))

insert_sure : (defs : Definitions) → Sure (insertelement defs) IsOperationBody
unfolding insertelement
insert_sure defs = mapped_sure (pair_sure (typed_sure defs) (pair_sure (after_mark_sure Comma (typed_sure defs)) (after_mark_sure Comma (index_sure defs)))) (λ x h. operation_of (Insert x.1.0.0 x.1.1.0) x.0.0 (x.0.1 ∷ x.1.0.1 ∷ x.1.1.1 ∷ []) (h.0, (h.1.0, (h.1.1, tt))) refl h.0.0 tt (λ b. b))

shuffle_sure : (defs : Definitions) → Sure (shufflevector defs) IsOperationBody
unfolding shufflevector
shuffle_sure defs = mapped_sure (pair_sure (typed_sure defs) (pair_sure (after_mark_sure Comma (typed_sure defs)) (after_mark_sure Comma (typed_sure defs)))) (λ x h. operation_of (Shuffle x.0.0 x.1.0.0 x.1.1.0) (shuffled x.0.0 x.1.1.0) (x.0.1 ∷ x.1.0.1 ∷ x.1.1.1 ∷ []) (h.0, (h.1.0, (h.1.1, tt))) refl refl tt (λ b. b))

-- ---- the entries of a phi

abbrev IsEntry : WrittenValue × Name → Type 0
IsEntry e = IsValue e.0 × IsName e.1

entry_sure : Sure entry_of_phi IsEntry
unfolding entry_of_phi
entry_sure = between_sure LeftBracket RightBracket (pair_sure value_sure (after_mark_sure Comma local_sure))

entry_labels : (es : List (WrittenValue × Name)) → AllByRecursion IsEntry es → AllByRecursion IsName (map (λ e. e.1) es)
entry_labels [] h = tt
entry_labels (e ∷ es) h = (h.0.1, entry_labels es h.1)

-- the operands of so many entries
record Entries (t : Ty) (n : ℕ) (args : List OperandTree) : Type 0 where
  many : length args ≡ n
  all : AllZip (IsTypedIn true) (replicate (length args) t) args

entries_are : (defs : Definitions) (t : Ty) (es : List (WrittenValue × Name)) (args : List OperandTree) → IsType t → AllByRecursion IsEntry es → entries_at defs t es ≡ Some args → Entries t (length es) args
entries_are defs t [] args i h e = subst (Entries t 0) (some_is _ args e) (record { many = refl; all = tt })
entries_are defs t (x ∷ es) args i h e =
    let a = bind_some (operand_at defs t x.0) _ args e in
    let b = bind_some (entries_at defs t es) _ args a.2 in
    let rest = entries_are defs t es b.0 i h.1 b.1 in
    subst (Entries t (suc (length es))) (some_is _ args b.2) (record { many = ap suc rest.many; all = ((i, operand_is defs t x.0 a.0 i h.0.0 a.1), rest.all) })

phi_body : (t : Ty) (args : List OperandTree) (es : List (WrittenValue × Name)) → IsType t → AllByRecursion IsEntry es → 0 < length es → Entries t (length es) args → IsOperationBody (bare_inst Phi t args (map (λ e. e.1) es))
phi_body t args es i h some all = record {
  body = record {
    args = all.all;
    labels = entry_labels es h;
    count = length-map es (λ (e : WrittenValue × Name). e.1) ∙ sym all.many;
    result = i;
    parts = rw (all.many) some;
  };
  goes_on = λ b. b;
}

phi_sure : (defs : Definitions) → Sure (phi defs) IsOperationBody
unfolding phi
phi_sure defs = made_sure (pair_sure type_sure (commas_sure entry_sure)) (λ x y h e.
    let a = bind_some (entries_at defs x.0 x.1) _ y e in
    subst IsOperationBody (some_is _ y a.2) (phi_body x.0 a.0 x.1 h.0 h.1.1 h.1.0 (entries_are defs x.0 x.1 a.0 h.0 h.1.1 a.1)))

-- ---- all operations

-- an operator stands among those of its flags
has_its_flags : Operation → Bool
has_its_flags (operations.Overflowing op) = wraps op
has_its_flags (operations.PossiblyExact op) = may_be_exact op
has_its_flags (operations.Plain op) = is_plain op
has_its_flags o = true

by_operation : (defs : Definitions) (o : Operation) → has_its_flags o ≡ true → Sure (operation_behind defs o) IsOperationBody
unfolding has_its_flags
by_operation defs (operations.Overflowing op) h = overflowing_sure defs op h
by_operation defs (operations.PossiblyExact op) h = exact_sure defs op h
by_operation defs (operations.Plain op) h = plain_sure defs op h
by_operation defs operations.Or h = or_sure defs
by_operation defs operations.Icmp h = compare_sure defs
by_operation defs operations.Select h = select_sure defs
by_operation defs operations.Freeze h = freeze_sure defs
by_operation defs operations.Trunc h = trunc_sure defs
by_operation defs operations.Zext h = zext_sure defs
by_operation defs operations.Sext h = sext_sure defs
by_operation defs operations.PtrToInt h = ptrtoint_sure defs
by_operation defs operations.Phi h = phi_sure defs
by_operation defs operations.GetElementPtr h = offset_sure defs
by_operation defs operations.Load h = load_sure defs
by_operation defs operations.Store h = store_sure defs
by_operation defs (operations.Call tail) h = call_behind_sure defs tail
by_operation defs operations.ExtractElement h = extract_sure defs
by_operation defs operations.InsertElement h = insert_sure defs
by_operation defs operations.ShuffleVector h = shuffle_sure defs

words_sure : (defs : Definitions) → Sure (by_word operation_words (operation_behind defs)) IsOperationBody
unfolding operation_words has_its_flags wraps may_be_exact is_plain
words_sure defs = by_test_sure has_its_flags refl (by_operation defs)

-- ---- terminators

jump_sure : Sure (mapped jump_tree target) IsTerminatorBody
jump_sure = mapped_sure target_sure (λ l h. terminator_of Jump [] (l ∷ []) tt (h, tt) refl refl tt tt)

branch_sure : (defs : Definitions) → Sure (branch defs) IsTerminatorBody
unfolding branch
branch_sure defs = either_sure jump_sure (made_sure (behind_sure (codes "i1") (pair_sure value_sure (pair_sure (after_mark_sure Comma target_sure) (after_mark_sure Comma target_sure)))) (λ x y h e.
    let a = bind_some (operand_at defs (Int 1) x.0) _ y e in
    let bit : IsType (Int 1) = inl refl in
    subst IsTerminatorBody (some_is _ y a.2) (terminator_of Branch (a.0 ∷ []) (x.1.0 ∷ x.1.1 ∷ []) ((bit, operand_is defs (Int 1) x.0 a.0 bit h.0 a.1), tt) (h.1.0, (h.1.1, tt)) refl refl tt tt)))

abbrev IsCase : (ℕ × List ℕ) × Name → Type 0
IsCase c = Unit {0} × IsName c.1

case_sure : Sure case_of_switch IsCase
unfolding case_of_switch
case_sure = pair_sure any_sure (after_mark_sure Comma target_sure)

case_labels : (cs : List ((ℕ × List ℕ) × Name)) → AllByRecursion IsCase cs → AllByRecursion IsName (map (λ c. c.1) cs)
case_labels [] h = tt
case_labels (c ∷ cs) h = (h.0.1, case_labels cs h.1)

case_numbers : (w : ℕ) (cs : List ((ℕ × List ℕ) × Name)) → 0 < 2 ^ w → AllByRecursion (IsBelow w) (map (λ c. number_at w c.0.1) cs)
case_numbers w [] h = tt
case_numbers w (c ∷ cs) h = (number_small w c.0.1 h, case_numbers w cs h)

switch_body : (w : ℕ) (a : OperandTree) (l : Name) (cs : List ((ℕ × List ℕ) × Name)) → IsTypedIn true (Int w) a → IsName l → AllByRecursion IsCase cs → IsTerminatorBody (bare_inst (Switch w (map (λ c. number_at w c.0.1) cs)) Void (a ∷ []) (l ∷ map (λ c. c.1) cs))
switch_body w a l cs h n g =
    let numbers = length-map cs (λ (c : (ℕ × List ℕ) × Name). number_at w c.0.1) in
    let labels = length-map cs (λ (c : (ℕ × List ℕ) × Name). c.1) in
    terminator_of (Switch w (map (λ c. number_at w c.0.1) cs)) (a ∷ []) (l ∷ map (λ c. c.1) cs) (h, tt) (n, case_labels cs g) (ap suc (labels ∙ sym numbers)) refl (case_numbers w cs (none_below w h.0)) tt

-- be a case out of range or not
switch_sure : (defs : Definitions) → Sure (switch defs) IsTerminatorBody
unfolding switch
switch_sure defs = made_sure (pair_sure (index_sure defs) (pair_sure (after_mark_sure Comma target_sure) (between_sure LeftBracket RightBracket (many_sure case_sure)))) (λ x y h e.
    let c = bind_some (cases_at x.0.0 x.1.1) _ y e in
    let wide = list_any (λ (c : (ℕ × List ℕ) × Name). not (index_fits c.0)) x.1.1 in
    let ns = (cond_some _ (map (λ (c : (ℕ × List ℕ) × Name). number_at x.0.0 c.0.1) x.1.1) c.0 c.1).1 in
    subst IsTerminatorBody (some_is _ y c.2) (subst (λ (ms : List ℕ). IsTerminatorBody (if_wide wide (bare_inst (Switch x.0.0 ms) Void (x.0.1 ∷ []) (x.1.0 ∷ map (λ c. c.1) x.1.1)))) ns (wide_or_not wide _ (switch_body x.0.0 x.0.1 x.1.0 x.1.1 h.0 h.1.0 h.1.1))))

return_sure : (defs : Definitions) → Sure (ret defs) IsTerminatorBody
unfolding ret
return_sure defs = either_sure (mapped_sure (typed_sure defs) (λ x h. terminator_of (Return x.0) (x.1 ∷ []) [] (h, tt) tt refl refl tt tt)) (word_sure _ void_tree (terminator_of ReturnVoid [] [] tt tt refl refl tt tt))

by_terminator : (defs : Definitions) (t : Terminator) → Sure (terminator_behind defs t) IsTerminatorBody
by_terminator defs terminators.Br = branch_sure defs
by_terminator defs terminators.Switch = switch_sure defs
by_terminator defs terminators.Ret = return_sure defs

-- ---- with attachments

-- an instruction without its result's name
pub record IsPlain (i : InstTree) : Type 0 where
  pub body : IsBodyOf (IsTypedIn i.wide) i
  pub attachments : IsKept inst_attachments i.kept

attachments_are : Verbatim inst_attachments
unfolding inst_attachments
attachments_are = verbatim_each (kept_behind_comma attachment) (verbatim_behind_comma attachment verbatim_attachment)

first_or : (b c d : Bool) → (b || c ≡ true → d ≡ true) → b ≡ true → d ≡ true
first_or true c d f e = f refl
first_or false c d f e = absurd cc

second_or : (b c d : Bool) → (b || c ≡ true → d ≡ true) → c ≡ true → d ≡ true
second_or true c d f e = f refl
second_or false c d f e = f e

-- each operand that is out of range makes the instruction wide
all_held : (wide : Bool) (ts : List Ty) (args : List OperandTree) → (list_any is_out_of_range args ≡ true → wide ≡ true) → AllZip (IsTypedIn true) ts args → AllZip (IsTypedIn wide) ts args
all_held wide [] [] w h = tt
all_held wide [] (a ∷ args) w h = absurd h
all_held wide (t ∷ ts) [] w h = absurd h
all_held wide (t ∷ ts) (a ∷ args) w h =
    let here = first_or (is_out_of_range a) (list_any is_out_of_range args) wide w in
    let behind = second_or (is_out_of_range a) (list_any is_out_of_range args) wide w in
    ((h.0.0, held_in wide t a here h.0.1), all_held wide ts args behind h.1)

either_wide : (b c : Bool) → b ≡ true → b || c ≡ true
either_wide true c e = refl
either_wide false c e = absurd cc

attached_body : (i : InstTree) (xs : KeptTexts) → IsBare i → IsKept inst_attachments xs → IsPlain (with_kept i xs)
attached_body i xs h k = record {
  body = record { args = all_held (list_any is_out_of_range i.args || i.wide) _ i.args (either_wide _ i.wide) h.args; labels = h.labels; count = h.count; result = h.result; parts = h.parts };
  attachments = k;
}

pub record IsOperation (i : InstTree) : Type 0 where
  pub plain : IsPlain i
  pub goes_on : ¬ IsTerminator i.kind

pub record IsEnding (i : InstTree) : Type 0 where
  pub plain : IsPlain i
  pub ends : IsTerminator i.kind

-- what the form of operations reads is an operation
pub operation_sure : (defs : Definitions) → Sure (operation defs) IsOperation
unfolding operation
operation_sure defs = mapped_sure (pair_sure (words_sure defs) (kept_sure attachments_are)) (λ x h. record { plain = attached_body x.0 x.1 h.0.body h.1; goes_on = h.0.goes_on })

-- what the form of terminators reads ends a block
pub terminator_sure : (defs : Definitions) → Sure (terminator defs) IsEnding
unfolding terminator
terminator_sure defs = mapped_sure (pair_sure (either_sure (by_word_sure (by_terminator defs)) (word_sure _ unreachable_tree (terminator_of Unreachable [] [] tt tt refl refl tt tt))) (kept_sure attachments_are)) (λ x h. record { plain = attached_body x.0 x.1 h.0.body h.1; ends = h.0.ends })
