-- The pieces that an instruction is printed as, behind its result and before its attachments, write it.
use Rattle.std.proofs.Common.{◌≡◌, ◌<◌, ℕ, true, false, Bool, List, [], ◌∷◌, ◌++◌, length, Some, refl, sym, ap, subst, arith, eqb}
use Rattle.std.specs.Prelude.{not, map, codes, replicate}
use Rattle.std.specs.List.{AllByRecursion, AllZip, list_all, list_any, zip}
use Rattle.std.proofs.lemmas.Bool.{eq-eqb}
use Rattle.std.proofs.lemmas.List.{append-nil}
use Rattle.text_forms.specs.declared.TokenKind.TheVariants as kinds
use Rattle.text_forms.specs.Form.{Form, either, by_word}
use Rattle.text_forms.specs.Combined.{word as word_form}
use Rattle.text_forms.specs.Lexical.{kind_of, table}
use Rattle.text_lex.specs.Layout.{Piece, closed, open_}
use Rattle.ir_types.specs.declared.name.Name.{Name}
use Rattle.ir_types.specs.declared.inst.Ty.{Ty}
use Rattle.ir_types.specs.declared.inst.Ty.TheVariants.{Int, Ptr, Void}
use Rattle.ir_types.specs.declared.inst.BinOp.{BinOp}
use Rattle.ir_types.specs.declared.inst.BinOp.TheVariants.{Add, Sub, Mul, Shl, UDiv, SDiv, URem, SRem, LShr, AShr, And, Or, Xor, SMin, SMax, UMin, UMax}
use Rattle.ir_types.specs.declared.inst.Flags.{Flags}
use Rattle.ir_types.specs.declared.inst.Pred.{Pred}
use Rattle.ir_types.specs.declared.inst.Pred.TheVariants.{Eq, Ne, Ugt, Uge, Ult, Ule, Sgt, Sge, Slt, Sle}
use Rattle.ir_types.specs.declared.call.Callee.{Callee}
use Rattle.ir_types.specs.declared.call.TailKind.{TailKind}
use Rattle.ir_types.specs.declared.call.TailKind.TheVariants.{Unmarked, Tail, MustTail, NoTail}
use Rattle.ir_types.specs.Kinds.{Kind, Binary, Compare, Select, Freeze, Trunc, Zext, Sext, PtrToInt, Phi, Offset, Load, Store, Call, Extract, Insert, Shuffle, Jump, Branch, Switch, ReturnVoid, Return, Unreachable}
use Rattle.ir_types.specs.TypeNodes.{TypeNode}
use Rattle.ir_types.specs.Offsets.{Definitions}
use Rattle.ir_types.specs.declared.opcode.Operation.TheVariants as operations
use Rattle.ir_types.specs.declared.opcode.Terminator.TheVariants as terminators
use Rattle.ir_types.specs.Written.{number_at}
use Rattle.ir_types.specs.Tree.{OperandTree, InstTree}
use Rattle.ir_types.specs.FlagForms.{wrap_flags, exact_flag, disjoint_flag, no_flags}
use Rattle.ir_types.specs.ValueForms.{WrittenValue, index_fits}
use Rattle.ir_types.specs.Words.{operation_words, terminator_words}
use Rattle.ir_types.specs.InstForms.{bits_for, element_of, shuffled, bare_inst, overflowing, possibly_exact, plain_binary, or_operation, predicates, call, compared, compare, select, freeze, trunc, zext, sext, ptrtoint, entry_of_phi, entries_at, phi, load, store, extractelement, insertelement, shufflevector, branch, case_of_switch, switch, void_tree, unreachable_tree, ret, operation_behind, terminator_behind}
use Rattle.ir_shape.specs.Shape.{IsName, IsOneOf, widths, IsType, IsBelow, IsTyped, IsTerminator, HasFlags, IsBody}
use Rattle.ir_printer_types.specs.Texts.{signed_text}
use Rattle.ir_printer_types.specs.MemoryPieces.{node_pieces}
use Rattle.ir_printer_types.specs.Pieces.{word, comma, blank, type_pieces, width_word, each_behind, with_commas}
use Rattle.ir_printer_types.proofs.Spelled.{decimals}
use Rattle.ir_printer_types.proofs.Widths.{width_within}
use Rattle.ir_printer_types.proofs.Laid.{Separates, loose, mark_laid, nothing_behind, gap_laid}
use Rattle.ir_printer_types.proofs.LaidOut.{bracket_kinds}
use Rattle.ir_printer_types.proofs.Writes.{Writes, both, spaced, ended, regrouped, left_writes, right_writes, mapped_writes, made_writes, word_writes, behind_writes, by_word_writes, after_comma, between_writes, bracketed, EachWrites, commas_write, many_behind}
use Rattle.ir_printer.specs.Print.{operator_word, predicate_word, flags_pieces, call_words, typed_operand, typed_pieces, listed_pieces, entry_pieces, entries_of, before_case, case_pieces, cases_of, switch_pieces, align_pieces, kind_pieces}
use Rattle.ir_printer.proofs.Numbers.{signed_again, signed_fits}
use Rattle.ir_printer_types.proofs.InstMemory.{memory_writes}
use Rattle.ir_printer.proofs.Words.{local_writes, width_writes, type_writes, signed_writes}
use Rattle.ir_printer.proofs.Calls.{offset_writes, call_writes}
use Rattle.ir_printer.proofs.Values.{IsWritten, operand_written, typed_writes, pointer_writes, index_writes, by_none, by_one, by_two, by_three}
use Rattle.ir_printer.proofs.Parts.{flag_writes, wrap_writes, pair_writes, to_writes, target_writes, align_writes, by_no_label, by_first_label, by_one_label, by_two_labels}

-- ---- binary operators and comparisons

flag_kinds : (kind_of (codes "exact") ≡ Some kinds.Word) × (kind_of (codes "disjoint") ≡ Some kinds.Word) × (kind_of (codes "nneg") ≡ Some kinds.Word)
unfolding table
flag_kinds = (refl, refl, refl)

-- an operator of these flags behind its word
abbrev WritesBinary : BinOp → Ty → OperandTree → OperandTree → Form InstTree → Flags → Type 0
WritesBinary op t a b form f = Writes open_ form (bare_inst (Binary op f) t (a ∷ b ∷ []) []) (flags_pieces f ++ (typed_pieces t (a ∷ b ∷ []) ++ []))

module _ (defs : Definitions) (op : BinOp) (f : Flags) (t : Ty) (a b : OperandTree) (x : IsWritten defs t a) (y : IsWritten defs t b) where
  overflowing_writes : f ≡ wrap_flags (f.nuw, f.nsw) → WritesBinary op t a b (overflowing defs op) f
  unfolding overflowing
  overflowing_writes e = subst (WritesBinary op t a b (overflowing defs op)) (sym e) (mapped_writes ((f.nuw, f.nsw), (t, (a, b))) _ refl (both (ended (wrap_writes f.nuw f.nsw)) (ended (pair_writes x y))))

  exact_writes : f ≡ exact_flag f.exact → WritesBinary op t a b (possibly_exact defs op) f
  unfolding possibly_exact
  exact_writes e = subst (WritesBinary op t a b (possibly_exact defs op)) (sym e) (mapped_writes (f.exact, (t, (a, b))) _ refl (both (ended (flag_writes (codes "exact") f.exact flag_kinds.0)) (ended (pair_writes x y))))

  plain_writes : f ≡ no_flags → WritesBinary op t a b (plain_binary defs op) f
  unfolding plain_binary
  plain_writes e = subst (WritesBinary op t a b (plain_binary defs op)) (sym e) (mapped_writes (t, (a, b)) _ refl (ended (pair_writes x y)))

or_writes : (defs : Definitions) (f : Flags) (t : Ty) (a b : OperandTree) → IsWritten defs t a → IsWritten defs t b → f ≡ disjoint_flag f.disjoint → WritesBinary Or t a b (or_operation defs) f
unfolding or_operation
or_writes defs f t a b x y e = subst (WritesBinary Or t a b (or_operation defs)) (sym e) (mapped_writes (f.disjoint, (t, (a, b))) _ refl (both (flag_writes (codes "disjoint") f.disjoint flag_kinds.1) (ended (pair_writes x y))))

binary_writes : (defs : Definitions) (op : BinOp) (f : Flags) (t : Ty) (a b : OperandTree) → HasFlags op f → IsWritten defs t a → IsWritten defs t b → Writes closed (by_word operation_words (operation_behind defs)) (bare_inst (Binary op f) t (a ∷ b ∷ []) []) (kind_pieces (Binary op f) t (a ∷ b ∷ []) [])
unfolding operation_words operator_word table
binary_writes defs Add f t a b h x y = by_word_writes _ (operations.Overflowing Add) refl refl (overflowing_writes defs Add f t a b x y h)
binary_writes defs Sub f t a b h x y = by_word_writes _ (operations.Overflowing Sub) refl refl (overflowing_writes defs Sub f t a b x y h)
binary_writes defs Mul f t a b h x y = by_word_writes _ (operations.Overflowing Mul) refl refl (overflowing_writes defs Mul f t a b x y h)
binary_writes defs Shl f t a b h x y = by_word_writes _ (operations.Overflowing Shl) refl refl (overflowing_writes defs Shl f t a b x y h)
binary_writes defs UDiv f t a b h x y = by_word_writes _ (operations.PossiblyExact UDiv) refl refl (exact_writes defs UDiv f t a b x y h)
binary_writes defs SDiv f t a b h x y = by_word_writes _ (operations.PossiblyExact SDiv) refl refl (exact_writes defs SDiv f t a b x y h)
binary_writes defs LShr f t a b h x y = by_word_writes _ (operations.PossiblyExact LShr) refl refl (exact_writes defs LShr f t a b x y h)
binary_writes defs AShr f t a b h x y = by_word_writes _ (operations.PossiblyExact AShr) refl refl (exact_writes defs AShr f t a b x y h)
binary_writes defs URem f t a b h x y = by_word_writes _ (operations.Plain URem) refl refl (plain_writes defs URem f t a b x y h)
binary_writes defs SRem f t a b h x y = by_word_writes _ (operations.Plain SRem) refl refl (plain_writes defs SRem f t a b x y h)
binary_writes defs And f t a b h x y = by_word_writes _ (operations.Plain And) refl refl (plain_writes defs And f t a b x y h)
binary_writes defs Xor f t a b h x y = by_word_writes _ (operations.Plain Xor) refl refl (plain_writes defs Xor f t a b x y h)
binary_writes defs Or f t a b h x y = by_word_writes _ operations.Or refl refl (or_writes defs f t a b x y h)
binary_writes defs SMin f t a b h x y = absurd h
binary_writes defs SMax f t a b h x y = absurd h
binary_writes defs UMin f t a b h x y = absurd h
binary_writes defs UMax f t a b h x y = absurd h

compared_writes : (defs : Definitions) (p : Pred) (t : Ty) (a b : OperandTree) → IsWritten defs t a → IsWritten defs t b → Writes open_ (compared defs p) (bare_inst (Compare p t) (bits_for t) (a ∷ b ∷ []) []) (typed_pieces t (a ∷ b ∷ []) ++ [])
unfolding compared
compared_writes defs p t a b x y = mapped_writes (t, (a, b)) _ refl (ended (pair_writes x y))

compare_writes : (defs : Definitions) (p : Pred) (t : Ty) (a b : OperandTree) → IsWritten defs t a → IsWritten defs t b → Writes closed (compare defs) (bare_inst (Compare p t) (bits_for t) (a ∷ b ∷ []) []) (word (predicate_word p) ∷ (typed_pieces t (a ∷ b ∷ []) ++ []))
unfolding compare predicates predicate_word table
compare_writes defs Eq t a b x y = by_word_writes _ Eq refl refl (compared_writes defs Eq t a b x y)
compare_writes defs Ne t a b x y = by_word_writes _ Ne refl refl (compared_writes defs Ne t a b x y)
compare_writes defs Ugt t a b x y = by_word_writes _ Ugt refl refl (compared_writes defs Ugt t a b x y)
compare_writes defs Uge t a b x y = by_word_writes _ Uge refl refl (compared_writes defs Uge t a b x y)
compare_writes defs Ult t a b x y = by_word_writes _ Ult refl refl (compared_writes defs Ult t a b x y)
compare_writes defs Ule t a b x y = by_word_writes _ Ule refl refl (compared_writes defs Ule t a b x y)
compare_writes defs Sgt t a b x y = by_word_writes _ Sgt refl refl (compared_writes defs Sgt t a b x y)
compare_writes defs Sge t a b x y = by_word_writes _ Sge refl refl (compared_writes defs Sge t a b x y)
compare_writes defs Slt t a b x y = by_word_writes _ Slt refl refl (compared_writes defs Slt t a b x y)
compare_writes defs Sle t a b x y = by_word_writes _ Sle refl refl (compared_writes defs Sle t a b x y)

-- ---- the entries of a phi

-- how an entry is written
record Entry (defs : Definitions) (t : Ty) : Type 0 where
  operand : OperandTree
  label : Name
  written : IsWritten defs t operand
  named : IsName label

abbrev written_entry : (defs : Definitions) (t : Ty) → Entry defs t → WrittenValue × Name
written_entry defs t e = (e.written.as_value, e.label)

abbrev pieces_of_entry : (defs : Definitions) (t : Ty) → Entry defs t → List Piece
pieces_of_entry defs t e = entry_pieces t e.operand e.label

entry_writes : (defs : Definitions) (t : Ty) → EachWrites entry_of_phi (written_entry defs t) (pieces_of_entry defs t) (λ e. Unit {0})
unfolding entry_of_phi
entry_writes defs t = record { one = λ e h. bracketed _ (both e.written.writes (after_comma (local_writes e.label e.named))) }

-- the entries of operands and labels
record Entries (defs : Definitions) (t : Ty) (args : List OperandTree) (labels : List Name) : Type 0 where
  items : List (Entry defs t)
  pieces : map (pieces_of_entry defs t) items ≡ entries_of t args labels
  operands : entries_at defs t (map (written_entry defs t) items) ≡ Some args
  names : map (λ (e : WrittenValue × Name). e.1) (map (written_entry defs t) items) ≡ labels
  as_many : length items ≡ length args

more_entries : (defs : Definitions) (t : Ty) (e : Entry defs t) (args : List OperandTree) (labels : List Name) → Entries defs t args labels → Entries defs t (e.operand ∷ args) (e.label ∷ labels)
more_entries defs t e args labels es = record {
  items = e ∷ es.items;
  pieces = ap (λ (ps : List (List Piece)). pieces_of_entry defs t e ∷ ps) es.pieces;
  operands = rw (e.written.is, es.operands) refl;
  names = ap (λ (ns : List Name). e.label ∷ ns) es.names;
  as_many = omega (arith, es.as_many);
}

entries : (defs : Definitions) (t : Ty) (args : List OperandTree) (labels : List Name) → length labels ≡ length args → AllZip IsTyped (replicate (length args) t) args → AllByRecursion IsName labels → Entries defs t args labels
entries defs t [] [] e h g = record { items = []; pieces = refl; operands = refl; names = refl; as_many = refl }
entries defs t (a ∷ args) (l ∷ labels) e h g = more_entries defs t (record { operand = a; label = l; written = operand_written defs t a h.0; named = g.0 }) args labels (entries defs t args labels (omega arith) h.1 g.1)
entries defs t [] (l ∷ labels) e h g = absurd (omega arith)
entries defs t (a ∷ args) [] e h g = absurd (omega arith)

all_known : (defs : Definitions) (t : Ty) (es : List (Entry defs t)) → AllByRecursion (λ e. Unit {0}) es
all_known defs t [] = tt
all_known defs t (e ∷ es) = (tt, all_known defs t es)

phi_writes : (defs : Definitions) (t : Ty) (args : List OperandTree) (labels : List Name) → IsType t → Entries defs t args labels → 0 < length args → Writes closed (phi defs) (bare_inst Phi t args labels) (type_pieces t ++ (blank ∷ with_commas (entries_of t args labels)))
unfolding phi
phi_writes defs t args labels i es lt =
    rw (← es.pieces) (made_writes (t, map (written_entry defs t) es.items) _ (rw (es.operands, es.names) refl)
    (both (type_writes t i) (spaced (commas_write (entry_writes defs t) es.items (omega (arith, es.as_many)) (all_known defs t es.items)))))

-- ---- operations

tail_kinds : (kind_of (codes "call") ≡ Some kinds.Word) × (kind_of (codes "tail") ≡ Some kinds.Word) × (kind_of (codes "musttail") ≡ Some kinds.Word) × (kind_of (codes "notail") ≡ Some kinds.Word)
unfolding table
tail_kinds = (refl, refl, refl, refl)

-- behind the word of a call, and that before it
tail_writes : (defs : Definitions) (tail : TailKind) (i : InstTree) (ps : List Piece) → Writes open_ (call defs tail) i ps → Writes closed (by_word operation_words (operation_behind defs)) i (call_words tail ++ ps)
unfolding operation_words
tail_writes defs Unmarked i ps w = by_word_writes _ (operations.Call Unmarked) tail_kinds.0 refl w
tail_writes defs Tail i ps w = by_word_writes _ (operations.Call Tail) tail_kinds.1 refl (spaced (behind_writes (codes "call") tail_kinds.0 w))
tail_writes defs MustTail i ps w = by_word_writes _ (operations.Call MustTail) tail_kinds.2 refl (spaced (behind_writes (codes "call") tail_kinds.0 w))
tail_writes defs NoTail i ps w = by_word_writes _ (operations.Call NoTail) tail_kinds.3 refl (spaced (behind_writes (codes "call") tail_kinds.0 w))

module _ (defs : Definitions) where
  abbrev pub WritesOperation : Kind → Ty → List OperandTree → List Name → Type 0
  WritesOperation k t args labels = Writes closed (by_word operation_words (operation_behind defs)) (bare_inst k t args labels) (kind_pieces k t args labels)

  with_one : (k : Kind) (t : Ty) {u : Ty} {args : List OperandTree} {labels : List Name} → AllZip IsTyped (u ∷ []) args → length labels ≡ 0 → ((a : OperandTree) → IsWritten defs u a → WritesOperation k t (a ∷ []) []) → WritesOperation k t args labels
  with_one k t {args = args} h e p = by_no_label (λ ls. WritesOperation k t args ls) e (by_one defs (λ xs. WritesOperation k t xs []) h p)

  with_two : (k : Kind) (t : Ty) {u v : Ty} {args : List OperandTree} {labels : List Name} → AllZip IsTyped (u ∷ v ∷ []) args → length labels ≡ 0 → ((a b : OperandTree) → IsWritten defs u a → IsWritten defs v b → WritesOperation k t (a ∷ b ∷ []) []) → WritesOperation k t args labels
  with_two k t {args = args} h e p = by_no_label (λ ls. WritesOperation k t args ls) e (by_two defs (λ xs. WritesOperation k t xs []) h p)

  with_three : (k : Kind) (t : Ty) {u v w : Ty} {args : List OperandTree} {labels : List Name} → AllZip IsTyped (u ∷ v ∷ w ∷ []) args → length labels ≡ 0 → ((a b c : OperandTree) → IsWritten defs u a → IsWritten defs v b → IsWritten defs w c → WritesOperation k t (a ∷ b ∷ c ∷ []) []) → WritesOperation k t args labels
  with_three k t {args = args} h e p = by_no_label (λ ls. WritesOperation k t args ls) e (by_three defs (λ xs. WritesOperation k t xs []) h p)

  offset_operation : (nodes : List TypeNode) (widths : List ℕ) (inbounds nuw nusw : Bool) (t : Ty) (args : List OperandTree) (labels : List Name) → IsBody (bare_inst (Offset nodes widths inbounds nuw nusw) t args labels) → WritesOperation (Offset nodes widths inbounds nuw nusw) t args labels
  unfolding operation_words table
  offset_operation nodes widths inbounds nuw nusw t args labels h =
      let k = Offset nodes widths inbounds nuw nusw in
      rw (h.result) (by_no_label (λ ls. WritesOperation k Ptr args ls) h.count (rw (append-nil (blank ∷ (node_pieces nodes ++ (comma ∷ listed_pieces (Ptr ∷ map Int widths) args)))) (by_word_writes _ operations.GetElementPtr refl refl (offset_writes defs _ widths inbounds nuw nusw args _ (memory_writes nodes h.parts.0) h.args h.parts.1))))

  call_operation : (c : Callee) (t : Ty) (args : List OperandTree) (labels : List Name) → IsBody (bare_inst (Call c) t args labels) → WritesOperation (Call c) t args labels
  call_operation c t args labels h = by_no_label (λ ls. WritesOperation (Call c) t args ls) h.count (tail_writes defs c.tail _ _ (call_writes defs c t args h.parts h.result h.args))

  pub operation_writes : (k : Kind) (t : Ty) (args : List OperandTree) (labels : List Name) → IsBody (bare_inst k t args labels) → ¬ IsTerminator k → WritesOperation k t args labels
  unfolding operation_words select freeze trunc zext sext ptrtoint load store extractelement insertelement shufflevector table
  operation_writes (Binary op f) t args labels h g = with_two (Binary op f) t h.args h.count (λ a b x y. binary_writes defs op f t a b h.parts x y)
  operation_writes (Compare p u) t args labels h g = rw (h.result) (with_two (Compare p u) (bits_for u) h.args h.count (λ a b x y. by_word_writes _ operations.Icmp refl refl (spaced (compare_writes defs p u a b x y))))
  operation_writes (Select u v) t args labels h g = with_three (Select u v) t h.args h.count (λ a b c x y z. by_word_writes _ operations.Select refl refl (spaced (ended (mapped_writes ((u, a), ((t, b), (v, c))) _ refl (both (typed_writes x) (both (after_comma (typed_writes y)) (after_comma (ended (typed_writes z)))))))))
  operation_writes Freeze t args labels h g = with_one Freeze t h.args h.count (λ a x. by_word_writes _ operations.Freeze refl refl (spaced (ended (mapped_writes (t, a) _ refl (ended (typed_writes x))))))
  operation_writes (Trunc u nuw nsw) t args labels h g = with_one (Trunc u nuw nsw) t h.args h.count (λ a x. by_word_writes _ operations.Trunc refl refl (mapped_writes ((nuw, nsw), ((u, a), t)) _ refl (both (wrap_writes nuw nsw) (spaced (both (ended (typed_writes x)) (to_writes t h.result))))))
  operation_writes (Zext u nneg) t args labels h g = with_one (Zext u nneg) t h.args h.count (λ a x. by_word_writes _ operations.Zext refl refl (mapped_writes (nneg, ((u, a), t)) _ refl (both (flag_writes (codes "nneg") nneg flag_kinds.2) (spaced (both (ended (typed_writes x)) (to_writes t h.result))))))
  operation_writes (Sext u) t args labels h g = with_one (Sext u) t h.args h.count (λ a x. by_word_writes _ operations.Sext refl refl (spaced (mapped_writes ((u, a), t) _ refl (both (ended (typed_writes x)) (to_writes t h.result)))))
  operation_writes PtrToInt t args labels h g = with_one PtrToInt t h.args h.count (λ a x. by_word_writes _ operations.PtrToInt refl refl (spaced (mapped_writes (a, t) _ refl (both (ended (pointer_writes x)) (to_writes t h.result)))))
  operation_writes Phi t args labels h g = by_word_writes _ operations.Phi refl refl (spaced (ended (phi_writes defs t args labels h.result (entries defs t args labels h.count h.args h.labels) h.parts)))
  operation_writes (Load n) t args labels h g = with_one (Load n) t h.args h.count (λ a x. by_word_writes _ operations.Load refl refl (spaced (regrouped (type_pieces t) _ (align_pieces n) (mapped_writes (t, (a, Some n)) _ refl (both (type_writes t h.result) (both (after_comma (ended (pointer_writes x))) (align_writes n h.parts)))))))
  operation_writes (Store u n) t args labels h g = rw (h.result) (with_two (Store u n) Void h.args h.count (λ a b x y. by_word_writes _ operations.Store refl refl (spaced (regrouped (typed_operand u a) _ (align_pieces n) (mapped_writes ((u, a), (b, Some n)) _ refl (both (typed_writes x) (both (after_comma (ended (pointer_writes y))) (align_writes n h.parts))))))))
  operation_writes (Extract u w) t args labels h g = rw (h.result) (with_two (Extract u w) (element_of u) h.args h.count (λ a b x y. by_word_writes _ operations.ExtractElement refl refl (spaced (ended (mapped_writes ((u, a), (w, b)) _ refl (both (typed_writes x) (after_comma (ended (index_writes y)))))))))
  operation_writes (Insert u w) t args labels h g = with_three (Insert u w) t h.args h.count (λ a b c x y z. by_word_writes _ operations.InsertElement refl refl (spaced (ended (mapped_writes ((t, a), ((u, b), (w, c))) _ refl (both (typed_writes x) (both (after_comma (typed_writes y)) (after_comma (ended (index_writes z)))))))))
  operation_writes (Shuffle u v m) t args labels h g = rw (h.result) (with_three (Shuffle u v m) (shuffled u m) h.args h.count (λ a b c x y z. by_word_writes _ operations.ShuffleVector refl refl (spaced (ended (mapped_writes ((u, a), ((v, b), (m, c))) _ refl (both (typed_writes x) (both (after_comma (typed_writes y)) (after_comma (ended (typed_writes z))))))))))
  operation_writes (Offset nodes widths inbounds nuw nusw) t args labels h g = offset_operation nodes widths inbounds nuw nusw t args labels h
  operation_writes (Call c) t args labels h g = call_operation c t args labels h
  operation_writes k t args labels h g = absurd (g tt)

-- ---- the cases of a switch

abbrev written_case : ℕ → ℕ × Name → (ℕ × List ℕ) × Name
written_case w c = ((w, signed_text w c.0), c.1)

abbrev IsCase : ℕ → ℕ × Name → Type 0
IsCase w c = IsBelow w c.0 × IsName c.1

case_writes : (w : ℕ) → IsOneOf widths w → EachWrites case_of_switch (written_case w) (λ c. case_pieces w c.0 c.1) (IsCase w)
unfolding case_of_switch
case_writes w i = record { one = λ c h. both (both (width_writes w i) (spaced (signed_writes w c.0 (width_within w i).1 h.0))) (after_comma (target_writes c.1 h.1)) }

cases_known : (w : ℕ) (ns : List ℕ) (labels : List Name) → AllByRecursion (IsBelow w) ns → AllByRecursion IsName labels → AllByRecursion (IsCase w) (zip ns labels)
cases_known w [] labels h g = tt
cases_known w (n ∷ ns) [] h g = tt
cases_known w (n ∷ ns) (l ∷ labels) h g = ((h.0, g.0), cases_known w ns labels h.1 g.1)

same_widths : (w : ℕ) (cs : List (ℕ × Name)) → list_all (λ (c : (ℕ × List ℕ) × Name). eqb c.0.0 w) (map (written_case w) cs) ≡ true
same_widths w [] = refl
same_widths w (c ∷ cs) = let e : eqb w w ≡ true = eq-eqb w w refl in rw e (same_widths w cs)

numbers_again : (w : ℕ) → IsOneOf widths w → (ns : List ℕ) (labels : List Name) → length labels ≡ length ns → AllByRecursion (IsBelow w) ns → map (λ (c : (ℕ × List ℕ) × Name). number_at w c.0.1) (map (written_case w) (zip ns labels)) ≡ ns
numbers_again w i [] labels e h = refl
numbers_again w i (n ∷ ns) [] e h = absurd (omega arith)
numbers_again w i (n ∷ ns) (l ∷ labels) e h = let b = width_within w i in rw (signed_again w n b.0 b.1 h.0, numbers_again w i ns labels (omega arith) h.1) refl

cases_fit : (w : ℕ) → IsOneOf widths w → (ns : List ℕ) (labels : List Name) → AllByRecursion (IsBelow w) ns → list_any (λ (c : (ℕ × List ℕ) × Name). not (index_fits c.0)) (map (written_case w) (zip ns labels)) ≡ false
cases_fit w i [] labels h = refl
cases_fit w i (n ∷ ns) [] h = refl
cases_fit w i (n ∷ ns) (l ∷ labels) h = let b = width_within w i in rw (signed_fits w n b.0 b.1 h.0, cases_fit w i ns labels h.1) refl

labels_again : (w : ℕ) (ns : List ℕ) (labels : List Name) → length labels ≡ length ns → map (λ (c : (ℕ × List ℕ) × Name). c.1) (map (written_case w) (zip ns labels)) ≡ labels
labels_again w [] [] e = refl
labels_again w [] (l ∷ labels) e = absurd (omega arith)
labels_again w (n ∷ ns) [] e = absurd (omega arith)
labels_again w (n ∷ ns) (l ∷ labels) e = ap (λ (ls : List Name). l ∷ ls) (labels_again w ns labels (omega arith))

cases_part : Separates (before_case ∷ [])
cases_part = record { apart = λ ps h. gap_laid 10 _ refl h }

switch_writes : (defs : Definitions) (w : ℕ) (ns : List ℕ) (a : OperandTree) (l : Name) (labels : List Name) → IsWritten defs (Int w) a → IsName l → AllByRecursion (IsBelow w) ns → AllByRecursion IsName labels → length labels ≡ length ns
    → Writes open_ (switch defs) (bare_inst (Switch w ns) Void (a ∷ []) (l ∷ labels)) ((blank ∷ (typed_operand (Int w) a ++ [])) ++ switch_pieces w ns (l ∷ labels))
unfolding switch
switch_writes defs w ns a l labels x i h g e =
    made_writes ((w, a), (l, map (written_case w) (zip ns labels))) _ (rw (same_widths w (zip ns labels), numbers_again w x.typed ns labels e h, cases_fit w x.typed ns labels h, labels_again w ns labels e) refl)
    (spaced (both (ended (index_writes x)) (both (after_comma (target_writes l i)) (spaced (between_writes kinds.LeftBracket kinds.RightBracket (codes "[") (codes "]") (each_behind (before_case ∷ []) (cases_of w ns labels)) _ bracket_kinds.2 refl
    (gap_laid 10 _ refl (loose (mark_laid kinds.RightBracket (codes "]") refl bracket_kinds.3 (loose nothing_behind)))) refl (many_behind _ cases_part (case_writes w x.typed) (zip ns labels) (cases_known w ns labels h g)))))))

-- ---- terminators

end_kinds : (kind_of (codes "i1") ≡ Some kinds.Word) × (kind_of (codes "void") ≡ Some kinds.Word)
unfolding table
end_kinds = (refl, refl)

bit_type : type_pieces (Int 1) ≡ word (codes "i1") ∷ []
unfolding type_pieces width_word
bit_type = rw (decimals.0) refl

module _ (defs : Definitions) where
  abbrev pub WritesTerminator : Kind → Ty → List OperandTree → List Name → Type 0
  WritesTerminator k t args labels = Writes closed (either (by_word terminator_words (terminator_behind defs)) (word_form (codes "unreachable") unreachable_tree)) (bare_inst k t args labels) (kind_pieces k t args labels)

  branch_writes : (a : OperandTree) (l m : Name) → IsWritten defs (Int 1) a → IsName l → IsName m → WritesTerminator Branch Void (a ∷ []) (l ∷ m ∷ [])
  unfolding terminator_words branch table
  branch_writes a l m x i j =
      left_writes (by_word_writes _ terminators.Br refl refl (rw bit_type (right_writes (made_writes (x.as_value, (l, m)) _ (rw (x.is) refl)
      (spaced (behind_writes (codes "i1") end_kinds.0 (spaced (both (ended x.writes) (both (after_comma (target_writes l i)) (after_comma (ended (target_writes m j))))))))))))

  pub terminator_writes : (k : Kind) (t : Ty) (args : List OperandTree) (labels : List Name) → IsBody (bare_inst k t args labels) → IsTerminator k → WritesTerminator k t args labels
  unfolding terminator_words branch ret table
  terminator_writes Jump t args labels h g =
      rw (h.result) (by_none (λ xs. WritesTerminator Jump Void xs labels) h.args (by_one_label (WritesTerminator Jump Void []) h.labels h.count (λ l i. left_writes (by_word_writes _ terminators.Br refl refl (left_writes (mapped_writes l _ refl (spaced (ended (target_writes l i)))))))))
  terminator_writes Branch t args labels h g =
      rw (h.result) (by_one defs (λ xs. WritesTerminator Branch Void xs labels) h.args (λ a x. by_two_labels (WritesTerminator Branch Void (a ∷ [])) h.labels h.count (λ l m i j. branch_writes a l m x i j)))
  terminator_writes (Switch w ns) t args labels h g =
      rw (h.result) (by_one defs (λ xs. WritesTerminator (Switch w ns) Void xs labels) h.args (λ a x. by_first_label (WritesTerminator (Switch w ns) Void (a ∷ [])) (length ns) h.labels h.count (λ l more i hs e. left_writes (by_word_writes _ terminators.Switch refl refl (switch_writes defs w ns a l more x i h.parts hs e)))))
  terminator_writes ReturnVoid t args labels h g =
      rw (h.result) (by_none (λ xs. WritesTerminator ReturnVoid Void xs labels) h.args (by_no_label (WritesTerminator ReturnVoid Void []) h.count (left_writes (by_word_writes _ terminators.Ret refl refl (spaced (right_writes (word_writes _ void_tree end_kinds.1)))))))
  terminator_writes (Return u) t args labels h g =
      rw (h.result) (by_one defs (λ xs. WritesTerminator (Return u) Void xs labels) h.args (λ a x. by_no_label (WritesTerminator (Return u) Void (a ∷ [])) h.count (left_writes (by_word_writes _ terminators.Ret refl refl (spaced (ended (left_writes (mapped_writes (u, a) _ refl (ended (typed_writes x))))))))))
  terminator_writes Unreachable t args labels h g =
      rw (h.result) (by_none (λ xs. WritesTerminator Unreachable Void xs labels) h.args (by_no_label (WritesTerminator Unreachable Void []) h.count (right_writes (word_writes _ unreachable_tree refl))))
  terminator_writes k t args labels h g = absurd g
