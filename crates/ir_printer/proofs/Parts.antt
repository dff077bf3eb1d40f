-- The pieces that parts of instructions are printed as write them.
use Rattle.std.proofs.Common.{◌≡◌, ◌<◌, ◌^◌, ℕ, suc, Bool, true, false, List, [], ◌∷◌, ◌++◌, length, Some, None, refl, ◌∙◌, arith}
use Rattle.std.specs.Prelude.{codes, decimal}
use Rattle.std.specs.List.{AllByRecursion}
use Rattle.text_forms.specs.declared.TokenKind.TheVariants as kinds
use Rattle.text_forms.specs.Lexical.{kind_of, table}
use Rattle.text_forms.specs.Form.{Form}
use Rattle.text_lex.specs.Layout.{Piece, closed, open_}
use Rattle.ir_printer_types.specs.Pieces.{word}
use Rattle.text_lex.specs.Names.{is_digits}
use Rattle.text_lex.proofs.Decimals.{decimal_digits, number_of-decimal}
use Rattle.text_lex.proofs.Printed.{number_digits}
use Rattle.ir_types.specs.declared.name.Name.{Name}
use Rattle.ir_types.specs.declared.inst.Ty.{Ty}
use Rattle.ir_types.specs.Offsets.{Definitions}
use Rattle.ir_types.specs.Written.{number_of, at_most_64_bits}
use Rattle.ir_types.specs.Tree.{OperandTree}
use Rattle.ir_types.specs.FlagForms.{one_flag, two_flags, three_flags, flag_then}
use Rattle.ir_types.specs.InstParts.{typed_pair, to_type, target, alignment_of, alignment}
use Rattle.ir_shape.specs.Shape.{IsName, IsType, IsBelow}
use Rattle.ir_printer_types.proofs.Numbers.{no_sign}
use Rattle.ir_printer_types.proofs.Writes.{Writes, both, spaced, ended, mapped_writes, made_writes, exactly_writes, one_writes, behind_writes, left_writes, right_writes, none_writes, there_writes, after_comma, marked_comma}
use Rattle.ir_printer.specs.Print.{flag_pieces, wrap_pieces, offset_flags, typed_pieces, to_pieces, align_pieces, target_pieces}
use Rattle.ir_printer.proofs.Numbers.{is_less}
use Rattle.ir_printer.proofs.Words.{local_writes, type_writes}
use Rattle.ir_printer.proofs.Values.{IsWritten}

part_kinds : (kind_of (codes "nuw") ≡ Some kinds.Word) × (kind_of (codes "nsw") ≡ Some kinds.Word) × (kind_of (codes "to") ≡ Some kinds.Word) × (kind_of (codes "label") ≡ Some kinds.Word) × (kind_of (codes "align") ≡ Some kinds.Word)
unfolding table
part_kinds = (refl, refl, refl, refl, refl)

offset_kinds : (kind_of (codes "inbounds") ≡ Some kinds.Word) × (kind_of (codes "nusw") ≡ Some kinds.Word)
unfolding table
offset_kinds = (refl, refl)

-- ---- flags

pub flag_writes : (w : List ℕ) (b : Bool) → kind_of w ≡ Some kinds.Word → Writes open_ (one_flag w) b (flag_pieces b w)
flag_writes w false k = mapped_writes None false refl none_writes
flag_writes w true k = mapped_writes (Some tt) true refl (there_writes (spaced (exactly_writes w k)))

-- one flag, and perhaps others behind it
then_writes : {A B : Type 0} {h : A → B} {w : List ℕ} {f : Form A} {a : A} {ps : List Piece} (b : B) → kind_of w ≡ Some kinds.Word → h a ≡ b → Writes open_ f a ps → Writes closed (flag_then h w f) b (word w ∷ ps)
then_writes {w = w} {a = a} b k e p = mapped_writes a b e (behind_writes w k p)

pub two_write : (first second : List ℕ) (b c : Bool) → kind_of first ≡ Some kinds.Word → kind_of second ≡ Some kinds.Word → Writes open_ (two_flags first second) (b, c) (flag_pieces b first ++ flag_pieces c second)
two_write first second false false k l = mapped_writes None _ refl none_writes
two_write first second false true k l = mapped_writes (Some (false, true)) _ refl (there_writes (spaced (right_writes (then_writes _ l refl (flag_writes first false k)))))
two_write first second true c k l = mapped_writes (Some (true, c)) _ refl (there_writes (spaced (left_writes (then_writes _ k refl (flag_writes second c l)))))

pub wrap_writes : (nuw nsw : Bool) → Writes open_ (two_flags (codes "nuw") (codes "nsw")) (nuw, nsw) (wrap_pieces nuw nsw)
wrap_writes nuw nsw = two_write (codes "nuw") (codes "nsw") nuw nsw part_kinds.0 part_kinds.1

-- `nusw` stands before `nuw`
reversed_write : (nuw nusw : Bool) → Writes open_ (two_flags (codes "nuw") (codes "nusw")) (nuw, nusw) (flag_pieces nusw (codes "nusw") ++ flag_pieces nuw (codes "nuw"))
reversed_write false false = mapped_writes None _ refl none_writes
reversed_write true false = mapped_writes (Some (true, false)) _ refl (there_writes (spaced (left_writes (then_writes _ part_kinds.0 refl (flag_writes (codes "nusw") false offset_kinds.1)))))
reversed_write nuw true = mapped_writes (Some (nuw, true)) _ refl (there_writes (spaced (right_writes (then_writes _ offset_kinds.1 refl (flag_writes (codes "nuw") nuw part_kinds.0)))))

pub offset_flags_write : (inbounds nuw nusw : Bool) → Writes open_ three_flags (inbounds, (nuw, nusw)) (offset_flags inbounds nuw nusw)
unfolding three_flags
offset_flags_write true nuw nusw = mapped_writes (Some (true, (nuw, nusw))) _ refl (there_writes (spaced (left_writes (then_writes _ offset_kinds.0 refl (reversed_write nuw nusw)))))
offset_flags_write false nuw true = mapped_writes (Some (false, (nuw, true))) _ refl (there_writes (spaced (right_writes (right_writes (then_writes _ offset_kinds.1 refl (two_write (codes "inbounds") (codes "nuw") false nuw offset_kinds.0 part_kinds.0))))))
offset_flags_write false true false = mapped_writes (Some (false, (true, false))) _ refl (there_writes (spaced (right_writes (left_writes (then_writes _ part_kinds.0 refl (two_write (codes "inbounds") (codes "nusw") false false offset_kinds.0 offset_kinds.1))))))
offset_flags_write false false false = mapped_writes None _ refl none_writes

-- ---- operands

pub pair_writes : {defs : Definitions} {t : Ty} {a b : OperandTree} → IsWritten defs t a → IsWritten defs t b → Writes open_ (typed_pair defs) (t, (a, b)) (typed_pieces t (a ∷ b ∷ []))
unfolding typed_pair
pair_writes {t = t} {a = a} {b = b} x y =
    made_writes (t, (x.as_value, y.as_value)) (t, (a, b)) (rw (x.is, y.is) refl) (spaced (both (type_writes t x.typed) (spaced (both x.writes (after_comma (ended y.writes))))))

-- ---- what stands behind operands

pub to_writes : (t : Ty) → IsType t → Writes open_ to_type t (to_pieces t)
to_writes t h = spaced (behind_writes (codes "to") part_kinds.2 (spaced (type_writes t h)))

pub target_writes : (l : Name) → IsName l → Writes closed target l (target_pieces l)
unfolding target
target_writes l h = behind_writes (codes "label") part_kinds.3 (spaced (local_writes l h))

digits_aligned : (ds : List ℕ) → is_digits ds ≡ true → alignment_of ds ≡ Some (at_most_64_bits (number_of ds))
digits_aligned [] h = absurd cc
digits_aligned (d ∷ ds) h = rw (no_sign d ds h) refl

align_again : (n : ℕ) → IsBelow 64 n → alignment_of (decimal n) ≡ Some n
align_again n h =
    let few : n < 10 ^ 64 = omega arith in
    digits_aligned (decimal n) (decimal_digits n few) ∙ rw (number_of-decimal n few, is_less n (2 ^ 64) h) refl

pub align_writes : (n : ℕ) → IsBelow 64 n → Writes open_ alignment (Some n) (align_pieces n)
unfolding alignment
align_writes n h =
    let few : n < 10 ^ 64 = omega arith in
    there_writes (marked_comma (behind_writes (codes "align") part_kinds.4 (spaced (made_writes (decimal n) n (align_again n h) (one_writes kinds.Number (decimal n) (number_digits (decimal n) (decimal_digits n few)))))))

-- ---- so many labels

pub by_no_label : (P : List Name → Type 0) {labels : List Name} → length labels ≡ 0 → P [] → P labels
by_no_label P {labels = []} e p = p
by_no_label P {labels = l ∷ labels} e p = absurd (omega arith)

pub by_first_label : (P : List Name → Type 0) (n : ℕ) {labels : List Name} → AllByRecursion IsName labels → length labels ≡ suc n → ((l : Name) (more : List Name) → IsName l → AllByRecursion IsName more → length more ≡ n → P (l ∷ more)) → P labels
by_first_label P n {labels = []} h e p = absurd (omega arith)
by_first_label P n {labels = l ∷ labels} h e p = p l labels h.0 h.1 (omega arith)

pub by_one_label : (P : List Name → Type 0) {labels : List Name} → AllByRecursion IsName labels → length labels ≡ 1 → ((l : Name) → IsName l → P (l ∷ [])) → P labels
by_one_label P h e p = by_first_label P 0 h e (λ l more i g f. by_no_label (λ ls. P (l ∷ ls)) f (p l i))

pub by_two_labels : (P : List Name → Type 0) {labels : List Name} → AllByRecursion IsName labels → length labels ≡ 2 → ((l m : Name) → IsName l → IsName m → P (l ∷ m ∷ [])) → P labels
by_two_labels P h e p = by_first_label P 1 h e (λ l more i g f. by_one_label (λ ls. P (l ∷ ls)) g f (λ m j. p l m i j))
