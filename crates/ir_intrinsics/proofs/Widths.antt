-- Widths before an end.
use Rattle.std.proofs.Common.{◌≡◌, ℕ, ◌-◌, true, false, List, [], ◌∷◌, ◌++◌, length, take, drop, Option, Some, None, inl, inr, refl, sym, ap, ◌∙◌, true≢false}
use Rattle.std.specs.Prelude.{bytes_eq, find}
use Rattle.std.specs.Bool.{Decides}
use Rattle.std.proofs.lemmas.Bool.Decides.{same_from_decides}
use Rattle.std.proofs.lemmas.List.{append_cancel_right, take-append-drop, length-append}
use Rattle.std.proofs.Math.Seq.{drop-append_seam}
use Rattle.std.proofs.Math.Nat.{add-sub_cancel}
use Rattle.std.proofs.lemmas.Slice.Eq.{bytes_eq-Decides}
use Rattle.text_forms.specs.Bind.{◌>>=◌}
use Rattle.text_forms.specs.Form.{same_text, entry}
use Rattle.text_forms.proofs.Begins.{test}
use Rattle.ir_intrinsics.proofs.Fronts.{same_text-Decides}

both_ends : (a w end : List ℕ) → bytes_eq (a ++ end) (w ++ end) ≡ same_text w a
both_ends a w end =
    let bytes : Decides (bytes_eq (a ++ end) (w ++ end)) (w ≡ a) = (λ e. sym (append_cancel_right a w end ((bytes_eq-Decides (a ++ end) (w ++ end)).0 e)), λ e. (bytes_eq-Decides (a ++ end) (w ++ end)).1 (ap (λ t. t ++ end) (sym e))) in
    same_from_decides (bytes_eq (a ++ end) (w ++ end)) (same_text w a) bytes (same_text-Decides w a)

-- what a table has before an end
abbrev before_end : List (List ℕ × ℕ) → (end text : List ℕ) → Option ℕ
before_end table end text = find (λ e. bytes_eq (e.0 ++ end) text) table >>= λ e. Some e.1

found : (table : List (List ℕ × ℕ)) (w end : List ℕ) → before_end table end (w ++ end) ≡ entry table w
found [] w end = refl
found (e ∷ es) w end = elim (test (same_text w e.0)) [ inl i ↦ rw (both_ends e.0 w end, i) refl | inr i ↦ rw (both_ends e.0 w end, i) (found es w end) ]

-- the text without the end
pub width_found : (table : List (List ℕ × ℕ)) (end text w : List ℕ) → bytes_eq (drop (length text - length end) text) end ≡ true → w ≡ take (length text - length end) text → before_end table end text ≡ entry table w
width_found table end text w is front =
    let k = length text - length end in
    let behind : drop k text ≡ end = (bytes_eq-Decides (drop k text) end).0 is in
    let whole : text ≡ w ++ end = sym (take-append-drop k text) ∙ ap (λ t. t ++ drop k text) (sym front) ∙ ap (λ t. w ++ t) behind in
    ap (before_end table end) whole ∙ found table w end

ends_so : (a end : List ℕ) → drop (length (a ++ end) - length end) (a ++ end) ≡ end
ends_so a end = ap (λ n. drop n (a ++ end)) (ap (λ n. n - length end) (length-append a end) ∙ add-sub_cancel (length a) (length end)) ∙ drop-append_seam a end

other_end : (a end text : List ℕ) → bytes_eq (drop (length text - length end) text) end ≡ false → bytes_eq (a ++ end) text ≡ false
other_end a end text not = elim (test (bytes_eq (a ++ end) text)) [
  | inl i ↦ absurd (
      let whole : text ≡ a ++ end = sym ((bytes_eq-Decides (a ++ end) text).0 i) in
      let same : drop (length text - length end) text ≡ end = ap (λ t. drop (length t - length end) t) whole ∙ ends_so a end in
      true≢false (sym ((bytes_eq-Decides (drop (length text - length end) text) end).1 same) ∙ not))
  | inr i ↦ i
]

-- no end
pub no_width : (table : List (List ℕ × ℕ)) (end text : List ℕ) → bytes_eq (drop (length text - length end) text) end ≡ false → before_end table end text ≡ None
no_width [] end text not = refl
no_width (e ∷ es) end text not = rw (other_end e.0 end text not) (no_width es end text not)
