-- Kept texts that are printed one at a time.
use Rattle.std.proofs.Common.{◌≡◌, ◌+◌, ◌-◌, ◌<◌, ◌≤◌, ℕ, suc, true, false, eqb, List, [], ◌∷◌, ◌++◌, length, get_or, drop, refl, sym, ap, ◌∙◌, append_assoc, add-one, drop-cons, arith, inl, inr}
use Rattle.std.specs.Prelude.{codes}
use Rattle.std.proofs.lemmas.List.{append-nil, drop_all, get_or_default}
use Rattle.text_forms.specs.Form.{same_text}
use Rattle.text_forms.proofs.Begins.{test}
use Rattle.text_lex.specs.Layout.{text_of}
use Rattle.text_lex.specs.KeptText.{touches, between, kept_behind, kept_pieces, line_pieces}
use Rattle.text_lex.proofs.Layouts.{text_of-append}
use Rattle.text_lex.proofs.KeptTexts.{touching_text, parted_text, kept_text, line_text, line_equal_text}
use Rattle.ir_printer.specs.Print.{kept_then_blank}

-- the one at a place, and those behind it
pub from_place : (xs : List (List ℕ)) (i : ℕ) (w : List ℕ) → i < length xs → w ≡ get_or xs i w → drop i xs ≡ w ∷ drop (i + 1) xs
from_place xs i w lt e = drop-cons xs i w lt ∙ rw (add-one i) (ap (λ (y : List ℕ). y ∷ drop (suc i) xs) (sym e))

-- the text before a place
pub previous : (xs : List (List ℕ)) (i : ℕ) (w : List ℕ) → i < length xs → w ≡ get_or xs i w → w ≡ get_or xs i []
previous xs i w lt e = e ∙ get_or_default xs i w [] lt

-- ---- tokens behind one another

behind_text : (v w : List ℕ) (ws : List (List ℕ)) → text_of (kept_behind v (w ∷ ws)) ≡ text_of (between v w) ++ (w ++ text_of (kept_behind w ws))
behind_text v w ws = elim (test (touches v w)) [
  | inl y ↦ touching_text v w ws y ∙ rw y refl
  | inr n ↦ parted_text v w ws n ∙ rw n refl
]

-- the first of them is printed
pub first_printed : (xs : List (List ℕ)) (i : ℕ) (w : List ℕ) (out out1 : List ℕ) → i < length xs → w ≡ get_or xs i w → out1 ≡ out ++ w → out1 ++ text_of (kept_behind (get_or xs i []) (drop (i + 1) xs)) ≡ out ++ text_of (kept_pieces (drop i xs))
first_printed xs i w out out1 lt e e1 =
    rw (e1, from_place xs i w lt e, ← previous xs i w lt e, kept_text w (drop (i + 1) xs)) (append_assoc out w _)

-- the next one is
pub next_printed : (xs : List (List ℕ)) (i : ℕ) (v w : List ℕ) (out out1 out2 whole : List ℕ) → 0 < i → i < length xs → v ≡ get_or xs (i - 1) v → w ≡ get_or xs i w → out1 ≡ out ++ text_of (between v w) → out2 ≡ out1 ++ w
    → out ++ text_of (kept_behind (get_or xs (i - 1) []) (drop i xs)) ≡ whole → out2 ++ text_of (kept_behind (get_or xs (i + 1 - 1) []) (drop (i + 1) xs)) ≡ whole
next_printed xs i v w out out1 out2 whole some lt ev ew e1 e2 so_far =
    let back : i + 1 - 1 ≡ i = omega arith in
    let before : get_or xs (i - 1) [] ≡ v = sym (previous xs (i - 1) v (omega arith) ev) in
    let here : get_or xs i [] ≡ w = sym (previous xs i w lt ew) in
    let step : text_of (kept_behind v (drop i xs)) ≡ text_of (between v w) ++ (w ++ text_of (kept_behind w (drop (i + 1) xs))) =
    ap (λ (ys : List (List ℕ)). text_of (kept_behind v ys)) (from_place xs i w lt ew) ∙ behind_text v w (drop (i + 1) xs) in
    let regroup : ((out ++ text_of (between v w)) ++ w) ++ text_of (kept_behind w (drop (i + 1) xs)) ≡ out ++ (text_of (between v w) ++ (w ++ text_of (kept_behind w (drop (i + 1) xs)))) = simp append_assoc in
    rw (back, here, e2, e1) (regroup ∙ sym (ap (λ (t : List ℕ). out ++ t) step) ∙ rw before at so_far)

-- none is left
pub all_printed : (xs : List (List ℕ)) (i : ℕ) (v out whole : List ℕ) → length xs ≤ i → out ++ text_of (kept_behind v (drop i xs)) ≡ whole → out ≡ whole
all_printed xs i v out whole le so_far = sym (append-nil out) ∙ sym (ap (λ (ys : List (List ℕ)). out ++ text_of (kept_behind v ys)) (drop_all i xs le)) ∙ so_far

pub then_blank_text : (xs : List (List ℕ)) → eqb (length xs) 0 ≡ false → text_of (kept_then_blank xs) ≡ text_of (kept_pieces xs) ++ 32 ∷ []
then_blank_text [] e = absurd cc
then_blank_text (w ∷ ws) e = text_of-append (kept_pieces (w ∷ ws)) _

-- ---- a line, up to its first `=`

pub line_next : (xs : List (List ℕ)) (i : ℕ) (w : List ℕ) (out out1 out2 whole : List ℕ) → i < length xs → w ≡ get_or xs i w → same_text (codes "=") w ≡ false → out1 ≡ out ++ w → out2 ≡ out1 ++ 32 ∷ []
    → out ++ text_of (line_pieces (drop i xs)) ≡ whole → out2 ++ text_of (line_pieces (drop (i + 1) xs)) ≡ whole
line_next xs i w out out1 out2 whole lt e n e1 e2 so_far =
    let step : text_of (line_pieces (drop i xs)) ≡ w ++ (32 ∷ text_of (line_pieces (drop (i + 1) xs))) =
    ap (λ (ys : List (List ℕ)). text_of (line_pieces ys)) (from_place xs i w lt e) ∙ line_text w (drop (i + 1) xs) n in
    let regroup : ((out ++ w) ++ 32 ∷ []) ++ text_of (line_pieces (drop (i + 1) xs)) ≡ out ++ (w ++ (32 ∷ text_of (line_pieces (drop (i + 1) xs)))) = simp append_assoc in
    rw (e2, e1) (regroup ∙ sym (ap (λ (t : List ℕ). out ++ t) step) ∙ so_far)

pub line_equal : (xs : List (List ℕ)) (i : ℕ) (w : List ℕ) (out out1 out2 whole : List ℕ) → i < length xs → w ≡ get_or xs i w → same_text (codes "=") w ≡ true → out1 ≡ out ++ w → out2 ≡ out1 ++ 32 ∷ []
    → out ++ text_of (line_pieces (drop i xs)) ≡ whole → out2 ++ text_of (kept_pieces (drop (i + 1) xs)) ≡ whole
line_equal xs i w out out1 out2 whole lt e y e1 e2 so_far =
    let step : text_of (line_pieces (drop i xs)) ≡ w ++ (32 ∷ text_of (kept_pieces (drop (i + 1) xs))) =
    ap (λ (ys : List (List ℕ)). text_of (line_pieces ys)) (from_place xs i w lt e) ∙ line_equal_text w (drop (i + 1) xs) y in
    let regroup : ((out ++ w) ++ 32 ∷ []) ++ text_of (kept_pieces (drop (i + 1) xs)) ≡ out ++ (w ++ (32 ∷ text_of (kept_pieces (drop (i + 1) xs)))) = simp append_assoc in
    rw (e2, e1) (regroup ∙ sym (ap (λ (t : List ℕ). out ++ t) step) ∙ so_far)
