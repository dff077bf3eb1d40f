-- The text of pieces behind one another, and of items that are printed one at a time.
use Rattle.std.proofs.Common.{◌≡◌, ◌+◌, ◌-◌, ◌<◌, ◌≤◌, ℕ, suc, List, [], ◌∷◌, ◌++◌, length, get_or, take, drop, sym, ap, ◌∙◌, subst, append_assoc, add-one, drop-cons, arith}
use Rattle.std.specs.Prelude.{map}
use Rattle.std.specs.List.{AllByRecursion}
use Rattle.std.proofs.Math.Seq.{take-length}
use Rattle.std.proofs.lemmas.List.{append-nil, drop_all}
use Rattle.text_lex.specs.Layout.{Piece, text_of}
use Rattle.text_lex.proofs.Layouts.{text_of-append}
use Rattle.ir_printer_types.specs.Pieces.{each_behind, separated}

-- the text of pieces behind others stands behind theirs
pub text_of_both : (ps qs : List Piece) → text_of (ps ++ qs) ≡ text_of ps ++ text_of qs
text_of_both ps qs = text_of-append ps qs

-- ---- items from a place on

from_place : {A : Type 0} (xs : List A) (i : ℕ) (x : A) → i < length xs → x ≡ get_or xs i x → drop i xs ≡ x ∷ drop (i + 1) xs
from_place xs i x lt e = drop-cons xs i x lt ∙ rw (add-one i) (ap (λ (y : _). y ∷ drop (suc i) xs) (sym e))

-- what is known of them is known of the next one and of those behind it
pub known_from : {A B : Type 0} (g : A → B) (P : B → Type 0) (xs : List A) (i : ℕ) (x : A) → i < length xs → x ≡ get_or xs i x → AllByRecursion P (map g (drop i xs)) → P (g x) × AllByRecursion P (map g (drop (i + 1) xs))
known_from g P xs i x lt e h = subst (λ (ys : List _). AllByRecursion P (map g ys)) (from_place xs i x lt e) h

-- the next one is printed
pub printed_next : {A : Type 0} (f : A → List Piece) (s : List Piece) (xs : List A) (i : ℕ) (x : A) (out out1 out2 whole : List ℕ) → i < length xs → x ≡ get_or xs i x
    → out1 ≡ out ++ text_of s → out2 ≡ out1 ++ text_of (f x) → out ++ text_of (each_behind s (map f (drop i xs))) ≡ whole → out2 ++ text_of (each_behind s (map f (drop (i + 1) xs))) ≡ whole
printed_next f s xs i x out out1 out2 whole lt e e1 e2 so_far =
    let rest = each_behind s (map f (drop (i + 1) xs)) in
    let step : text_of (each_behind s (map f (drop i xs))) ≡ text_of s ++ (text_of (f x) ++ text_of rest) =
    ap (λ (ys : List _). text_of (each_behind s (map f ys))) (from_place xs i x lt e) ∙ text_of-append s (f x ++ rest) ∙ ap (λ (t : List ℕ). text_of s ++ t) (text_of-append (f x) rest) in
    let regroup : ((out ++ text_of s) ++ text_of (f x)) ++ text_of rest ≡ out ++ (text_of s ++ (text_of (f x) ++ text_of rest)) = simp append_assoc in
    rw (e2, e1) (regroup ∙ sym (ap (λ (t : List ℕ). out ++ t) step) ∙ so_far)

-- none is left
pub printed_all : {A : Type 0} (f : A → List Piece) (s : List Piece) (xs : List A) (i : ℕ) (out whole : List ℕ) → length xs ≤ i → out ++ text_of (each_behind s (map f (drop i xs))) ≡ whole → out ≡ whole
printed_all f s xs i out whole le so_far = sym (append-nil out) ∙ sym (ap (λ (ys : List _). out ++ text_of (each_behind s (map f ys))) (drop_all i xs le)) ∙ so_far

-- what stands behind the first
abbrev pub behind_first : {A : Type 0} → List A → List A
behind_first xs = take (length xs - 1) (drop 1 xs)

first_parts : {A : Type 0} (xs : List A) (x : A) → 0 < length xs → x ≡ get_or xs 0 x → xs ≡ x ∷ behind_first xs
first_parts [] x lt e = absurd (omega arith)
first_parts (y ∷ xs) x lt e = let k : suc (length xs) - 1 ≡ length xs = omega arith in rw (k, take-length xs) (ap (λ (z : _). z ∷ xs) (sym e))

-- the first one was printed, and then the others
pub printed_separated : {A : Type 0} (f : A → List Piece) (s : List Piece) (xs : List A) (x : A) (i : ℕ) (out out1 out2 : List ℕ) → 0 < length xs → x ≡ get_or xs 0 x → length (behind_first xs) ≤ i
    → out1 ≡ out ++ text_of (f x) → out2 ++ text_of (each_behind s (map f (drop i (behind_first xs)))) ≡ out1 ++ text_of (each_behind s (map f (behind_first xs))) → out2 ≡ out ++ text_of (separated s (map f xs))
printed_separated f s xs x i out out1 out2 lt e le e1 so_far =
    let rest = each_behind s (map f (behind_first xs)) in
    let whole : text_of (separated s (map f xs)) ≡ text_of (f x) ++ text_of rest =
    ap (λ (ys : List _). text_of (separated s (map f ys))) (first_parts xs x lt e) ∙ text_of-append (f x) rest in
    printed_all f s (behind_first xs) i out2 _ le so_far ∙ rw (e1, whole) (append_assoc out (text_of (f x)) (text_of rest))
