-- Parts that are printed one at a time.
use Rattle.std.proofs.Common.{◌≡◌, ◌+◌, ◌<◌, ◌≤◌, ℕ, zero, suc, List, [], ◌∷◌, ◌++◌, length, get_or, take, refl, sym, ap, ◌∙◌, subst, append_assoc, arith}
use Rattle.std.specs.Prelude.{map}
use Rattle.std.specs.List.{AllByRecursion, AllZip, zip}
use Rattle.std.proofs.lemmas.List.{append-nil, get_or-map, get_or_default, length-map, length-take, take_all, take_more}
use Rattle.std.proofs.lemmas.Slice.Zip.{get_or-zip, length-zip}
use Rattle.text_lex.specs.Layout.{Piece, text_of}
use Rattle.text_lex.proofs.Layouts.{text_of-append}
use Rattle.ir_printer_types.specs.Pieces.{comma, blank, each_behind, with_commas}
use Rattle.ir_printer.specs.Print.{comma_before}

-- the one at a place
pub record IsAt {A : Type 0} (xs : List A) (i : ℕ) (x : A) : Type 0 where
  pub within : i < length xs
  pub is : x ≡ get_or xs i x

-- read at a place
pub at_index : {A : Type 0} (xs : List A) (i : ℕ) (d : A) → i < length xs → IsAt xs i (get_or xs i d)
at_index xs i d lt = record { within = lt; is = get_or_default xs i d (get_or xs i d) lt }

-- what is mapped stands at the same place
pub at_map : {A B : Type 0} (f : A → B) (xs : List A) (i : ℕ) (x : A) → IsAt xs i x → IsAt (map f xs) i (f x)
at_map f xs i x h = let lt = h.within in record { within = rw (length-map xs f) lt; is = ap f h.is ∙ sym (get_or-map f xs i x (f x) lt) }

-- and a pair of two lists
pub at_zip : {A B : Type 0} (xs : List A) (ys : List B) (i : ℕ) (x : A) (y : B) → IsAt xs i x → IsAt ys i y → IsAt (zip xs ys) i (x, y)
at_zip xs ys i x y h g = record { within = omega (arith, h.within, g.within, length-zip xs ys); is = rw (get_or-zip xs ys i (x, y) h.within g.within, ← h.is, ← g.is) refl }

-- what holds of each holds of it
pub known_at : {A : Type 0} (P : A → Type 0) (xs : List A) (i : ℕ) (x : A) → IsAt xs i x → AllByRecursion P xs → P x
known_at P [] i x p h = absurd (omega (arith, p.within))
known_at P (y ∷ xs) zero x p h = subst P (sym p.is) h.0
known_at P (y ∷ xs) (suc i) x p h = known_at P xs i x (record { within = omega (arith, p.within); is = p.is }) h.1

-- what holds of each pair holds of the one at a place
pub known_pair : {A B : Type 0} (R : A → B → Type 0) (xs : List A) (ys : List B) (i : ℕ) (x : A) (y : B) → IsAt xs i x → IsAt ys i y → AllZip R xs ys → R x y
known_pair R [] ys i x y p q h = absurd (omega (arith, p.within))
known_pair R (a ∷ xs) [] i x y p q h = absurd h
known_pair R (a ∷ xs) (b ∷ ys) zero x y p q h = rw (p.is, q.is) h.0
known_pair R (a ∷ xs) (b ∷ ys) (suc i) x y p q h = known_pair R xs ys i x y (record { within = omega (arith, p.within); is = p.is }) (record { within = omega (arith, q.within); is = q.is }) h.1

-- ---- the parts up to a place, and the next one

one_behind : (s : List Piece) (ps : List (List Piece)) (p : List Piece) → text_of (each_behind s (ps ++ p ∷ [])) ≡ text_of (each_behind s ps) ++ (text_of s ++ text_of p)
one_behind s [] p = simp (text_of-append, append-nil)
one_behind s (q ∷ ps) p = simp (text_of-append, append_assoc) (ap (λ (t : List ℕ). text_of s ++ (text_of q ++ t)) (one_behind s ps p))

one_comma : (ps : List (List Piece)) (p : List Piece) → text_of (with_commas (ps ++ p ∷ [])) ≡ text_of (with_commas ps) ++ (text_of (comma_before (length ps)) ++ text_of p)
one_comma [] p = simp append-nil
one_comma (q ∷ ps) p = simp (text_of-append, append_assoc) (ap (λ (t : List ℕ). text_of q ++ t) (one_behind (comma ∷ blank ∷ []) ps p))

up_to_next : (ps : List (List Piece)) (i : ℕ) (p : List Piece) → IsAt ps i p → take (i + 1) ps ≡ take i ps ++ p ∷ []
up_to_next ps i p h = take_more ps i p h.within ∙ ap (λ (q : List Piece). take i ps ++ q ∷ []) (sym h.is)

-- the next part is printed behind a comma
pub next_part : (ps : List (List Piece)) (i : ℕ) (p : List Piece) (start out out1 out2 : List ℕ) → IsAt ps i p → out1 ≡ out ++ text_of (comma_before i) → out2 ≡ out1 ++ text_of p
    → out ≡ start ++ text_of (with_commas (take i ps)) → out2 ≡ start ++ text_of (with_commas (take (i + 1) ps))
next_part ps i p start out out1 out2 h e1 e2 so_far =
    let many : length (take i ps) ≡ i = omega (arith, length-take i ps, h.within) in
    let step : text_of (with_commas (take (i + 1) ps)) ≡ text_of (with_commas (take i ps)) ++ (text_of (comma_before i) ++ text_of p) =
    ap (λ (qs : List (List Piece)). text_of (with_commas qs)) (up_to_next ps i p h) ∙ one_comma (take i ps) p ∙ ap (λ (n : ℕ). text_of (with_commas (take i ps)) ++ (text_of (comma_before n) ++ text_of p)) many in
    rw (e2, e1, so_far, step) (simp append_assoc)

-- and behind pieces of its own
pub next_behind : (s : List Piece) (ps : List (List Piece)) (i : ℕ) (p : List Piece) (start out out1 out2 : List ℕ) → IsAt ps i p → out1 ≡ out ++ text_of s → out2 ≡ out1 ++ text_of p
    → out ≡ start ++ text_of (each_behind s (take i ps)) → out2 ≡ start ++ text_of (each_behind s (take (i + 1) ps))
next_behind s ps i p start out out1 out2 h e1 e2 so_far =
    let step : text_of (each_behind s (take (i + 1) ps)) ≡ text_of (each_behind s (take i ps)) ++ (text_of s ++ text_of p) =
    ap (λ (qs : List (List Piece)). text_of (each_behind s qs)) (up_to_next ps i p h) ∙ one_behind s (take i ps) p in
    rw (e2, e1, so_far, step) (simp append_assoc)

-- all of them
pub all_parts : (f : List (List Piece) → List Piece) (ps : List (List Piece)) (i : ℕ) (start out : List ℕ) → length ps ≤ i → out ≡ start ++ text_of (f (take i ps)) → out ≡ start ++ text_of (f ps)
all_parts f ps i start out le so_far = so_far ∙ ap (λ (qs : List (List Piece)). start ++ text_of (f qs)) (take_all i ps le)
