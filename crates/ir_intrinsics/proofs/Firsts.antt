-- The first that is given of entries behind one another.
use Rattle.std.proofs.Common.{◌≡◌, ◌<◌, ◌≤◌, ℕ, zero, suc, ◌+◌, List, [], ◌∷◌, length, get_or, drop, map, Option, Some, None, add-one, refl, ap, ◌∙◌, arith}
use Rattle.std.specs.Prelude.{filter_map}
use Rattle.std.specs.List.{cons_option}
use Rattle.std.proofs.lemmas.List.{drop_all}
use Rattle.ir_intrinsics.specs.Intrinsics.{first}

pub first_here : {E B C : Type 0} (v : E → B) (h : B → Option C) (es : List E) (i : ℕ) (d : E) (c : C) → i < length es → h (v (get_or es i d)) ≡ Some c → first (filter_map h (map v (drop i es))) ≡ Some c
first_here v h [] i d c lt e = absurd (omega arith)
first_here v h (x ∷ xs) zero d c lt e = ap (λ o. first (cons_option o (filter_map h (map v xs)))) e
first_here v h (x ∷ xs) (suc i) d c lt e = first_here v h xs i d c (omega arith) e

pub first_next : {E B C : Type 0} (v : E → B) (h : B → Option C) (es : List E) (i : ℕ) (d : E) → i < length es → h (v (get_or es i d)) ≡ None → first (filter_map h (map v (drop i es))) ≡ first (filter_map h (map v (drop (i + 1) es)))
first_next v h [] i d lt e = absurd (omega arith)
first_next v h (x ∷ xs) zero d lt e = ap (λ o. first (cons_option o (filter_map h (map v xs)))) e
first_next v h (x ∷ xs) (suc i) d lt e = rw add-one (first_next v h xs i d (omega arith) e ∙ rw add-one refl)

pub first_end : {E B C : Type 0} (v : E → B) (h : B → Option C) (es : List E) (i : ℕ) → length es ≤ i → first (filter_map h (map v (drop i es))) ≡ None
first_end v h es i le = ap (λ l. first (filter_map h (map v l))) (drop_all i es le)
