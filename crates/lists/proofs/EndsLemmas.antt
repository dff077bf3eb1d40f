-- Lemmas on texts that are kept by their ends.
use Rattle.std.proofs.Common.{◌≡◌, ℕ, ◌<◌, ◌≤◌, List, [], ◌∷◌, ◌++◌, length, get_or, Some, suc, zero, refl, sym, ap, ◌∙◌, arith, length-append}
use Rattle.std.specs.Prelude.{slice_get}
use Rattle.std.specs.List.{slice_range}
use Rattle.std.proofs.lemmas.Grind.{common_steps}
use Rattle.std.proofs.lemmas.List.{get_or_default}
use Rattle.std.proofs.lemmas.Option.{get_or_from_slice_get}
use Rattle.lists.specs.Ends.{texts_between, EndAt}

-- there are as many texts as ends
pub length-texts_between : (bytes : List ℕ) (start : ℕ) (ends : List ℕ) → length (texts_between bytes start ends) ≡ length ends
length-texts_between bytes start [] = refl
length-texts_between bytes start (end ∷ ends) = ap suc (length-texts_between bytes end ends)

-- the start does not lie past the bytes
pub EndAt-start : (total start : ℕ) (ends : List ℕ) → EndAt total start ends → start ≤ total
EndAt-start total start [] h = omega arith
EndAt-start total start (end ∷ ends) h = omega (arith, EndAt-start total end ends h.1)

-- each text begins at or before its end, which does not lie past the bytes
pub EndAt-place : (total start : ℕ) (ends : List ℕ) (place : ℕ) → EndAt total start ends → place < length ends → (get_or (start ∷ ends) place 0 ≤ get_or ends place 0) × (get_or ends place 0 ≤ total)
EndAt-place total start [] place h within = absurd (omega arith)
EndAt-place total start (end ∷ ends) zero h within = (h.0, EndAt-start total end ends h.1)
EndAt-place total start (end ∷ ends) (suc place) h within = EndAt-place total end ends place h.1 (omega arith)

-- the text at a place lies between the end before it and its own
pub slice_get-texts_between : (bytes : List ℕ) (start : ℕ) (ends : List ℕ) (place : ℕ) → place < length ends → slice_get (texts_between bytes start ends) place ≡ Some (slice_range bytes (get_or (start ∷ ends) place 0) (get_or ends place 0))
slice_get-texts_between bytes start [] place within = absurd (omega arith)
slice_get-texts_between bytes start (end ∷ ends) zero within = refl
slice_get-texts_between bytes start (end ∷ ends) (suc place) within = slice_get-texts_between bytes end ends place (omega arith)

-- one more text
EndAt-push : (total more start : ℕ) (ends : List ℕ) → EndAt total start ends → total ≤ more → EndAt more start (ends ++ more ∷ [])
EndAt-push total more start [] h more_is = (omega arith, refl)
EndAt-push total more start (end ∷ ends) h more_is = (h.0, EndAt-push total more end ends h.1 more_is)

slice_range-append_left : (bytes text : List ℕ) (start end : ℕ) → start ≤ end → end ≤ length bytes → slice_range (bytes ++ text) start end ≡ slice_range bytes start end
slice_range-append_left bytes text start end ordered within = grind (arith, common_steps)

slice_range-append_right : (bytes text : List ℕ) (start end : ℕ) → start ≡ length bytes → end ≡ length (bytes ++ text) → slice_range (bytes ++ text) start end ≡ text
slice_range-append_right bytes text start end starts ends = grind (arith, common_steps)

texts_between-push : (bytes text : List ℕ) (start : ℕ) (ends : List ℕ) → EndAt (length bytes) start ends
    → texts_between (bytes ++ text) start (ends ++ length (bytes ++ text) ∷ []) ≡ texts_between bytes start ends ++ text ∷ []
texts_between-push bytes text start [] h = ap (λ t. t ∷ []) (slice_range-append_right bytes text start _ h refl)
texts_between-push bytes text start (end ∷ ends) h =
    let first = slice_range-append_left bytes text start end h.0 (EndAt-start (length bytes) end ends h.1) in
    let rest = texts_between-push bytes text end ends h.1 in
    (cc)

-- what `push` leaves: `bytes` and `ends` are what was there before it, and `more` is the new end
pub pushed_text : (bytes text new_bytes ends new_ends : List ℕ) (more : ℕ) → new_bytes ≡ bytes ++ text → more ≡ length new_bytes → new_ends ≡ ends ++ more ∷ [] → EndAt (length bytes) 0 ends
    → EndAt (length new_bytes) 0 new_ends × (texts_between new_bytes 0 new_ends ≡ texts_between bytes 0 ends ++ text ∷ [])
pushed_text bytes text new_bytes ends new_ends more bytes_are more_is ends_are h =
    rw (ends_are, more_is, bytes_are) (EndAt-push (length bytes) (length (bytes ++ text)) 0 ends h (omega (arith, length-append bytes text)), texts_between-push bytes text 0 ends h)

-- what `at` reads: the text at a place of the list that these bytes and ends are
pub read_text : (bytes ends : List ℕ) (texts : List (List ℕ)) (place start end : ℕ) → texts_between bytes 0 ends ≡ texts → EndAt (length bytes) 0 ends → place < length texts
    → start ≡ get_or (0 ∷ ends) place 0 → end ≡ get_or ends place end
    → (start ≤ end) × (end ≤ length bytes) × (slice_range bytes start end ≡ get_or texts place (slice_range bytes start end)) × (slice_get texts place ≡ Some (slice_range bytes start end))
read_text bytes ends texts place start end view h within start_is end_is =
    let inside : place < length ends = omega (arith, ap length view, length-texts_between bytes 0 ends) in
    let bounds = EndAt-place (length bytes) 0 ends place h inside in
    let end_at : get_or ends place 0 ≡ end = sym (end_is ∙ get_or_default ends place end 0 inside) in
    let found : slice_get texts place ≡ Some (slice_range bytes start end) = rw (← view, start_is, ← end_at) (slice_get-texts_between bytes 0 ends place inside) in
    let ordered : start ≤ end = rw (start_is, ← end_at) bounds.0 in
    let fits : end ≤ length bytes = rw (← end_at) bounds.1 in
    (ordered, fits, sym (get_or_from_slice_get texts place _ _ found), found)
