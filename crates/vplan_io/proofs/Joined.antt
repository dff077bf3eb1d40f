-- A text put piece by piece.
use Rattle.std.proofs.Common.{◌≡◌, ℕ, ◌+◌, ◌-◌, ◌≤◌, List, [], ◌∷◌, ◌++◌, length, take, drop, refl, ap, sym, ◌∙◌, arith, append_assoc, suc, zero, ⊎_elim, length-take}
use Rattle.std.proofs.lemmas.Bool.{cases_lt}
use Rattle.std.proofs.Math.Seq.{take-add, take-take}
use Rattle.std.specs.declared.option.Option.{Option}
use Rattle.std.specs.declared.option.Option.TheVariants.{None, Some}
use Rattle.std.specs.declared.result.Result.{Result}
use Rattle.std.specs.declared.result.Result.TheVariants.{Ok, Err}
use Rattle.std.specs.Result.{IsErr}
use Rattle.vplan_io.specs.Causes.{and_then, Takes}

-- two texts behind the bytes are one
pub and_then-twice : (a : Option (List ℕ)) (x y : List ℕ) → and_then (and_then a x) y ≡ and_then a (x ++ y)
and_then-twice None x y = refl
and_then-twice (Some bytes) x y = ap Some (append_assoc bytes x y)

-- a piece that is taken makes the front longer
pub piece-taken : (a b c : Option (List ℕ)) (text : List ℕ) (i j : ℕ) → i ≤ j → b ≡ and_then a (take i text) → c ≡ and_then b (take (j - i) (drop i text)) → c ≡ and_then a (take j text)
piece-taken a b c text i j le e f =
    let there : i + (j - i) ≡ j = omega arith in
    f ∙ ap (λ o. and_then o (take (j - i) (drop i text))) e ∙ and_then-twice a _ _ ∙ ap (and_then a) (sym (take-add i (j - i) text) ∙ ap (λ n. take n text) there)

take-whole : (n : ℕ) (l : List ℕ) → length l ≤ n → take n l ≡ l
take-whole zero [] h = refl
take-whole (suc n) [] h = refl
take-whole zero (x ∷ l) h = absurd (omega arith)
take-whole (suc n) (x ∷ l) h = ap (λ t. x ∷ t) (take-whole n l (omega arith))

-- and so does a part of it
pub part-taken : (a b c : Option (List ℕ)) (text : List ℕ) (i k n : ℕ) → b ≡ and_then a (take i text) → c ≡ and_then b (take n (take k (drop i text))) → (m : ℕ) × (c ≡ and_then a (take m text))
part-taken a b c text i k n e f =
    let whole : c ≡ and_then a (take i text ++ take n (take k (drop i text))) = f ∙ ap (λ o. and_then o (take n (take k (drop i text)))) e ∙ and_then-twice a _ _ in
    ⊎_elim
    (λ lt. (i + n, whole ∙ ap (λ t. and_then a (take i text ++ t)) (take-take n k (drop i text) (omega arith)) ∙ ap (and_then a) (sym (take-add i n text))))
    (λ ge. (i + k, whole ∙ ap (λ t. and_then a (take i text ++ t)) (take-whole n (take k (drop i text)) (omega (arith, length-take k (drop i text)))) ∙ ap (and_then a) (sym (take-add i k text))))
    (cases_lt n k)

-- a refusal passed on takes what the put took
pub refused-takes : {E : Type 0} (before now : Option (List ℕ)) (text : List ℕ) (result : Result (Unit {0}) E) → IsErr result → (n : ℕ) × (now ≡ and_then before (take n text)) → Takes before now text result
refused-takes before now text (Ok v) h p = cc
refused-takes before now text (Err e) h p = p

-- ---- one text behind another

take-front : (n : ℕ) (a b : List ℕ) → (m : ℕ) × (take n a ≡ take m (a ++ b))
take-front zero a b = (0, refl)
take-front (suc n) [] b = (0, refl)
take-front (suc n) (x ∷ a) b = let h = take-front n a b in (suc h.0, ap (λ t. x ∷ t) h.1)

take-behind : (a b : List ℕ) (n : ℕ) → a ++ take n b ≡ take (length a + n) (a ++ b)
take-behind [] b n = let e : n ≡ 0 + n = omega arith in ap (λ m. take m b) e
take-behind (x ∷ a) b n = let e : suc (length a + n) ≡ length (x ∷ a) + n = omega arith in ap (λ t. x ∷ t) (take-behind a b n) ∙ ap (λ m. take m (x ∷ a ++ b)) e

-- a front of the first text is a front of both
pub front-of-both : (before now : Option (List ℕ)) (a b : List ℕ) → (n : ℕ) × (now ≡ and_then before (take n a)) → (m : ℕ) × (now ≡ and_then before (take m (a ++ b)))
front-of-both before now a b (n, e) = let h = take-front n a b in (h.0, e ∙ ap (and_then before) h.1)

-- and so is the first with a front of the second
pub front-behind : (before middle now : Option (List ℕ)) (a b : List ℕ) → middle ≡ and_then before a → (n : ℕ) × (now ≡ and_then middle (take n b)) → (m : ℕ) × (now ≡ and_then before (take m (a ++ b)))
front-behind before middle now a b e (n, f) =
    (length a + n, f ∙ ap (λ o. and_then o (take n b)) e ∙ and_then-twice before a (take n b) ∙ ap (and_then before) (take-behind a b n))

-- what takes the second text behind the first takes both
pub takes-behind : {E : Type 0} (before middle now : Option (List ℕ)) (a b : List ℕ) (result : Result (Unit {0}) E) → middle ≡ and_then before a → Takes middle now b result → Takes before now (a ++ b) result
takes-behind before middle now a b (Ok v) e t = t ∙ ap (λ o. and_then o b) e ∙ and_then-twice before a b
takes-behind before middle now a b (Err x) e t = front-behind before middle now a b e t

-- two texts that are nothing together are nothing each
pub no-front : (a b : List ℕ) → a ++ b ≡ [] → a ≡ []
no-front [] b e = refl
no-front (x ∷ a) b e = absurd (cc)

pub no-back : (a b : List ℕ) → a ++ b ≡ [] → b ≡ []
no-back [] b e = e
no-back (x ∷ a) b e = absurd (cc)

-- two texts that are taken one behind the other
pub both-taken : (before middle now : Option (List ℕ)) (a b : List ℕ) → middle ≡ and_then before a → now ≡ and_then middle b → now ≡ and_then before (a ++ b)
both-taken before middle now a b e f = f ∙ ap (λ o. and_then o b) e ∙ and_then-twice before a b

-- what a put takes is a front of the text
pub front-of-takes : {E : Type 0} (before now : Option (List ℕ)) (text : List ℕ) (result : Result (Unit {0}) E) → Takes before now text result → (n : ℕ) × (now ≡ and_then before (take n text))
front-of-takes before now text (Ok v) t = (length text, t ∙ ap (and_then before) (sym (take-whole (length text) text (omega arith))))
front-of-takes before now text (Err e) t = t
