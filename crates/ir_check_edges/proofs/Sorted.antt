-- Two ascending lists that have each number equally often are one.
use Rattle.std.proofs.Common.{◌≡◌, ℕ, suc, ◌+◌, ◌<◌, ◌≤◌, Bool, true, false, cond, ◌&&◌, ◌⊎◌, nat_eq, inl, inr, List, [], ◌∷◌, ◌++◌, length, get_or, refl, sym, ap, ◌∙◌, true≢false, arith}
use Rattle.std.specs.Bool.{Decides}
use Rattle.std.specs.List.{count_by, list_all}
use Rattle.std.specs.List.Sorted.{IsPermutation, IsNonDecreasing}
use Rattle.std.proofs.lemmas.List.Sums.{sum_by-cons}
use Rattle.std.proofs.lemmas.List.Sorted.{sum_by-IsPermutation}
use Rattle.std.proofs.lemmas.Bool.{cases_order}
use Rattle.std.proofs.lemmas.Bool.Decides.{Decides-eqb}
use Rattle.text_forms.proofs.Begins.{test}

-- how often a number stands in a list
abbrev pub occurs : ℕ → List ℕ → ℕ
occurs n xs = count_by (nat_eq n) xs

cons_occurs : (n x : ℕ) (xs : List ℕ) → occurs n (x ∷ xs) ≡ cond (nat_eq n x) 1 0 + occurs n xs
cons_occurs n x xs = sum_by-cons (λ y. cond (nat_eq n y) 1 0) x xs

is_itself : (n : ℕ) → nat_eq n n ≡ true
is_itself n = (Decides-eqb n n).1 refl

is_less : (n m : ℕ) → n < m → nat_eq n m ≡ false
is_less n m lt = elim (test (nat_eq n m)) [ inr e ↦ e | inl e ↦ absurd (let same : n ≡ m = (Decides-eqb n m).0 e in omega (arith, same, lt)) ]

-- a number below all stands nowhere
none_below : (n : ℕ) (xs : List ℕ) → ((j : ℕ) → j < length xs → n < get_or xs j 0) → occurs n xs ≡ 0
none_below n [] below = refl
none_below n (x ∷ xs) below =
    let here : occurs n (x ∷ xs) ≡ 0 + occurs n xs = cons_occurs n x xs ∙ ap (λ b. cond b 1 0 + occurs n xs) (is_less n x (below 0 (omega arith))) in
    let there : occurs n xs ≡ 0 = none_below n xs (λ j lt. below (suc j) (omega (arith, lt))) in
    omega (arith, here, there)

behind : (x : ℕ) (xs : List ℕ) → IsNonDecreasing (x ∷ xs) → IsNonDecreasing xs
behind x xs rising = λ i j d le lt. rising (suc i) (suc j) d (omega (arith, le)) (omega (arith, lt))

front : (x : ℕ) (xs : List ℕ) → occurs x (x ∷ xs) ≡ suc (occurs x xs)
front x xs = let e : occurs x (x ∷ xs) ≡ 1 + occurs x xs = cons_occurs x x xs ∙ ap (λ b. cond b 1 0 + occurs x xs) (is_itself x) in omega (arith, e)

lacking : (x y : ℕ) (ys : List ℕ) → IsNonDecreasing (y ∷ ys) → x < y → occurs x (y ∷ ys) ≡ 0
lacking x y ys rising lt = none_below x (y ∷ ys) (λ j within. let above : y ≤ get_or (y ∷ ys) j 0 = rising 0 j 0 (omega arith) within in omega (arith, above, lt))

pub one_list : (xs ys : List ℕ) → IsNonDecreasing xs → IsNonDecreasing ys → ((n : ℕ) → occurs n xs ≡ occurs n ys) → xs ≡ ys
one_list [] [] rising others same = refl
one_list [] (y ∷ ys) rising others same = absurd (let e : 0 ≡ suc (occurs y ys) = same y ∙ front y ys in omega (arith, e))
one_list (x ∷ xs) [] rising others same = absurd (let e : suc (occurs x xs) ≡ 0 = sym (front x xs) ∙ same x in omega (arith, e))
one_list (x ∷ xs) (y ∷ ys) rising others same = elim (cases_order x y) [
  | inl e ↦
      let rest : (n : ℕ) → occurs n xs ≡ occurs n ys = λ n. let both : cond (nat_eq n y) 1 0 + occurs n xs ≡ cond (nat_eq n y) 1 0 + occurs n ys = ap (λ z. cond (nat_eq n z) 1 0 + occurs n xs) (sym e) ∙ sym (cons_occurs n x xs) ∙ same n ∙ cons_occurs n y ys in omega (arith, both) in
      ap (λ z. z ∷ xs) e ∙ ap (λ zs. y ∷ zs) (one_list xs ys (behind x xs rising) (behind y ys others) rest)
  | inr w ↦ elim w [
    | inl lt ↦ absurd (let e : suc (occurs x xs) ≡ 0 = sym (front x xs) ∙ same x ∙ lacking x y ys others lt in omega (arith, e))
    | inr lt ↦ absurd (let e : suc (occurs y ys) ≡ 0 = sym (front y ys) ∙ sym (same y) ∙ lacking y x xs rising lt in omega (arith, e))
  ]
]

-- an order of a list has each number us often
pub same_occurs : (n : ℕ) (xs ys : List ℕ) → IsPermutation xs ys → occurs n ys ≡ occurs n xs
same_occurs n xs ys moved = sum_by-IsPermutation (λ x. cond (nat_eq n x) 1 0) xs ys moved

-- ---- the test of each number of two lists

abbrev pub counts_agree : List ℕ → List ℕ → Bool
counts_agree xs ys = list_all (λ n. nat_eq (occurs n xs) (occurs n ys)) (xs ++ ys)

all_true : (p : ℕ → Bool) (xs : List ℕ) → ((n : ℕ) → p n ≡ true) → list_all p xs ≡ true
all_true p [] each = refl
all_true p (x ∷ xs) each = rw (each x, all_true p xs each) refl

pub both_true : (a b : Bool) → (a && b) ≡ true → (a ≡ true) × (b ≡ true)
both_true true b e = (refl, e)
both_true false b e = absurd (true≢false (sym e))

-- where the test holds of all, a number stands in none of them or passes
elsewhere : (p : ℕ → Bool) (n : ℕ) (xs : List ℕ) → list_all p xs ≡ true → (occurs n xs ≡ 0) ⊎ (p n ≡ true)
elsewhere p n [] all = inl refl
elsewhere p n (x ∷ xs) all =
    let parts = both_true (p x) (list_all p xs) all in
    elim (test (nat_eq n x)) [
      | inl e ↦ inr (ap p ((Decides-eqb n x).0 e) ∙ parts.0)
      | inr e ↦ elim (elsewhere p n xs parts.1) [ inl none ↦ inl (let here : occurs n (x ∷ xs) ≡ 0 + occurs n xs = cons_occurs n x xs ∙ ap (λ b. cond b 1 0 + occurs n xs) e in omega (arith, here, none)) | inr holds ↦ inr holds ]
    ]

parted : (p : ℕ → Bool) (xs ys : List ℕ) → list_all p (xs ++ ys) ≡ true → (list_all p xs ≡ true) × (list_all p ys ≡ true)
parted p [] ys all = (refl, all)
parted p (x ∷ xs) ys all =
    let parts = both_true (p x) (list_all p (xs ++ ys)) all in
    let more = parted p xs ys parts.1 in
    (rw (parts.0, more.0) refl, more.1)

agreeing : (xs ys : List ℕ) → counts_agree xs ys ≡ true → (n : ℕ) → occurs n xs ≡ occurs n ys
agreeing xs ys all n =
    let p : ℕ → Bool = λ n. nat_eq (occurs n xs) (occurs n ys) in
    let parts = parted p xs ys all in
    let so : p n ≡ true → occurs n xs ≡ occurs n ys = λ e. (Decides-eqb (occurs n xs) (occurs n ys)).0 e in
    elim (elsewhere p n xs parts.0) [
      | inr holds ↦ so holds
      | inl none ↦ elim (elsewhere p n ys parts.1) [ inr holds ↦ so holds | inl nowhere ↦ none ∙ sym nowhere ]
    ]

-- so sorted lists are one exactly where the test holds
pub sorted_tell : (xs ys us vs : List ℕ) → IsPermutation xs us → IsPermutation ys vs → IsNonDecreasing us → IsNonDecreasing vs → Decides (counts_agree xs ys) (us ≡ vs)
sorted_tell xs ys us vs moved other_moved rising others = (
  λ e. one_list us vs rising others (λ n. same_occurs n xs us moved ∙ agreeing xs ys e n ∙ sym (same_occurs n ys vs other_moved)),
  λ e. all_true (λ n. nat_eq (occurs n xs) (occurs n ys)) (xs ++ ys) (λ n. (Decides-eqb (occurs n xs) (occurs n ys)).1 (sym (same_occurs n xs us moved) ∙ ap (occurs n) e ∙ same_occurs n ys vs other_moved)),
)
