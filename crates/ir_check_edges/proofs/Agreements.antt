-- Entries in the order of their labels agree, each with the one before it, exactly where those of each label do.
use Rattle.std.proofs.Common.{◌≡◌, ℕ, zero, suc, ◌+◌, ◌<◌, ◌≤◌, ◌⊎◌, Bool, true, cond, if◌then◌else◌, nat_eq, inl, inr, List, [], ◌∷◌, length, map, zip, drop, ◌++◌, get_or, Contains, subst, refl, sym, ap, ◌∙◌, arith}
use Rattle.std.specs.Bool.{Decides}
use Rattle.std.specs.List.{AllByRecursion, list_all}
use Rattle.std.specs.List.Sorted.{IsPermutation, IsNonDecreasingBy}
use Rattle.std.proofs.lemmas.List.Sorted.{Contains-permutation, IsPermutation-sym, IsPermutation-map}
use Rattle.std.proofs.lemmas.List.{append-nil, length-map}
use Rattle.std.proofs.lemmas.Bool.Decides.{Decides-eqb, same_from_decides}
use Rattle.text_forms.proofs.Begins.{test}
use Rattle.ir_types.specs.declared.name.Name.{Name}
use Rattle.ir_types.specs.declared.name.ValueId.{ValueId}
use Rattle.ir_types.specs.declared.inst.Operand.{Operand}
use Rattle.ir_types.specs.Names.{IsTable, name_at, same_name}
use Rattle.ir_types.specs.Tree.{OperandTree}
use Rattle.ir_types.specs.Denotes.{Tables, name_in, operand_in}
use Rattle.ir_rules.specs.Edges.{same_operand, entries_agree}
use Rattle.ir_check_edges.specs.declared.entries.Entry.{Entry}
use Rattle.ir_check_edges.specs.Agreeing.{pair_of, AreEntries, seen_in, agree_behind, runs_agree}
use Rattle.ir_graph.proofs.Tables.{same_place}
use Rattle.ir_check_edges.proofs.Sorted.{both_true}
use Rattle.ir_check_edges.proofs.Equals.{equal_operands, same_backwards, same_itself}

abbrev Pair : Type 0
Pair = OperandTree × ℕ

-- whether two entries agree
abbrev agree : Pair → Pair → Bool
agree x y = if nat_eq x.1 y.1 then same_operand x.0 y.0 else true

-- any two of a list do
abbrev pub Agreed : List Pair → Type 0
Agreed xs = (x y : Pair) → Contains xs x → Contains xs y → agree x y ≡ true

-- ---- what a list contains

at_front : (x : Pair) (xs : List Pair) → Contains (x ∷ xs) x
at_front x xs = (0, omega arith, refl)

behind : (x y : Pair) (xs : List Pair) → Contains xs x → Contains (y ∷ xs) x
behind x y xs c = (suc c.0, omega (arith, c.1), c.2)

-- an element of a list is its first, or one of the others
parted : (x y : Pair) (xs : List Pair) → Contains (y ∷ xs) x → (y ≡ x) ⊎ Contains xs x
parted x y xs c = at c.0 c.1 c.2 where
  at : (k : ℕ) → k < length (y ∷ xs) → get_or (y ∷ xs) k x ≡ x → (y ≡ x) ⊎ Contains xs x
  at zero lt e = inl e
  at (suc k) lt e = inr (k, omega (arith, lt), e)

-- ---- a test of all

all_holds : (p : Pair → Bool) (xs : List Pair) → list_all p xs ≡ true → (x : Pair) → Contains xs x → p x ≡ true
all_holds p [] e x c = absurd (omega (arith, c.1))
all_holds p (y ∷ ys) e x c =
    let parts = both_true (p y) (list_all p ys) e in
    elim (parted x y ys c) [ inl is ↦ ap p (sym is) ∙ parts.0 | inr h ↦ all_holds p ys parts.1 x h ]

holds_all : (p : Pair → Bool) (xs : List Pair) → ((x : Pair) → Contains xs x → p x ≡ true) → list_all p xs ≡ true
holds_all p [] each = refl
holds_all p (y ∷ ys) each = rw (each y (at_front y ys), holds_all p ys (λ x c. each x (behind x y ys c))) refl

abbrev all_agree : List Pair → Bool
all_agree xs = list_all (λ x. list_all (agree x) xs) xs

all_agree-Decides : (xs : List Pair) → Decides (all_agree xs) (Agreed xs)
all_agree-Decides xs = (
  λ e x y here there. all_holds (agree x) xs (all_holds (λ x. list_all (agree x) xs) xs e x here) y there,
  λ h. holds_all (λ x. list_all (agree x) xs) xs (λ x here. holds_all (agree x) xs (λ y there. h x y here there)),
)

-- ---- lists that ascend

abbrev pub Ascends : List Pair → Type 0
Ascends [] = Unit {0}
Ascends (x ∷ xs) = ((y : Pair) → Contains xs y → x.1 ≤ y.1) × Ascends xs

pub ascends : (xs : List Pair) → IsNonDecreasingBy (λ (x : Pair). x.1) xs → Ascends xs
ascends [] rising = tt
ascends (x ∷ xs) rising = (λ y c. subst (λ (z : Pair). x.1 ≤ z.1) c.2 (rising 0 (suc c.0) y (omega arith) (omega (arith, c.1))), ascends xs (λ i j d le lt. rising (suc i) (suc j) d (omega (arith, le)) (omega (arith, lt))))

-- entries of one label are equal
agree_one : (x y : Pair) → agree x y ≡ true → x.1 ≡ y.1 → same_operand x.0 y.0 ≡ true
agree_one x y e is = sym (ap (λ b. cond b (same_operand x.0 y.0) true) ((Decides-eqb x.1 y.1).1 is)) ∙ e

agree_same : (x y : Pair) → (x.1 ≡ y.1 → same_operand x.0 y.0 ≡ true) → agree x y ≡ true
agree_same x y h = elim (test (nat_eq x.1 y.1)) [
  | inl e ↦ ap (λ b. cond b (same_operand x.0 y.0) true) e ∙ h ((Decides-eqb x.1 y.1).0 e)
  | inr e ↦ ap (λ b. cond b (same_operand x.0 y.0) true) e
]

-- the test of two neighbours
abbrev step : Pair → Pair → Bool
step x y = if nat_eq x.1 y.1 then same_operand x.0 y.0 else same_operand y.0 y.0

step_itself : (x y : Pair) → step x y ≡ true → same_operand y.0 y.0 ≡ true
step_itself x y e = elim (test (nat_eq x.1 y.1)) [
  | inl is ↦ same_itself x.0 y.0 (sym (ap (λ b. cond b (same_operand x.0 y.0) (same_operand y.0 y.0)) is) ∙ e)
  | inr other ↦ sym (ap (λ b. cond b (same_operand x.0 y.0) (same_operand y.0 y.0)) other) ∙ e
]

step_one : (x y : Pair) → step x y ≡ true → x.1 ≡ y.1 → same_operand x.0 y.0 ≡ true
step_one x y e is = sym (ap (λ b. cond b (same_operand x.0 y.0) (same_operand y.0 y.0)) ((Decides-eqb x.1 y.1).1 is)) ∙ e

-- the first and any later one of its label
reaches : (x y z : Pair) (ys : List Pair) → Ascends (x ∷ (y ∷ ys)) → step x y ≡ true → Agreed (y ∷ ys) → Contains (y ∷ ys) z → x.1 ≡ z.1 → same_operand x.0 z.0 ≡ true
reaches x y z ys up e rest c is =
    let low : x.1 ≤ y.1 = up.0 y (at_front y ys) in
    let high : y.1 ≤ z.1 = elim (parted z y ys c) [ inl same ↦ subst (λ (w : Pair). y.1 ≤ w.1) same (omega arith) | inr h ↦ up.1.0 z h ] in
    let one : x.1 ≡ y.1 = omega (arith, low, high, is) in
    let equal = equal_operands x.0 y.0 (step_one x y e one) in
    let more = agree_one y z (rest y z (at_front y ys) c) (sym one ∙ is) in
    subst (λ w. same_operand w z.0 ≡ true) (sym equal) more

runs_sound : (x : Pair) (ys : List Pair) → Ascends (x ∷ ys) → same_operand x.0 x.0 ≡ true → agree_behind x ys ≡ true → Agreed (x ∷ ys)
runs_sound x [] up own e = λ a b here there.
    elim (parted a x [] here) [ inr h ↦ absurd (omega (arith, h.1)) | inl is ↦ elim (parted b x [] there) [ inr h ↦ absurd (omega (arith, h.1)) | inl also ↦ subst (λ v. agree a v ≡ true) also (subst (λ v. agree v x ≡ true) is (agree_same x x (λ s. own))) ] ]
runs_sound x (y ∷ ys) up own e =
    let parts = both_true (step x y) (agree_behind y ys) e in
    let rest : Agreed (y ∷ ys) = runs_sound y ys up.1 (step_itself x y parts.0) parts.1 in
    λ a b here there.
    elim (parted a x (y ∷ ys) here) [
      | inl is ↦ elim (parted b x (y ∷ ys) there) [
        | inl also ↦ subst (λ v. agree a v ≡ true) also (subst (λ v. agree v x ≡ true) is (agree_same x x (λ s. own)))
        | inr h ↦ subst (λ v. agree v b ≡ true) is (agree_same x b (λ s. reaches x y b ys up parts.0 rest h s))
      ]
      | inr g ↦ elim (parted b x (y ∷ ys) there) [
        | inl also ↦ subst (λ v. agree a v ≡ true) also (agree_same a x (λ s. same_backwards x.0 a.0 (reaches x y a ys up parts.0 rest g (sym s))))
        | inr h ↦ rest a b g h
      ]
    ]

own_agrees : (xs : List Pair) → Agreed xs → (x : Pair) → Contains xs x → same_operand x.0 x.0 ≡ true
own_agrees xs h x c = agree_one x x (h x x c c) refl

shorter : (x : Pair) (xs : List Pair) → Agreed (x ∷ xs) → Agreed xs
shorter x xs h = λ a b here there. h a b (behind a x xs here) (behind b x xs there)

runs_behind : (x : Pair) (ys : List Pair) → Agreed (x ∷ ys) → agree_behind x ys ≡ true
runs_behind x [] h = refl
runs_behind x (y ∷ ys) h =
    let here = at_front x (y ∷ ys) in
    let there = behind y x (y ∷ ys) (at_front y ys) in
    let one : step x y ≡ true = elim (test (nat_eq x.1 y.1)) [
      | inl e ↦ ap (λ b. cond b (same_operand x.0 y.0) (same_operand y.0 y.0)) e ∙ agree_one x y (h x y here there) ((Decides-eqb x.1 y.1).0 e)
      | inr e ↦ ap (λ b. cond b (same_operand x.0 y.0) (same_operand y.0 y.0)) e ∙ agree_one y y (h y y there there) refl
    ] in
    rw (one, runs_behind y ys (shorter x (y ∷ ys) h)) refl

pub runs_agree-Decides : (xs : List Pair) → Ascends xs → Decides (runs_agree xs) (Agreed xs)
runs_agree-Decides [] up = (λ e x y here there. absurd (omega (arith, here.1)), λ h. refl)
runs_agree-Decides (x ∷ xs) up = (
  λ e. let parts = both_true (same_operand x.0 x.0) (agree_behind x xs) e in runs_sound x xs up parts.0 parts.1,
  λ h. rw (own_agrees (x ∷ xs) h x (at_front x xs), runs_behind x xs h) refl,
)

-- ---- another order, and names in place of places

agreed_also : (xs ys : List Pair) → IsPermutation xs ys → Agreed ys → Agreed xs
agreed_also xs ys moved h = λ a b here there. h a b (Contains-permutation xs ys a moved here) (Contains-permutation xs ys b moved there)

sorted_agree : (xs ys : List Pair) → IsPermutation xs ys → Ascends ys → runs_agree ys ≡ all_agree xs
sorted_agree xs ys moved up = same_from_decides (runs_agree ys) (all_agree xs) (
  λ e. agreed_also xs ys moved ((runs_agree-Decides ys up).0 e),
  λ h. (runs_agree-Decides ys up).1 (agreed_also ys xs (IsPermutation-sym xs ys moved) h),
) (all_agree-Decides xs)

abbrev named : List Name → Pair → OperandTree × Name
named ns x = (x.0, name_at ns x.1)

abbrev agree_named : OperandTree × Name → OperandTree × Name → Bool
agree_named x y = if same_name x.1 y.1 then same_operand x.0 y.0 else true

abbrev Within : List Name → List Pair → Type 0
Within ns xs = AllByRecursion (λ (x : Pair). x.1 < length ns) xs

named_one : (ns : List Name) → IsTable ns → (x : Pair) → x.1 < length ns → (ys : List Pair) → Within ns ys → list_all (agree x) ys ≡ list_all (agree_named (named ns x)) (map (named ns) ys)
named_one ns table x here [] within = refl
named_one ns table x here (y ∷ ys) within = rw (same_place ns table x.1 y.1 here within.0, named_one ns table x here ys within.1) refl

named_each : (ns : List Name) → IsTable ns → (xs ys : List Pair) → Within ns xs → Within ns ys → list_all (λ x. list_all (agree x) ys) xs ≡ list_all (λ x. list_all (agree_named x) (map (named ns) ys)) (map (named ns) xs)
named_each ns table [] ys within others = refl
named_each ns table (x ∷ xs) ys within others = rw (named_one ns table x within.0 ys others, named_each ns table xs ys within.1 others) refl

pub told : (ns : List Name) → IsTable ns → (xs ys : List Pair) → Within ns xs → IsPermutation xs ys → Ascends ys → runs_agree ys ≡ entries_agree (map (named ns) xs)
told ns table xs ys within moved up = sorted_agree xs ys moved up ∙ named_each ns table xs xs within within

-- ---- entries, as they are listed

abbrev places : List ValueId → List ℕ
places ls = map (λ (l : ValueId). l.0) ls

-- the entries at a place and behind it
abbrev pub listed : List Operand → List ValueId → ℕ → List (Operand × ℕ)
listed args labels k = zip (drop k args) (places (drop k labels))

listed_next : (args : List Operand) (labels : List ValueId) (k : ℕ) (a : Operand) (l : ValueId) → k < length args → k < length labels → listed args labels k ≡ (get_or args k a, (get_or labels k l).0) ∷ listed args labels (k + 1)
listed_next [] labels k a l lt also = absurd (omega (arith, lt))
listed_next (x ∷ xs) [] k a l lt also = absurd (omega (arith, also))
listed_next (x ∷ xs) (y ∷ ys) zero a l lt also = refl
listed_next (x ∷ xs) (y ∷ ys) (suc k) a l lt also =
    let next : suc k + 1 ≡ suc (k + 1) = omega arith in
    listed_next xs ys k a l (omega (arith, lt)) (omega (arith, also)) ∙ ap (λ j. (get_or xs k a, (get_or ys k l).0) ∷ listed (x ∷ xs) (y ∷ ys) j) (sym next)

listed_end : (args : List Operand) (labels : List ValueId) (k : ℕ) → (length args ≤ k) ⊎ (length labels ≤ k) → listed args labels k ≡ []
listed_end [] labels zero done = refl
listed_end [] labels (suc k) done = refl
listed_end (x ∷ xs) [] zero done = refl
listed_end (x ∷ xs) (y ∷ ys) zero done = absurd (elim done [ inl e ↦ omega (arith, e) | inr e ↦ omega (arith, e) ])
listed_end (x ∷ xs) [] (suc k) done = by (drop k xs) where
  by : (zs : List Operand) → zip zs (places (drop (suc k) [])) ≡ []
  by [] = refl
  by (z ∷ zs) = refl
listed_end (x ∷ xs) (y ∷ ys) (suc k) done = listed_end xs ys k (elim done [ inl e ↦ inl (omega (arith, e)) | inr e ↦ inr (omega (arith, e)) ])

pairs_both : (xs : List Entry) (y : Entry) (more : List (Operand × ℕ)) → map pair_of (xs ++ y ∷ []) ++ more ≡ map pair_of xs ++ pair_of y ∷ more
pairs_both [] y more = refl
pairs_both (x ∷ xs) y more = ap (λ zs. pair_of x ∷ zs) (pairs_both xs y more)

pub entries_rest : (args : List Operand) (labels : List ValueId) (es : List Entry) (e : Entry) (k : ℕ) (l : ValueId) (whole : List (Operand × ℕ)) → map pair_of es ++ listed args labels k ≡ whole → k < length args → k < length labels → e.arg.now ≡ get_or args k e.arg.now → e.label ≡ (get_or labels k l).0
    → map pair_of (es ++ e ∷ []) ++ listed args labels (k + 1) ≡ whole
entries_rest args labels es e k l whole h lt also arg label =
    pairs_both es e (listed args labels (k + 1))
    ∙ ap (λ (x : Operand × ℕ). map pair_of es ++ x ∷ listed args labels (k + 1)) (pair arg label)
    ∙ ap (λ xs. map pair_of es ++ xs) (sym (listed_next args labels k e.arg.now l lt also)) ∙ h
  where
    both : Operand → ℕ → Operand × ℕ
    both a n = (a, n)

    pair : {a b : Operand} {m n : ℕ} → a ≡ b → m ≡ n → both a m ≡ both b n
    pair {a} {b} {m} {n} p q = ap (λ x. both x m) p ∙ ap (both b) q

pub entries_within : (n : ℕ) (es : List Entry) (e : Entry) → AllByRecursion (λ (e : Entry). e.label < n) es → e.label < n → AllByRecursion (λ (e : Entry). e.label < n) (es ++ e ∷ [])
entries_within n [] e all one = (one, tt)
entries_within n (x ∷ xs) e all one = (all.0, entries_within n xs e all.1 one)

pub entries_end : (args : List Operand) (labels : List ValueId) (es : List Entry) (k : ℕ) → (length args ≤ k) ⊎ (length labels ≤ k) → map pair_of es ++ listed args labels k ≡ zip args (places labels) → map pair_of es ≡ zip args (places labels)
entries_end args labels es k done h = sym (append-nil (map pair_of es)) ∙ ap (λ xs. map pair_of es ++ xs) (sym (listed_end args labels k done)) ∙ h

-- ---- what the entries of a phi tell

at_map : {A : Type 0} (h : A → Pair) (xs : List A) (k : ℕ) (d : A) (y : Pair) → k < length xs → get_or (map h xs) k y ≡ h (get_or xs k d)
at_map h [] k d y lt = absurd (omega (arith, lt))
at_map h (x ∷ xs) zero d y lt = refl
at_map h (x ∷ xs) (suc k) d y lt = at_map h xs k d y (omega (arith, lt))

ascends_by : {A : Type 0} (h : A → Pair) (xs : List A) → IsNonDecreasingBy (λ (a : A). (h a).1) xs → Ascends (map h xs)
ascends_by h [] rising = tt
ascends_by h (x ∷ xs) rising = (
  λ y c. let lt : c.0 < length xs = subst (λ n. c.0 < n) (length-map xs h) c.1 in
      subst (λ (z : Pair). (h x).1 ≤ z.1) (sym (at_map h xs c.0 x y lt) ∙ c.2) (rising 0 (suc c.0) x (omega arith) (omega (arith, lt))),
  ascends_by h xs (λ i j d le lt. rising (suc i) (suc j) d (omega (arith, le)) (omega (arith, lt))),
)

seen_within : (t : Tables) (ns : List Name) (es : List Entry) → AllByRecursion (λ (e : Entry). e.label < length ns) es → Within ns (map (seen_in t ns) es)
seen_within t ns [] all = tt
seen_within t ns (e ∷ es) all = (all.0, seen_within t ns es all.1)

seen_named : (t : Tables) (ns : List Name) (es : List Entry) → map (named ns) (map (seen_in t ns) es) ≡ map (λ (p : Operand × ℕ). (operand_in t ns p.0, name_at ns p.1)) (map pair_of es)
seen_named t ns [] = refl
seen_named t ns (e ∷ es) = ap (λ xs. (operand_in t ns e.arg.now, name_at ns e.label) ∷ xs) (seen_named t ns es)

zip_named : (t : Tables) (ns : List Name) (args : List Operand) (labels : List ValueId) → map (λ (p : Operand × ℕ). (operand_in t ns p.0, name_at ns p.1)) (zip args (places labels)) ≡ zip (map (operand_in t ns) args) (map (name_in ns) labels)
zip_named t ns [] labels = refl
zip_named t ns (a ∷ rest) [] = refl
zip_named t ns (a ∷ rest) (l ∷ ls) = ap (λ xs. (operand_in t ns a, name_in ns l) ∷ xs) (zip_named t ns rest ls)

pub entries_told : (t : Tables) (ns : List Name) (args : List Operand) (labels : List ValueId) (es sorted : List Entry) → IsTable ns → AreEntries ns args labels es → IsPermutation es sorted → IsNonDecreasingBy (λ (e : Entry). e.label) sorted → runs_agree (map (seen_in t ns) sorted) ≡ entries_agree (zip (map (operand_in t ns) args) (map (name_in ns) labels))
entries_told t ns args labels es sorted table are moved rising =
    told ns table (map (seen_in t ns) es) (map (seen_in t ns) sorted) (seen_within t ns es are.within) (IsPermutation-map (seen_in t ns) es sorted moved) (ascends_by (seen_in t ns) sorted rising)
    ∙ ap entries_agree (seen_named t ns es ∙ ap (map (λ (p : Operand × ℕ). (operand_in t ns p.0, name_at ns p.1))) are.are ∙ zip_named t ns args labels)
