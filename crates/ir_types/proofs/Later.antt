-- What one form reads at once, another reads in two steps: first something that is known less, and then the rest of it.
use Rattle.std.proofs.Common.{◌≡◌, ℕ, zero, suc, ◌==◌, Bool, true, false, cond, List, [], ◌∷◌, length, Option, Some, None, refl, sym, ap, ◌∙◌}
use Rattle.text_forms.specs.declared.TokenKind.TheVariants.{Word}
use Rattle.text_forms.specs.Form.{kind_code, Lexeme, Form, entry, pair, mapped, by_word}
use Rattle.text_forms.specs.Reading.{◌>>=◌, read, read_each, read_whole}
use Rattle.text_forms.specs.Walk.{completed}

-- What the one form reads is what the other reads, completed.
abbrev pub Later : {A B : Type 0} → Form A → Form B → (B → Option A) → Type 0
Later f g complete = (ts : List Lexeme) → read f ts ≡ completed complete (read g ts)

-- a value, with the tokens that are left
abbrev leaving : {A R : Type 0} → R → A → Option (A × R)
leaving us a = Some (a, us)

-- ---- a form behind another

-- a value behind another
abbrev beside : {A C : Type 0} → C → A → Option (C × A)
beside c a = Some (c, a)

-- the same, with the tokens that are left
abbrev beside_left : {A C : Type 0} → C → A × List Lexeme → Option ((C × A) × List Lexeme)
beside_left c y = Some ((c, y.0), y.1)

-- of two values the second is completed
abbrev pub second : {A B C : Type 0} → (B → Option A) → C × B → Option (C × A)
second complete x = complete x.1 >>= beside x.0

-- A form behind another may be read in two steps where it may be alone.
pub pair_later : {A B C : Type 0} (f : Form C) (g : Form A) (h : Form B) (complete : B → Option A) → Later g h complete → Later (pair f g) (pair f h) (second complete)
pair_later {A} {B} {C} f g h complete later ts = by (read f ts)
  where
    left_last : (c : C) (o : Option A) (us : List Lexeme) → ((o >>= leaving us) >>= beside_left c) ≡ ((o >>= beside c) >>= leaving us)
    left_last c None us = refl
    left_last c (Some a) us = refl

    then : (c : C) (r : Option (B × List Lexeme)) → (completed complete r >>= beside_left c) ≡ completed (second complete) (r >>= beside_left c)
    then c None = refl
    then c (Some y) = left_last c (complete y.0) y.1

    by : (r : Option (C × List Lexeme)) → (r >>= λ x. read g x.1 >>= beside_left x.0) ≡ completed (second complete) (r >>= λ x. read h x.1 >>= beside_left x.0)
    by None = refl
    by (Some x) = ap (λ (q : Option (A × List Lexeme)). q >>= beside_left x.0) (later x.1) ∙ then x.0 (read h x.1)

-- ---- a form before another

abbrev no_value : {A : Type 0} → Option A
no_value = None

nothing_then : {A B : Type 0} (o : Option A) → (o >>= λ _. no_value {A = B}) ≡ no_value {A = B}
nothing_then None = refl
nothing_then (Some a) = refl

-- of two values the first is completed
abbrev before : {A C : Type 0} → C → A → Option (A × C)
before c a = Some (a, c)

-- of two values the first is completed
abbrev pub first : {A B C : Type 0} → (B → Option A) → B × C → Option (A × C)
first complete x = complete x.0 >>= before x.1

-- So may a form before another.
pub pair_sooner : {A B C : Type 0} (f : Form A) (g : Form B) (h : Form C) (complete : B → Option A) → Later f g complete → Later (pair f h) (pair g h) (first complete)
pair_sooner {A} {B} {C} f g h complete later ts = ap (λ (q : Option (A × List Lexeme)). q >>= λ x. read h x.1 >>= beside_left x.0) (later ts) ∙ by (read g ts)
  where
    with_first : (o : Option A) (y : C × List Lexeme) → (o >>= λ a. beside_left a y) ≡ ((o >>= before y.0) >>= leaving y.1)
    with_first None y = refl
    with_first (Some a) y = refl

    then : (b : B) (o : Option A) (r : Option (C × List Lexeme)) → complete b ≡ o → (o >>= λ a. r >>= beside_left a) ≡ completed (first complete) (r >>= beside_left b)
    then b o None e = nothing_then o
    then b o (Some y) e = rw e (with_first o y)

    through : (o : Option A) (us : List Lexeme) → ((o >>= leaving us) >>= λ x. read h x.1 >>= beside_left x.0) ≡ (o >>= λ a. read h us >>= beside_left a)
    through None us = refl
    through (Some a) us = refl

    by : (r : Option (B × List Lexeme)) → (completed complete r >>= λ x. read h x.1 >>= beside_left x.0) ≡ completed (first complete) (r >>= λ x. read h x.1 >>= beside_left x.0)
    by None = refl
    by (Some x) = through (complete x.0) x.1 ∙ then x.0 (complete x.0) (read h x.1) refl

-- both are completed
abbrev pub both : {A B C D : Type 0} → (B → Option A) → (D → Option C) → B × D → Option (A × C)
both complete_one complete_other x = complete_one x.0 >>= λ a. complete_other x.1 >>= λ c. Some (a, c)

same_completed : {A B R : Type 0} (one other : B → Option A) (r : Option (B × R)) → ((b : B) → one b ≡ other b) → completed one r ≡ completed other r
same_completed one other None h = refl
same_completed one other (Some x) h = ap (λ (o : Option _). o >>= leaving x.1) (h x.0)

-- the one completed after the other
completed_twice : {A B C R : Type 0} (one : B → Option A) (other : C → Option B) (r : Option (C × R)) → completed one (completed other r) ≡ completed (λ c. other c >>= one) r
completed_twice one other None = refl
completed_twice {A} {B} {C} {R} one other (Some x) = by (other x.0)
  where
    by : (o : Option B) → completed one (o >>= leaving x.1) ≡ ((o >>= one) >>= leaving x.1)
    by None = refl
    by (Some b) = refl

-- Two forms may both be read in two steps, one behind the other.
pub both_later : {A B C D : Type 0} (f : Form A) (g : Form B) (h : Form C) (k : Form D) (complete_one : B → Option A) (complete_other : D → Option C) → Later f g complete_one → Later h k complete_other → Later (pair f h) (pair g k) (both complete_one complete_other)
both_later {A} {B} {C} {D} f g h k complete_one complete_other one other ts =
    pair_sooner f g h complete_one one ts
    ∙ ap (completed (first complete_one)) (pair_later g h k complete_other other ts)
    ∙ completed_twice (first complete_one) (second complete_other) (read (pair g k) ts)
    ∙ same_completed (λ x. second complete_other x >>= first complete_one) (both complete_one complete_other) (read (pair g k) ts) (λ x. by x (complete_other x.1))
  where
    by : (x : B × D) (p : Option C) → ((p >>= beside x.0) >>= first complete_one) ≡ (complete_one x.0 >>= λ a. p >>= λ c. Some (a, c))
    by x None = sym (nothing_then (complete_one x.0))
    by x (Some c) = refl

-- ---- what functions make of it

-- what a function makes of a value
abbrev pub into : {A C : Type 0} → (A → C) → A → Option C
into make a = Some (make a)

-- the same, with the tokens that are left
abbrev into_left : {A C : Type 0} → (A → C) → A × List Lexeme → Option (C × List Lexeme)
into_left make x = Some (make x.0, x.1)

-- What a function makes of a form may be read in two steps where its values are completed alike.
pub mapped_later : {A B C D : Type 0} (f : Form A) (g : Form B) (complete : B → Option A) (make : A → C) (make_less : B → D) (complete_made : D → Option C)
    → Later f g complete → ((b : B) → complete_made (make_less b) ≡ (complete b >>= into make)) → Later (mapped make f) (mapped make_less g) complete_made
mapped_later {A} {B} {C} {D} f g complete make make_less complete_made later same ts = ap (λ (q : Option (A × List Lexeme)). q >>= into_left make) (later ts) ∙ by (read g ts)
  where
    left_last : (o : Option A) (us : List Lexeme) → ((o >>= leaving us) >>= into_left make) ≡ ((o >>= into make) >>= leaving us)
    left_last None us = refl
    left_last (Some a) us = refl

    by : (r : Option (B × List Lexeme)) → (completed complete r >>= into_left make) ≡ completed complete_made (r >>= into_left make_less)
    by None = refl
    by (Some y) = rw (same y.0) (left_last (complete y.0) y.1)

-- what is read is all of it
abbrev pub all_of : {A : Type 0} → A → Option A
all_of a = Some a

-- A form is itself, with nothing left to be completed.
pub nothing_left : {A : Type 0} (f : Form A) → Later f f all_of
nothing_left {A} f ts = by (read f ts)
  where
    by : (r : Option (A × List Lexeme)) → r ≡ completed all_of r
    by None = refl
    by (Some x) = refl

-- where nothing is left to be completed
pub at_once : {A B : Type 0} (f : Form A) (make_less : A → B) (complete : B → Option A) → ((a : A) → complete (make_less a) ≡ Some a) → Later f (mapped make_less f) complete
at_once {A} {B} f make_less complete same ts = by (read f ts)
  where
    by : (r : Option (A × List Lexeme)) → r ≡ completed complete (r >>= into_left make_less)
    by None = refl
    by (Some x) = rw (same x.0) refl

-- ---- behind a word

-- Behind a word: where each form of the table may be read in two steps.
pub word_later : {K A B : Type 0} (table : List (List ℕ × K)) (f : K → Form A) (g : K → Form B) (complete : B → Option A) → ((k : K) → Later (f k) (g k) complete) → Later (by_word table f) (by_word table g) complete
word_later table f g complete later [] = refl
word_later {K} {A} {B} table f g complete later (t ∷ ts) = by (kind_code t.kind == kind_code Word) (entry table t.text)
  where
    by : (b : Bool) (o : Option K) → cond b (o >>= λ k. read (f k) ts) None ≡ completed complete (cond b (o >>= λ k. read (g k) ts) None)
    by false o = refl
    by true None = refl
    by true (Some k) = later k ts

-- ---- value after value

-- each of a list is completed
abbrev pub each : {A B : Type 0} → (B → Option A) → List B → Option (List A)
each complete [] = Some []
each complete (b ∷ bs) = complete b >>= λ a. each complete bs >>= λ more. Some (a ∷ more)

-- a value before others, with the tokens that are left
abbrev before_left : {A : Type 0} → A → List A × List Lexeme → Option (List A × List Lexeme)
before_left a y = Some (a ∷ y.0, y.1)

abbrev then_more : {A : Type 0} → (List Lexeme → Option (List A × List Lexeme)) → A × List Lexeme → Option (List A × List Lexeme)
then_more more x = more x.1 >>= before_left x.0

abbrev no_list : {A : Type 0} → Option (List A × List Lexeme)
no_list = None

-- one is completed, and those behind it are
one_before : {A B : Type 0} (complete : B → Option A) (b : B) (r : Option (List B × List Lexeme)) → (complete b >>= λ a. completed (each complete) r >>= before_left a) ≡ completed (each complete) (r >>= before_left b)
one_before {A} {B} complete b None = by (complete b)
  where
    by : (o : Option A) → (o >>= λ a. no_list {A = A}) ≡ no_list
    by None = refl
    by (Some a) = refl
one_before {A} {B} complete b (Some y) = by (complete b)
  where
    left_last : (a : A) (o : Option (List A)) → ((o >>= leaving y.1) >>= before_left a) ≡ ((o >>= λ more. Some (a ∷ more)) >>= leaving y.1)
    left_last a None = refl
    left_last a (Some more) = refl

    by : (o : Option A) → (o >>= λ a. (each complete y.0 >>= leaving y.1) >>= before_left a) ≡ ((o >>= λ a. each complete y.0 >>= λ more. Some (a ∷ more)) >>= leaving y.1)
    by None = refl
    by (Some a) = left_last a (each complete y.0)

-- Value after value: where each may be read in two steps.
pub each_later : {A B : Type 0} (p : List Lexeme → Bool) (f : Form A) (g : Form B) (complete : B → Option A) → Later f g complete → (n : ℕ) (ts : List Lexeme) → read_each p (read f) n ts ≡ completed (each complete) (read_each p (read g) n ts)
each_later p f g complete later zero ts = refl
each_later {A} {B} p f g complete later (suc n) ts = by (p ts) (read g ts) (later ts) (each_later p f g complete later n)
  where
    through : (o : Option A) (us : List Lexeme) → ((o >>= leaving us) >>= then_more (read_each p (read f) n)) ≡ (o >>= λ a. read_each p (read f) n us >>= before_left a)
    through None us = refl
    through (Some a) us = refl

    by : (c : Bool) (r : Option (B × List Lexeme)) → read f ts ≡ completed complete r → ((us : List Lexeme) → read_each p (read f) n us ≡ completed (each complete) (read_each p (read g) n us))
        → cond c (read f ts >>= then_more (read_each p (read f) n)) (Some ([], ts)) ≡ completed (each complete) (cond c (r >>= then_more (read_each p (read g) n)) (Some ([], ts)))
    by false r e behind = refl
    by true None e behind = rw e refl
    by true (Some x) e behind = rw e (through (complete x.0) x.1 ∙ rw (behind x.1) (one_before complete x.0 (read_each p (read g) n x.1)))

-- ---- all of the tokens

abbrev if_none_left : {A : Type 0} → A × List Lexeme → Option A
if_none_left x = cond (length x.1 == 0) (Some x.0) None

-- All tokens are read in two steps where a front of them is.
pub whole_later : {A B : Type 0} (f : Form A) (g : Form B) (complete : B → Option A) → Later f g complete → (ts : List Lexeme) → read_whole f ts ≡ (read_whole g ts >>= complete)
whole_later {A} {B} f g complete later ts = ap (λ (q : Option (A × List Lexeme)). q >>= if_none_left) (later ts) ∙ by (read g ts)
  where
    chosen : (b : B) (o : Option A) (us : List Lexeme) (c : Bool) → complete b ≡ o → (length us == 0) ≡ c → ((o >>= leaving us) >>= if_none_left) ≡ (cond c (Some b) None >>= complete)
    chosen b None us true d e = rw d refl
    chosen b None us false d e = refl
    chosen b (Some a) us true d e = rw (d, e) refl
    chosen b (Some a) us false d e = rw e refl

    by : (r : Option (B × List Lexeme)) → (completed complete r >>= if_none_left) ≡ ((r >>= if_none_left) >>= complete)
    by None = refl
    by (Some y) = chosen y.0 (complete y.0) y.1 (length y.1 == 0) refl refl
