-- Elements that are read into two lists.
use Rattle.std.proofs.Common.{◌≡◌, true, false, List, [], ◌∷◌, ◌++◌, Option, Some, None, refl, sym, ap, ◌∙◌, append_assoc}
use Rattle.std.proofs.lemmas.List.{append-nil}
use Rattle.text_forms.specs.Form.{Lexeme, Form, mapped, pair, many}
use Rattle.text_forms.specs.Reading.{◌>>=◌, nullable, opens, read}
use Rattle.text_forms.specs.Walk.{completed}
use Rattle.text_forms.proofs.Many.{many_step, many_done}
use Rattle.text_forms.proofs.Walks.{completed_some}
use Rattle.ir_reader_values.specs.Split.{as_two}
use Rattle.ir_reader_values.specs.Split.{split_each, gathered, put_behind, behind_both}

-- ---- what a loop keeps

abbrev Both : Type 0 → Type 0 → Type 0
Both B C = Option ((List B × List C) × List Lexeme)

abbrev first_before : {A : Type 0} → A → Option (List A × List Lexeme) → Option (List A × List Lexeme)
first_before a r = r >>= λ y. Some (a ∷ y.0, y.1)

abbrev then_more : {A : Type 0} → Form A → Option (A × List Lexeme) → Option (List A × List Lexeme)
then_more f r = r >>= λ x. first_before x.0 (read (many f) x.1)

-- what is made of all is made of one and those behind it
abbrev Goes : {B C D : Type 0} → (List B × List C → D) → (List B × List C → D) → B → C → Type 0
Goes {B} {C} f g b c = (q : List B × List C) → f (b ∷ q.0, c ∷ q.1) ≡ g q

regroup : {A B C D : Type 0} (step : A → Option (B × C)) (f g : List B × List C → D) (a : A) (b : B) (c : C) (r : Option (List A × List Lexeme)) → step a ≡ Some (b, c) → Goes f g b c
    → gathered f (completed (split_each step) (first_before a r)) ≡ gathered g (completed (split_each step) r)
regroup step f g a b c None e h = refl
regroup {A} {B} {C} {D} step f g a b c (Some x) e h = rw e (by (split_each step x.0))
  where
    by : (o : Option (List B × List C)) → gathered f ((o >>= λ q. Some (b ∷ q.0, c ∷ q.1)) >>= λ v. Some (v, x.1)) ≡ gathered g (o >>= λ v. Some (v, x.1))
    by None = refl
    by (Some q) = ap (λ (d : D). Some (d, x.1)) (h q)

-- one element more
pub goes_gathered : {A B C D : Type 0} (k : Form A) (step : A → Option (B × C)) (f g : List B × List C → D) (b : B) (c : C) (ts us : List Lexeme) (whole : Option (D × List Lexeme)) → nullable k ≡ false → opens k ts ≡ true → completed step (read k ts) ≡ Some ((b, c), us) → Goes f g b c
    → gathered f (completed (split_each step) (read (many k) ts)) ≡ whole → gathered g (completed (split_each step) (read (many k) us)) ≡ whole
goes_gathered k step f g b c ts us whole n o e h before =
    let x = completed_some step (read k ts) ((b, c), us) e in
    sym (ap (λ (r : Option _). gathered f (completed (split_each step) r)) (many_step k ts n o ∙ ap (then_more k) x.1) ∙ regroup step f g x.0 b c (read (many k) us) x.2 h) ∙ before

-- no element stands there
pub gathered_ends : {A B C D : Type 0} (k : Form A) (step : A → Option (B × C)) (f : List B × List C → D) (ts : List Lexeme) (whole : Option (D × List Lexeme)) → opens k ts ≡ false
    → gathered f (completed (split_each step) (read (many k) ts)) ≡ whole → whole ≡ Some (f ([], []), ts)
gathered_ends k step f ts whole o before = sym before ∙ ap (λ (r : Option _). gathered f (completed (split_each step) r)) (many_done k ts o)

behind_pair : {B C : Type 0} (bs : List B) (cs : List C) (b : B) (c : C) → Goes (put_behind bs cs) (put_behind (bs ++ b ∷ []) (cs ++ c ∷ [])) b c
behind_pair {B} {C} bs cs b c = λ q. ap (λ (l : List B). (l, cs ++ (c ∷ q.1))) (sym (append_assoc bs (b ∷ []) q.0)) ∙ ap (λ (l : List C). ((bs ++ b ∷ []) ++ q.0, l)) (sym (append_assoc cs (c ∷ []) q.1))

-- one element more
pub goes_split : {A B C : Type 0} (f : Form A) (step : A → Option (B × C)) (bs : List B) (cs : List C) (b : B) (c : C) (ts us : List Lexeme) (whole : Both B C) → nullable f ≡ false → opens f ts ≡ true → completed step (read f ts) ≡ Some ((b, c), us)
    → behind_both bs cs (completed (split_each step) (read (many f) ts)) ≡ whole → behind_both (bs ++ b ∷ []) (cs ++ c ∷ []) (completed (split_each step) (read (many f) us)) ≡ whole
goes_split f step bs cs b c ts us whole n o e before = goes_gathered f step (put_behind bs cs) (put_behind (bs ++ b ∷ []) (cs ++ c ∷ [])) b c ts us whole n o e (behind_pair bs cs b c) before

-- no element stands there
pub split_ends : {A B C : Type 0} (f : Form A) (step : A → Option (B × C)) (bs : List B) (cs : List C) (ts : List Lexeme) (whole : Both B C) → opens f ts ≡ false
    → behind_both bs cs (completed (split_each step) (read (many f) ts)) ≡ whole → whole ≡ Some ((bs, cs), ts)
split_ends {A} {B} {C} f step bs cs ts whole o before =
    gathered_ends f step (put_behind bs cs) ts whole o before
    ∙ ap (λ (l : List B). Some ((l, cs ++ []), ts)) (append-nil bs)
    ∙ ap (λ (l : List C). Some ((bs, l), ts)) (append-nil cs)

refused : {A B C D : Type 0} (step : A → Option (B × C)) (f : List B × List C → D) (a : A) (r : Option (List A × List Lexeme)) → step a ≡ None → gathered f (completed (split_each step) (first_before a r)) ≡ None
refused step f a None e = refl
refused step f a (Some x) e = ap (λ (o : Option _). gathered f ((o >>= λ p. split_each step x.0 >>= λ q. Some (p.0 ∷ q.0, p.1 ∷ q.1)) >>= λ v. Some (v, x.1))) e

abbrev made_before : {B : Type 0} → List Lexeme → Option B → Option (B × List Lexeme)
made_before us o = o >>= λ b. Some (b, us)

nothing_made : {B : Type 0} (o : Option B) (us : List Lexeme) → made_before us o ≡ None → o ≡ None
nothing_made None us e = refl
nothing_made (Some b) us e = absurd cc

-- an element is not read
pub gathered_fails : {A B C D : Type 0} (k : Form A) (step : A → Option (B × C)) (f : List B × List C → D) (ts : List Lexeme) (whole : Option (D × List Lexeme)) → nullable k ≡ false → opens k ts ≡ true → completed step (read k ts) ≡ None
    → gathered f (completed (split_each step) (read (many k) ts)) ≡ whole → whole ≡ None
gathered_fails {A} {B} {C} k step f ts whole n o e before = by (read k ts) refl e
  where
    by : (r : Option (A × List Lexeme)) → read k ts ≡ r → completed step r ≡ None → whole ≡ None
    by None d e = sym before ∙ ap (λ (r : Option _). gathered f (completed (split_each step) r)) (many_step k ts n o ∙ ap (then_more k) d)
    by (Some x) d e = sym before ∙ ap (λ (r : Option _). gathered f (completed (split_each step) r)) (many_step k ts n o ∙ ap (then_more k) d) ∙ refused step f x.0 (read (many k) x.1) (nothing_made (step x.0) x.1 e)

-- an element that stands there is not read
pub split_fails : {A B C : Type 0} (f : Form A) (step : A → Option (B × C)) (bs : List B) (cs : List C) (ts : List Lexeme) (whole : Both B C) → nullable f ≡ false → opens f ts ≡ true → completed step (read f ts) ≡ None
    → behind_both bs cs (completed (split_each step) (read (many f) ts)) ≡ whole → whole ≡ None
split_fails f step bs cs ts whole n o e before = gathered_fails f step (put_behind bs cs) ts whole n o e before

-- ---- pairs

-- one pair more
pub goes_two : {B C : Type 0} (f : Form (B × C)) (bs : List B) (cs : List C) (b : B) (c : C) (ts us : List Lexeme) (whole : Both B C) → nullable f ≡ false → opens f ts ≡ true → read f ts ≡ Some ((b, c), us)
    → behind_both bs cs (completed (split_each as_two) (read (many f) ts)) ≡ whole → behind_both (bs ++ b ∷ []) (cs ++ c ∷ []) (completed (split_each as_two) (read (many f) us)) ≡ whole
goes_two f bs cs b c ts us whole n o e before = goes_split f as_two bs cs b c ts us whole n o (ap (completed as_two) e) before

-- a pair is not read
pub fails_two : {B C : Type 0} (f : Form (B × C)) (bs : List B) (cs : List C) (ts : List Lexeme) (whole : Both B C) → nullable f ≡ false → opens f ts ≡ true → read f ts ≡ None
    → behind_both bs cs (completed (split_each as_two) (read (many f) ts)) ≡ whole → whole ≡ None
fails_two f bs cs ts whole n o e before = split_fails f as_two bs cs ts whole n o (ap (completed as_two) e) before

abbrev with_first : {A : Type 0} → A → Option (List A × List Lexeme) → Option ((A × List A) × List Lexeme)
with_first a r = r >>= λ y. Some ((a, y.0), y.1)

abbrev consed : {A : Type 0} → A → Option (List A × List Lexeme) → Option (List A × List Lexeme)
consed a r = with_first a r >>= λ z. Some (z.0.0 ∷ z.0.1, z.1)

abbrev both_read : {A : Type 0} → Option (A × List Lexeme) → (A × List Lexeme → Option ((A × List A) × List Lexeme)) → Option (List A × List Lexeme)
both_read r more = r >>= more >>= λ z. Some (z.0.0 ∷ z.0.1, z.1)

consed_is : {A : Type 0} (a : A) (r : Option (List A × List Lexeme)) → consed a r ≡ first_before a r
consed_is a None = refl
consed_is a (Some x) = refl

-- the first pair
pub first_two : {B C : Type 0} (f g : Form (B × C)) (bs : List B) (cs : List C) (b : B) (c : C) (ts us : List Lexeme) → read f ts ≡ Some ((b, c), us)
    → behind_both (bs ++ b ∷ []) (cs ++ c ∷ []) (completed (split_each as_two) (read (many g) us)) ≡ behind_both bs cs (completed (split_each as_two) (read (mapped (λ x. x.0 ∷ x.1) (pair f (many g))) ts))
first_two {B} {C} f g bs cs b c ts us e =
    sym (ap (λ (r : Option ((B × C) × List Lexeme)). behind_both bs cs (completed (split_each as_two) (both_read r (λ x. with_first x.0 (read (many g) x.1))))) e
    ∙ ap (λ (r : Option _). behind_both bs cs (completed (split_each as_two) r)) (consed_is (b, c) (read (many g) us))
    ∙ regroup as_two (put_behind bs cs) (put_behind (bs ++ b ∷ []) (cs ++ c ∷ [])) (b, c) b c (read (many g) us) refl (behind_pair bs cs b c))
