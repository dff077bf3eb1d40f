-- What a loop keeps that completes what it reads, element by element.
use Rattle.std.proofs.Common.{◌≡◌, true, false, List, [], ◌∷◌, ◌++◌, Option, Some, None, refl, sym, ap, ◌∙◌, append_assoc, length, ◌<◌}
use Rattle.std.proofs.lemmas.List.{append-nil}
use Rattle.text_forms.specs.Form.{Lexeme, Form, many}
use Rattle.text_forms.specs.Reading.{◌>>=◌, nullable, opens, read}
use Rattle.text_forms.specs.Walk.{walk, completed}
use Rattle.text_forms.proofs.Many.{many_step, many_done, shorter}
use Rattle.text_forms.proofs.Sound.{bind_some}
use Rattle.text_forms.proofs.Exact.{there, some_is}

-- what was completed before, and what is still read
abbrev pub so_far : {S B : Type 0} → List B → Option ((List B × S) × List Lexeme) → Option ((List B × S) × List Lexeme)
so_far front r = r >>= λ x. Some ((front ++ x.0.0, x.0.1), x.1)

pub so_far_nothing : {S B : Type 0} (r : Option ((List B × S) × List Lexeme)) → so_far [] r ≡ r
so_far_nothing None = refl
so_far_nothing (Some x) = refl

-- an element read before the others
abbrev element_before : {A : Type 0} → A → Option (List A × List Lexeme) → Option (List A × List Lexeme)
element_before a r = r >>= λ y. Some (a ∷ y.0, y.1)

abbrev then_more : {A : Type 0} → Form A → Option (A × List Lexeme) → Option (List A × List Lexeme)
then_more f r = r >>= λ x. read (many f) x.1 >>= λ y. Some (x.0 ∷ y.0, y.1)

one_more : {A : Type 0} (f : Form A) (ts : List Lexeme) (r : Option (A × List Lexeme)) → nullable f ≡ false → opens f ts ≡ true → read f ts ≡ r → read (many f) ts ≡ then_more f r
one_more f ts r n o e = many_step f ts n o ∙ ap (then_more f) e

regroup_one : {S B : Type 0} (front : List B) (b : B) (us : List Lexeme) (w : Option (List B × S))
    → so_far front ((w >>= λ q. Some (b ∷ q.0, q.1)) >>= λ v. Some (v, us)) ≡ so_far (front ++ b ∷ []) (w >>= λ v. Some (v, us))
regroup_one front b us None = refl
regroup_one front b us (Some q) = ap (λ (l : List _). Some ((l, q.1), us)) (sym (append_assoc front (b ∷ []) q.0))

-- the walk behind one step
abbrev behind : {S A B : Type 0} → (S → A → Option (B × S)) → List A → Option (B × S) → Option (List B × S)
behind step more p = p >>= λ p. walk step p.1 more >>= λ q. Some (p.0 ∷ q.0, q.1)

regroup : {S A B : Type 0} (step : S → A → Option (B × S)) (front : List B) (s t : S) (a : A) (b : B) (r : Option (List A × List Lexeme)) → step s a ≡ Some (b, t)
    → so_far front (completed (walk step s) (element_before a r)) ≡ so_far (front ++ b ∷ []) (completed (walk step t) r)
regroup step front s t a b None e = refl
regroup step front s t a b (Some x) e =
    ap (λ (p : Option _). so_far front (behind step x.0 p >>= λ v. Some (v, x.1))) e ∙ regroup_one front b x.1 (walk step t x.0)

-- the element that was read is completed
pub walks_on : {S A B : Type 0} (f : Form A) (step : S → A → Option (B × S)) (front : List B) (s t : S) (a : A) (b : B) (ts us : List Lexeme) (whole : Option ((List B × S) × List Lexeme)) → nullable f ≡ false → opens f ts ≡ true → read f ts ≡ Some (a, us) → step s a ≡ Some (b, t)
    → so_far front (completed (walk step s) (read (many f) ts)) ≡ whole → so_far (front ++ b ∷ []) (completed (walk step t) (read (many f) us)) ≡ whole
walks_on f step front s t a b ts us whole n o e d before =
    sym (ap (λ (r : Option _). so_far front (completed (walk step s) r)) (one_more f ts (Some (a, us)) n o e) ∙ regroup step front s t a b (read (many f) us) d) ∙ before

refused : {S A B : Type 0} (step : S → A → Option (B × S)) (front : List B) (s : S) (a : A) (r : Option (List A × List Lexeme)) → step s a ≡ None → so_far front (completed (walk step s) (element_before a r)) ≡ None
refused step front s a None e = refl
refused step front s a (Some x) e = ap (λ (p : Option _). so_far front (behind step x.0 p >>= λ v. Some (v, x.1))) e

some_none : {A : Type 0} (x : A) → there x ≡ None → ⊥
some_none x e = cc

none_completed : {A B R : Type 0} (f : A → Option B) (a : A) (r : R) → completed f (Some (a, r)) ≡ None → f a ≡ None
none_completed {A} {B} {R} f a r e = elim (f a) as (λ o. completed (λ (_ : A). o) (Some (a, r)) ≡ None → o ≡ None) [ None ↦ λ _. refl | Some b ↦ λ d. absurd (some_none (b, r) d) ] e

-- an element is not read, or not completed
pub walk_fails : {S A B : Type 0} (f : Form A) (step : S → A → Option (B × S)) (front : List B) (s : S) (ts : List Lexeme) (whole : Option ((List B × S) × List Lexeme)) → nullable f ≡ false → opens f ts ≡ true → completed (step s) (read f ts) ≡ None
    → so_far front (completed (walk step s) (read (many f) ts)) ≡ whole → whole ≡ None
walk_fails {S} {A} {B} f step front s ts whole n o e before =
    elim (read f ts) as (λ r. read f ts ≡ r → completed (step s) r ≡ None → whole ≡ None) [
      | None ↦ λ e1 e2. sym before ∙ ap (λ (r : Option _). so_far front (completed (walk step s) r)) (one_more f ts None n o e1)
      | Some x ↦ λ e1 e2. sym before ∙ ap (λ (r : Option _). so_far front (completed (walk step s) r)) (one_more f ts (Some x) n o e1) ∙ refused step front s x.0 (read (many f) x.1) (none_completed (step s) x.0 x.1 e2)
    ] refl e

-- no element stands there
pub walk_ends : {S A B : Type 0} (f : Form A) (step : S → A → Option (B × S)) (front : List B) (s : S) (ts : List Lexeme) (whole : Option ((List B × S) × List Lexeme)) → opens f ts ≡ false
    → so_far front (completed (walk step s) (read (many f) ts)) ≡ whole → whole ≡ Some ((front, s), ts)
walk_ends f step front s ts whole o before =
    sym before ∙ ap (λ (r : Option _). so_far front (completed (walk step s) r)) (many_done f ts o) ∙ ap (λ (l : List _). Some ((l, s), ts)) (append-nil front)

pub completed_some : {A B R : Type 0} (f : A → Option B) (r : Option (A × R)) (x : B × R) → completed f r ≡ Some x → (a : A) × (r ≡ Some (a, x.1)) × (f a ≡ Some x.0)
completed_some {A} {B} {R} f r x e =
    let p = bind_some r (λ y. f y.0 >>= λ b. Some (b, y.1)) x e in
    let q = bind_some (f p.0.0) (λ b. Some (b, p.0.1)) x p.2 in
    let made : B × R = (q.0, p.0.1) in
    let same = some_is made x q.2 in
    (p.0.0, p.1 ∙ ap (λ (y : B × R). Some (p.0.0, y.1)) same, q.1 ∙ ap (λ (y : B × R). Some y.0) same)

-- from what an element was completed to
pub goes_completed : {S A B : Type 0} (f : Form A) (step : S → A → Option (B × S)) (front : List B) (s t : S) (b : B) (ts us : List Lexeme) (whole : Option ((List B × S) × List Lexeme)) → nullable f ≡ false → opens f ts ≡ true → completed (step s) (read f ts) ≡ Some ((b, t), us)
    → so_far front (completed (walk step s) (read (many f) ts)) ≡ whole → so_far (front ++ b ∷ []) (completed (walk step t) (read (many f) us)) ≡ whole
goes_completed f step front s t b ts us whole n o e before =
    let c = completed_some (step s) (read f ts) ((b, t), us) e in
    walks_on f step front s t c.0 b ts us whole n o c.1 c.2 before

pub shorter_completed : {A B : Type 0} (f : Form A) (g : A → Option B) (ts : List Lexeme) (x : B × List Lexeme) → nullable f ≡ false → completed g (read f ts) ≡ Some x → length x.1 < length ts
shorter_completed f g ts x n e = let c = completed_some g (read f ts) x e in shorter f ts (c.0, x.1) n c.1
