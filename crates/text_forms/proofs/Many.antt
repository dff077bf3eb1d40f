-- Reading as often as there is another, one at a time.
use Rattle.std.proofs.Common.{◌≡◌, ℕ, zero, suc, ◌≤◌, ◌<◌, true, false, cond, List, [], ◌∷◌, ◌++◌, length, Option, Some, None, refl, sym, ap, ◌∙◌, append_assoc, length-append, arith}
use Rattle.std.proofs.lemmas.List.{append-nil}
use Rattle.text_forms.specs.Form.{Lexeme, Form, many}
use Rattle.text_forms.specs.Reading.{◌>>=◌, Terminal, next_in, nullable, first, opens, read, read_each}
use Rattle.text_forms.proofs.Begins.{not_empty}
use Rattle.text_forms.proofs.Fronts.{front}

-- what is read takes a token
pub shorter : {A : Type 0} (f : Form A) (ts : List Lexeme) (x : A × List Lexeme) → nullable f ≡ false → read f ts ≡ Some x → length x.1 < length ts
shorter f ts x n e =
    let t = front f ts x e in
    let k = not_empty (first f) (nullable f) t.used n t.spelled in
    omega (arith, k.1, ap length t.parts, length-append t.used x.1)

abbrev Shortens : {A : Type 0} → (List Lexeme → Option (A × List Lexeme)) → Type 0
Shortens {A} r = (ts : List Lexeme) (x : A × List Lexeme) → r ts ≡ Some x → length x.1 < length ts

abbrev then_each : {A : Type 0} → (List Lexeme → Option (List A × List Lexeme)) → Option (A × List Lexeme) → Option (List A × List Lexeme)
then_each go a = a >>= λ x. go x.1 >>= λ y. Some (x.0 ∷ y.0, y.1)

then_same : {A : Type 0} (go hop : List Lexeme → Option (List A × List Lexeme)) (a : Option (A × List Lexeme)) → ((x : A × List Lexeme) → a ≡ Some x → go x.1 ≡ hop x.1) → then_each go a ≡ then_each hop a
then_same go hop None h = refl
then_same go hop (Some x) h = rw (h x refl) refl

fuel : {A : Type 0} (ss : List Terminal) (r : List Lexeme → Option (A × List Lexeme)) → Shortens r → (n m : ℕ) (ts : List Lexeme) → length ts ≤ n → length ts ≤ m → read_each (next_in ss) r n ts ≡ read_each (next_in ss) r m ts
fuel ss r h zero zero ts ln lm = refl
fuel ss r h zero (suc m) [] ln lm = refl
fuel ss r h zero (suc m) (t ∷ ts) ln lm = absurd (omega arith)
fuel ss r h (suc n) zero [] ln lm = refl
fuel ss r h (suc n) zero (t ∷ ts) ln lm = absurd (omega arith)
fuel ss r h (suc n) (suc m) ts ln lm =
    ap (λ (o : Option _). cond (next_in ss ts) o (Some ([], ts))) (then_same (read_each (next_in ss) r n) (read_each (next_in ss) r m) (r ts) (λ x e. let lt = h ts x e in fuel ss r h n m x.1 (omega arith) (omega arith)))

pub many_done : {A : Type 0} (f : Form A) (ts : List Lexeme) → opens f ts ≡ false → read (many f) ts ≡ Some ([], ts)
many_done f [] e = refl
many_done f (t ∷ ts) e = rw e refl

pub many_step : {A : Type 0} (f : Form A) (ts : List Lexeme) → nullable f ≡ false → opens f ts ≡ true → read (many f) ts ≡ (read f ts >>= λ x. read (many f) x.1 >>= λ y. Some (x.0 ∷ y.0, y.1))
many_step f [] n e = absurd cc
many_step f (t ∷ ts) n e =
    rw e (then_same (read_each (next_in (first f)) (read f) (length ts)) (λ us. read (many f) us) (read f (t ∷ ts)) (λ x e1. let lt = shorter f (t ∷ ts) x n e1 in fuel (first f) (read f) (λ us y d. shorter f us y n d) (length ts) (length x.1) x.1 (omega arith) (omega arith)))

-- ---- what a loop keeps

-- what was read before, and what is still read
abbrev pub behind_front : {A : Type 0} → List A → Option (List A × List Lexeme) → Option (List A × List Lexeme)
behind_front front r = r >>= λ x. Some (front ++ x.0, x.1)

regroup : {A : Type 0} (front : List A) (a : A) (r : Option (List A × List Lexeme)) → behind_front front (r >>= λ y. Some (a ∷ y.0, y.1)) ≡ behind_front (front ++ a ∷ []) r
regroup front a None = refl
regroup front a (Some x) = ap (λ (l : List _). Some (l, x.1)) (sym (append_assoc front (a ∷ []) x.0))

pub goes_on : {A : Type 0} (f : Form A) (front : List A) (a : A) (ts us : List Lexeme) (whole : Option (List A × List Lexeme)) → nullable f ≡ false → opens f ts ≡ true → read f ts ≡ Some (a, us)
    → behind_front front (read (many f) ts) ≡ whole → behind_front (front ++ a ∷ []) (read (many f) us) ≡ whole
goes_on f front a ts us whole n o e so_far =
    let step : read (many f) ts ≡ (read f ts >>= λ x. read (many f) x.1 >>= λ y. Some (x.0 ∷ y.0, y.1)) = many_step f ts n o in
    let one : behind_front front (read (many f) ts) ≡ behind_front front (read (many f) us >>= λ y. Some (a ∷ y.0, y.1)) = ap (behind_front front) (step ∙ ap (λ (r : Option _). r >>= λ x. read (many f) x.1 >>= λ y. Some (x.0 ∷ y.0, y.1)) e) in
    sym (one ∙ regroup front a (read (many f) us)) ∙ so_far

pub fails : {A : Type 0} (f : Form A) (front : List A) (ts : List Lexeme) (whole : Option (List A × List Lexeme)) → nullable f ≡ false → opens f ts ≡ true → read f ts ≡ None
    → behind_front front (read (many f) ts) ≡ whole → whole ≡ None
fails f front ts whole n o e so_far =
    let step : read (many f) ts ≡ (read f ts >>= λ x. read (many f) x.1 >>= λ y. Some (x.0 ∷ y.0, y.1)) = many_step f ts n o in
    sym so_far ∙ ap (behind_front front) (step ∙ ap (λ (r : Option _). r >>= λ x. read (many f) x.1 >>= λ y. Some (x.0 ∷ y.0, y.1)) e)

pub ends : {A : Type 0} (f : Form A) (front : List A) (ts : List Lexeme) (whole : Option (List A × List Lexeme)) → opens f ts ≡ false
    → behind_front front (read (many f) ts) ≡ whole → whole ≡ Some (front, ts)
ends f front ts whole o so_far = sym so_far ∙ ap (behind_front front) (many_done f ts o) ∙ ap (λ (l : List _). Some (l, ts)) (append-nil front)
