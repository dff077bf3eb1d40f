-- Two forms of which the one begins where the other doesn't.
use Rattle.std.proofs.Common.{◌≡◌, Bool, true, false, cond, List, [], ◌∷◌, Option, Some, None, refl, sym, ap, ◌∙◌, true≢false}
use Rattle.text_forms.specs.Form.{Lexeme, Form, either}
use Rattle.text_forms.specs.Reading.{Terminal, next_in, nullable, first, opens, read, all_apart}
use Rattle.text_forms.proofs.Begins.{opened, all_apart_none}
use Rattle.text_forms.proofs.Fronts.{front}

-- where a form doesn't begin that takes a token, nothing is read
pub not_begun : {A : Type 0} (f : Form A) (ts : List Lexeme) → nullable f ≡ false → opens f ts ≡ false → read f ts ≡ None
not_begun {A} f ts n o = by (read f ts) refl
  where
    by : (r : Option (A × List Lexeme)) → read f ts ≡ r → r ≡ None
    by None e = refl
    by (Some x) e =
        let t = front f ts x e in
        let begun : opens f ts ≡ true = ap (λ (us : List Lexeme). opens f us) t.parts ∙ opened (first f) (nullable f) t.used x.1 n t.spelled in
        absurd (true≢false (sym begun ∙ o))

pub apart_next : (ss rs : List Terminal) (ts : List Lexeme) → all_apart ss rs ≡ true → next_in rs ts ≡ true → next_in ss ts ≡ false
apart_next ss rs [] a e = refl
apart_next ss rs (t ∷ ts) a e = all_apart_none (t ∷ ts) ss rs a e

-- which of the two is asked for first makes no difference
pub swapped : {A : Type 0} (f g : Form A) (ts : List Lexeme) → nullable f ≡ false → nullable g ≡ false → all_apart (first f) (first g) ≡ true → cond (opens g ts) (read g ts) (read f ts) ≡ read (either f g) ts
swapped f g ts n m a = by (opens g ts) refl
  where
    behind : (b : Bool) → opens f ts ≡ b → opens g ts ≡ false → read f ts ≡ cond b (read f ts) (read g ts)
    behind true e o = refl
    behind false e o = not_begun f ts n e ∙ sym (not_begun g ts m o)

    by : (b : Bool) → opens g ts ≡ b → cond b (read g ts) (read f ts) ≡ read (either f g) ts
    by true e = ap (λ (b : Bool). cond b (read f ts) (read g ts)) (sym (apart_next (first f) (first g) ts a e))
    by false e = behind (opens f ts) refl e
