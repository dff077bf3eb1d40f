-- Reading as often as there is another, behind what was kept before.
use Rattle.std.proofs.Common.{◌≡◌, ◌<◌, true, false, List, ◌∷◌, ◌++◌, length, Option, Some, None, refl, sym, ap, ◌∙◌, append_assoc, arith}
use Rattle.text_forms.specs.Form.{Lexeme, Form, mapped, many}
use Rattle.text_forms.specs.declared.cursor.Cursor.{Cursor}
use Rattle.text_forms.specs.Gives.{left}
use Rattle.text_forms.specs.Machine.{behind}
use Rattle.text_forms.specs.Nested.{concat}
use Rattle.text_forms.specs.Reading.{◌>>=◌, nullable, opens, read}
use Rattle.text_forms.proofs.Many.{many_step, shorter}
use Rattle.text_forms.proofs.Viewed.{count_viewed}
use Rattle.text_forms.proofs.Parts.{bind_some, some_is}

-- what is read, and what is left
abbrev pub Reads : Type 0 → Type 0
Reads A = Option (List A × List Lexeme)

-- the next reading, behind what was kept
abbrev then_behind : {A : Type 0} → Form (List A) → Reads A → Reads A
then_behind g r = r >>= λ x. behind x.0 (read g x.1)

-- one list for all
abbrev pub each : {A : Type 0} → Form (List A) → Form (List A)
each f = mapped concat (many f)

abbrev flat : {A : Type 0} → Option (List (List A) × List Lexeme) → Reads A
flat r = r >>= λ x. Some (concat x.0, x.1)

abbrev consed : {A : Type 0} → A → Option (List A × List Lexeme) → Option (List A × List Lexeme)
consed a r = r >>= λ y. Some (a ∷ y.0, y.1)

abbrev many_read : {A : Type 0} → Form A → Option (A × List Lexeme) → Option (List A × List Lexeme)
many_read f r = r >>= λ x. consed x.0 (read (many f) x.1)

each_inner : {A : Type 0} (front a : List A) (r : Option (List (List A) × List Lexeme)) → behind front (flat (consed a r)) ≡ behind (front ++ a) (flat r)
each_inner front a None = refl
each_inner front a (Some y) = ap (λ (zs : List _). Some (zs, y.1)) (sym (append_assoc front a (concat y.0)))

each_on : {A : Type 0} (f : Form (List A)) (front : List A) (r : Reads A) → behind front (flat (many_read f r)) ≡ then_behind (each f) (behind front r)
each_on f front None = refl
each_on f front (Some x) = each_inner front x.0 (read (many f) x.1)

each_step : {A : Type 0} (f : Form (List A)) (front : List A) (ts : List Lexeme) → nullable f ≡ false → opens f ts ≡ true → behind front (read (each f) ts) ≡ then_behind (each f) (behind front (read f ts))
each_step f front ts n o = ap (λ (r : Option _). behind front (flat r)) (many_step f ts n o) ∙ each_on f front (read f ts)

pub each_next : {A : Type 0} (f : Form (List A)) (front kept : List A) (ts us : List Lexeme) → nullable f ≡ false → opens f ts ≡ true → behind front (read f ts) ≡ Some (kept, us) → behind front (read (each f) ts) ≡ behind kept (read (each f) us)
each_next f front kept ts us n o e = each_step f front ts n o ∙ ap (then_behind (each f)) e

-- what is kept takes a token
pub kept_shorter : {A : Type 0} (f : Form (List A)) (front kept : List A) (ts us : List Lexeme) → nullable f ≡ false → behind front (read f ts) ≡ Some (kept, us) → length us < length ts
kept_shorter {A} f front kept ts us n e =
    let b = bind_some (read f ts) (λ x. Some (front ++ x.0, x.1)) (kept, us) e in
    let made : List A × List Lexeme = (front ++ b.0.0, b.0.1) in
    let same : b.0.1 ≡ us = ap (λ (y : List A × List Lexeme). y.1) (some_is made (kept, us) b.2) in
    let lt = shorter f ts b.0 n b.1 in rw same at lt

pub kept_takes : {A : Type 0} (f : Form (List A)) (front kept : List A) (t u : Cursor) → nullable f ≡ false → behind front (read f (left t)) ≡ Some (kept, left u) → length u.rest.now < length t.rest.now
kept_takes f front kept t u n e =
    let lt = kept_shorter f front kept (left t) (left u) n e in
    omega (arith, lt, count_viewed t.text.now t.rest.now, count_viewed u.text.now u.rest.now)
