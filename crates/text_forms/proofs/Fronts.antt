-- With which token that begins which is read, whether or not one token ahead decides.
use Rattle.std.proofs.Common.{◌≡◌, ◌≤◌, false, cond, ◌&&◌, List, [], ◌∷◌, ◌++◌, length, length-append, Option, Some, ap, sym, subst, arith, inl, inr}
use Rattle.text_forms.specs.declared.TokenKind.TheVariants.{Word}
use Rattle.text_forms.specs.Form.{Lexeme, Form, exactly, one, one_such, ahead, enclosed, up_to, pair, either, mapped, made, optional, many, by_word}
use Rattle.text_forms.specs.Reading.{any_of, marks_then, nullable, first, opens, read}
use Rattle.text_forms.proofs.Begins.{Begins, begins, by_token, entry_fits, ahead_begins, pair_begins, either_left, either_right, if_begins, each_begins}
use Rattle.text_forms.proofs.Parts.{Sound, exactly_sound, one_sound, one_such_sound, enclosed_sound, up_to_sound, ahead_sound, pair_sound, either_sound, mapped_sound, made_sound, by_word_sound, optional_sound, each_sound}

weaken : {A : Type 0} (P Q : A → List Lexeme → Type 0) (r : List Lexeme → Option (A × List Lexeme)) → Sound P r → ((a : A) (used : List Lexeme) → P a used → Q a used) → Sound Q r
weaken P Q r s h ts x e = let t = s ts x e in record { used = t.used; parts = t.parts; spelled = h x.0 t.used t.spelled }

abbrev Front : {A : Type 0} → Form A → A → List Lexeme → Type 0
Front f a used = Begins (first f) (nullable f) used

pub front : {A : Type 0} (f : Form A) → Sound (Front f) (read f)
front (exactly k s) = weaken _ (Front (exactly k s)) _ (exactly_sound k s) (begins (exactly k s))
front (one k) = weaken _ (Front (one k)) _ (one_sound k) (begins (one k))
front (one_such k p) = weaken _ (Front (one_such k p)) _ (one_such_sound k p) (begins (one_such k p))
front (enclosed o c) = weaken _ (Front (enclosed o c)) _ (enclosed_sound o c) (begins (enclosed o c))
front (up_to st) = weaken _ (Front (up_to st)) _ (up_to_sound st) (begins (up_to st))
front (ahead k f) =
    weaken _ (Front (ahead k f)) _ (ahead_sound k (Front f) (read f) (front f))
    (λ a used s. subst (λ (w : List Lexeme). Begins (cond (nullable f) (any_of k ∷ []) (marks_then k (first f))) false w) (sym s.1) (ahead_begins k a.0 (first f) (nullable f) s.0 s.2))
front (pair f g) =
    weaken _ (Front (pair f g)) _ (pair_sound (Front f) (Front g) (read f) (read g) (front f) (front g))
    (λ a used s. subst (λ (w : List Lexeme). Begins (first f ++ cond (nullable f) (first g) []) (nullable f && nullable g) w) (sym s.2) (pair_begins (first f) (first g) (nullable f) (nullable g) s.0 s.1 s.3 s.4))
front (either f g) =
    weaken _ (Front (either f g)) _ (either_sound (Front f) (Front g) (opens f) (read f) (read g) (front f) (front g))
    (λ a used s. elim s [ inl h ↦ either_left (first f) (first g) (nullable f) (nullable g) used h | inr h ↦ either_right (first f) (first g) (nullable f) (nullable g) used h ])
front (mapped h f) = weaken _ (Front (mapped h f)) _ (mapped_sound (Front f) h (read f) (front f)) (λ a used s. s.2)
front (made h f) = weaken _ (Front (made h f)) _ (made_sound (Front f) h (read f) (front f)) (λ a used s. s.2)
front (by_word table f) =
    weaken _ (Front (by_word table f)) _ (by_word_sound table (λ k a used. Front (f k) a used) (λ k ts. read (f k) ts) (λ w k e. front (f k)))
    (λ a used s. by_token (record { kind = Word; text = s.0 }) s.2 s.3 (λ rest. entry_fits table s.0 s.1 (s.2 ++ rest) s.4))
front (optional f) = weaken _ (Front (optional f)) _ (optional_sound (Front f) (opens f) (read f) (front f)) (if_begins (Front f) (first f) (nullable f) (λ a used b. b))
front (many f) = weaken _ (Front (many f)) _ (λ ts x e. each_sound (Front f) (opens f) (read f) (front f) (length ts) ts x e) (each_begins (Front f) (first f) (nullable f) (λ a used b. b))

-- reading makes nothing longer
pub within : {A : Type 0} (f : Form A) (ts : List Lexeme) (x : A × List Lexeme) → read f ts ≡ Some x → length x.1 ≤ length ts
within f ts x e = let t = front f ts x e in omega (arith, ap length t.parts, length-append t.used x.1)
