-- A form between two brackets is read in two steps: first up to the bracket that closes, and then what stands inside.
use Rattle.std.proofs.Common.{◌≡◌, ℕ, ◌-◌, true, false, ◌&&◌, List, [], ◌∷◌, ◌++◌, length, take, Option, Some, None, refl, sym, ap, ◌∙◌, subst, length-append, arith, inl, inr}
use Rattle.std.proofs.lemmas.Bool.{and_parts}
use Rattle.std.proofs.Math.Seq.{take-append_seam}
use Rattle.text_forms.specs.declared.TokenKind.{TokenKind}
use Rattle.text_forms.specs.Form.{is_closer, nests, Lexeme, Form, enclosed, pair, Spells}
use Rattle.text_forms.specs.Reading.{◌>>=◌, next_in, nullable, first, after, read, read_whole, decides, all_apart}
use Rattle.text_forms.specs.Combined.{between}
use Rattle.text_forms.specs.Gives.{mark}
use Rattle.text_forms.specs.Balanced.{inside}
use Rattle.text_forms.proofs.Nests.{enclosed_complete}
use Rattle.text_forms.proofs.Begins.{test, nothing_next}
use Rattle.text_forms.proofs.Parts.{lexeme, enclosed_sound}
use Rattle.text_forms.proofs.Sound.{sound, bind_some}
use Rattle.text_forms.proofs.Complete.{complete}
use Rattle.text_forms.proofs.Exact.{read_spells, spells_read}

pub inside_is : (a b : Lexeme) (x : List Lexeme) → inside (a ∷ (x ++ b ∷ [])) ≡ x
inside_is a b x =
    let n : length (a ∷ (x ++ b ∷ [])) - 2 ≡ length x = omega (arith, length-append x (b ∷ [])) in
    ap (λ (k : ℕ). take k (x ++ b ∷ [])) n ∙ take-append_seam x (b ∷ [])

-- two that have the same values are the same
pub same_values : {A : Type 0} (r q : Option A) → ((x : A) → r ≡ Some x → q ≡ Some x) → ((x : A) → q ≡ Some x → r ≡ Some x) → r ≡ q
same_values None None h k = refl
same_values None (Some y) h k = k y refl
same_values (Some x) q h k = sym (h x refl)

-- the brackets, and what stands between them
abbrev Bracketed : {A : Type 0} → TokenKind → TokenKind → (A → List Lexeme → Type 0) → A → List Lexeme → Type 0
Bracketed o c P a ts = (v : List ℕ) × (inner : List Lexeme) × (w : List ℕ) × (ts ≡ lexeme o v ∷ (inner ++ lexeme c w ∷ [])) × P a inner

pub between_parts : {A : Type 0} (o c : TokenKind) (f : Form A) (a : A) (ts : List Lexeme) → Spells (between o c f) a ts → Bracketed o c (Spells f) a ts
between_parts {A} o c f a ts s =
    let p = s.2 in
    let q = p.4 in
    let whole = p.2 ∙ ap (λ (l : List Lexeme). l ++ p.1) p.3.2 ∙ ap (λ (l : List Lexeme). lexeme o p.3.0 ∷ l) (q.2 ∙ ap (λ (l : List Lexeme). q.0 ++ l) q.4.2) in
    (p.3.0, q.0, q.4.0, whole, subst (λ (b : A). Spells f b q.0) s.1 q.3)

pub between_from : {A : Type 0} (o c : TokenKind) (f : Form A) (a : A) (ts : List Lexeme) → Bracketed o c (Spells f) a ts → Spells (between o c f) a ts
between_from o c f a ts b =
    ((tt, (a, tt)), refl, (lexeme o b.0 ∷ [], b.1 ++ lexeme c b.2 ∷ [], b.3, (b.0, refl, refl), (b.1, lexeme c b.2 ∷ [], refl, b.4, (b.2, refl, refl))))

-- nothing goes on with it
between_ends : {A : Type 0} (o c : TokenKind) (f : Form A) (rest : List Lexeme) → next_in (after (between o c f)) rest ≡ false
between_ends o c f rest = elim (test (nullable f)) [ inl i ↦ rw i (nothing_next rest) | inr i ↦ rw i (nothing_next rest) ]

form_decides : {A : Type 0} (o c : TokenKind) (f : Form A) → decides (between o c f) ≡ true → decides f ≡ true
form_decides o c f d =
    let p = and_parts (decides (pair f (mark c))) (all_apart (after (mark o)) (first (pair f (mark c)))) d in
    (and_parts (decides f) (decides (mark c) && all_apart (after f) (first (mark c))) p.0).0

-- first what is balanced between the brackets, and then the form in it
abbrev pub in_two_steps : {A : Type 0} → TokenKind → TokenKind → Form A → List Lexeme → Option (A × List Lexeme)
in_two_steps o c f ts = read (enclosed o c) ts >>= λ x. read_whole f (inside x.0) >>= λ b. Some (b, x.1)

then_inside : {A : Type 0} (o c : TokenKind) (f : Form A) (a : A) (ts used rest : List Lexeme) → decides f ≡ true → read (enclosed o c) ts ≡ Some (used, rest) → Bracketed o c (Spells f) a used
    → in_two_steps o c f ts ≡ Some (a, rest)
then_inside o c f a ts used rest d e b =
    let i : inside used ≡ b.1 = ap inside b.3 ∙ inside_is (lexeme o b.0) (lexeme c b.2) b.1 in
    rw (e, i, spells_read f d a b.1 b.4) refl

-- So a reader may first pass over what stands between brackets, and read it later.
pub between_inside : {A : Type 0} (o c : TokenKind) (f : Form A) → decides (between o c f) ≡ true → is_closer c ≡ true → ((a : A) (ts : List Lexeme) → Spells f a ts → nests [] ts ≡ true) → (ts : List Lexeme)
    → read (between o c f) ts ≡ in_two_steps o c f ts
between_inside {A} o c f d h n ts =
    let df = form_decides o c f d in
    same_values _ _
    (λ x e.
    let t = sound (between o c f) d ts x e in
    let b = between_parts o c f x.0 t.used t.spelled in
    let s : Spells (enclosed o c) t.used t.used = (b.0, b.1, b.2, b.3, n x.0 b.1 b.4, refl) in
    then_inside o c f x.0 ts t.used x.1 df (ap (read (enclosed o c)) t.parts ∙ enclosed_complete o c h t.used t.used x.1 s) b)
    (λ x e.
    let a = bind_some (read (enclosed o c) ts) (λ y. read_whole f (inside y.0) >>= λ b. Some (b, y.1)) x e in
    let b = bind_some (read_whole f (inside a.0.0)) (λ b. Some (b, a.0.1)) x a.2 in
    let t = enclosed_sound o c ts a.0 a.1 in
    let s = t.spelled in
    let i : inside a.0.0 ≡ s.1 = ap inside (s.5 ∙ s.3) ∙ inside_is (lexeme o s.0) (lexeme c s.2) s.1 in
    let r = read_spells f df b.0 s.1 (sym (ap (read_whole f) i) ∙ b.1) in
    let p = between_from o c f b.0 t.used (s.0, s.1, s.2, s.3, r) in
    ap (read (between o c f)) t.parts ∙ complete (between o c f) d b.0 t.used a.0.1 p (between_ends o c f a.0.1) ∙ b.2)
