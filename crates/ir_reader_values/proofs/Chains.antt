-- Reading one form behind another, where what is read is completed.
use Rattle.std.proofs.Common.{◌≡◌, List, Option, Some, None, refl, sym, ap, ◌∙◌}
use Rattle.text_forms.specs.Combined.{between}
use Rattle.text_forms.specs.Form.{Lexeme, Form, mapped, pair}
use Rattle.text_forms.specs.Gives.{mark}
use Rattle.text_forms.specs.Reading.{◌>>=◌, read}
use Rattle.text_forms.specs.Walk.{completed}
use Rattle.text_forms.specs.declared.TokenKind.{TokenKind}
use Rattle.ir_reader_values.specs.Between.{between_read}

-- the next steps are alike
pub alike : {A B : Type 0} (o : Option A) (f g : A → Option B) → ((a : A) → f a ≡ g a) → (o >>= f) ≡ (o >>= g)
alike None f g h = refl
alike (Some a) f g h = h a

-- what is made of what is read is completed as that is
pub completed_mapped : {A B C : Type 0} (f : B → Option C) (h : A → B) (g : Form A) (ts : List Lexeme) → completed f (read (mapped h g) ts) ≡ completed (λ a. f (h a)) (read g ts)
completed_mapped {A} f h g ts = by (read g ts)
  where
    by : (r : Option (A × List Lexeme)) → completed f (r >>= λ x. Some (h x.0, x.1)) ≡ completed (λ a. f (h a)) r
    by None = refl
    by (Some x) = refl

-- two ways to complete that are alike complete alike
pub completed_alike : {A B R : Type 0} (f g : A → Option B) (r : Option (A × R)) → ((a : A) → f a ≡ g a) → completed f r ≡ completed g r
completed_alike f g None h = refl
completed_alike f g (Some x) h = ap (λ (o : Option _). o >>= λ b. Some (b, x.1)) (h x.0)

abbrev beside : {A B : Type 0} → A → Option (B × List Lexeme) → Option ((A × B) × List Lexeme)
beside a o = o >>= λ y. Some ((a, y.0), y.1)

-- the first part, which is taken as it is
pub first_apart : {A B C : Type 0} (f : A × B → Option C) (g : Form A) (h : Form B) (ts : List Lexeme) → completed f (read (pair g h) ts) ≡ (read g ts >>= λ a. completed (λ b. f (a.0, b)) (read h a.1))
first_apart {A} {B} f g h ts = by (read g ts)
  where
    each : (a : A) (o : Option (B × List Lexeme)) → completed f (beside a o) ≡ completed (λ b. f (a, b)) o
    each a None = refl
    each a (Some y) = refl

    by : (o : Option (A × List Lexeme)) → completed f (o >>= λ x. beside x.0 (read h x.1)) ≡ (o >>= λ a. completed (λ b. f (a.0, b)) (read h a.1))
    by None = refl
    by (Some x) = each x.0 (read h x.1)

-- three forms in a row, of what each gives
pub three_apart : {A B C : Type 0} (f : Form A) (g : Form B) (h : Form C) (a : A) (b : B) (c : C) (ts us vs ws : List Lexeme) → read f ts ≡ Some (a, us) → read g us ≡ Some (b, vs) → read h vs ≡ Some (c, ws)
    → read (pair f (pair g h)) ts ≡ Some ((a, (b, c)), ws)
three_apart f g h a b c ts us vs ws first second third = rw first (rw second (rw third refl))

abbrev there : {Z R : Type 0} → R → Option Z → Option (Z × R)
there r o = o >>= λ z. Some (z, r)

-- the first part is completed, and the second by what that gives
pub chained : {A B C D : Type 0} (f : A → Option C) (k : C → B → Option D) (g : Form A) (h : Form B) (ts : List Lexeme)
    → completed (λ x. f x.0 >>= λ c. k c x.1) (read (pair g h) ts) ≡ (completed f (read g ts) >>= λ c. completed (k c.0) (read h c.1))
chained {A} {B} {C} {D} f k g h ts = by (read g ts)
  where
    refused : (o : Option (B × List Lexeme)) → completed {B = D} (λ (b : B). None) o ≡ None
    refused None = refl
    refused (Some y) = refl

    one : (us : List Lexeme) (q : Option C) → completed (λ b. q >>= λ c. k c b) (read h us) ≡ (there us q >>= λ c. completed (k c.0) (read h c.1))
    one us None = refused (read h us)
    one us (Some c) = refl

    each : (a : A) (o : Option (B × List Lexeme)) → completed (λ x. f x.0 >>= λ c. k c x.1) (beside a o) ≡ completed (λ b. f a >>= λ c. k c b) o
    each a None = refl
    each a (Some y) = refl

    by : (o : Option (A × List Lexeme)) → completed (λ x. f x.0 >>= λ c. k c x.1) (o >>= λ x. beside x.0 (read h x.1)) ≡ (completed f o >>= λ c. completed (k c.0) (read h c.1))
    by None = refl
    by (Some x) = each x.0 (read h x.1) ∙ one x.1 (f x.0)

-- a function of what was completed
pub then_made : {A B C R : Type 0} (f : A → Option B) (m : B → C) (r : Option (A × R)) → completed (λ a. f a >>= λ b. Some (m b)) r ≡ (completed f r >>= λ x. Some (m x.0, x.1))
then_made f m None = refl
then_made {A} {B} {C} {R} f m (Some x) = by (f x.0)
  where
    by : (o : Option B) → there x.1 (o >>= λ b. Some (m b)) ≡ (there x.1 o >>= λ y. Some (m y.0, y.1))
    by None = refl
    by (Some b) = refl

-- ---- between two marks

abbrev Marked : Type 0
Marked = Option (Unit {0} × List Lexeme)

abbrev inner : {A : Type 0} → A → Marked → Option ((A × Unit {0}) × List Lexeme)
inner a o = o >>= λ y. Some ((a, y.0), y.1)

abbrev outer : {A : Type 0} → Unit {0} → Option ((A × Unit {0}) × List Lexeme) → Option ((Unit {0} × (A × Unit {0})) × List Lexeme)
outer u o = o >>= λ y. Some ((u, y.0), y.1)

abbrev only : {A : Type 0} → Option ((Unit {0} × (A × Unit {0})) × List Lexeme) → Option (A × List Lexeme)
only o = o >>= λ x. Some (x.0.1.0, x.1)

abbrev ended : {B : Type 0} → B → Marked → Option (B × List Lexeme)
ended b o = o >>= λ e. Some (b, e.1)

closes : {A B : Type 0} (f : A → Option B) (u : Unit {0}) (a : A) (o : Marked) (q : Option B) → f a ≡ q → completed f (only (outer u (inner a o))) ≡ (q >>= λ b. ended b o)
closes f u a None None e = refl
closes f u a None (Some b) e = refl
closes {A} {B} f u a (Some m) None e = ap (λ (x : Option B). there m.1 x) e
closes {A} {B} f u a (Some m) (Some b) e = ap (λ (x : Option B). there m.1 x) e

then_closes : {B : Type 0} (c : TokenKind) (us : List Lexeme) (q : Option B) → ((q >>= λ b. ended b (read (mark c) us))) ≡ (there us q >>= λ x. ended x.0 (read (mark c) x.1))
then_closes c us None = refl
then_closes c us (Some b) = refl

-- what stands between two marks is read and completed part after part
pub between_is : {A B : Type 0} (o c : TokenKind) (f : A → Option B) (g : Form A) (ts : List Lexeme) → between_read o c f (read g) ts ≡ completed f (read (between o c g) ts)
between_is {A} {B} o c f g ts = by (read (mark o) ts)
  where
    each : (u : Unit {0}) (r : Option (A × List Lexeme)) → (completed f r >>= λ x. ended x.0 (read (mark c) x.1)) ≡ completed f (only (outer u (r >>= λ x. inner x.0 (read (mark c) x.1))))
    each u None = refl
    each u (Some x) = sym (closes f u x.0 (read (mark c) x.1) (f x.0) refl ∙ then_closes c x.1 (f x.0))

    by : (m : Marked) → (m >>= λ m. completed f (read g m.1) >>= λ x. ended x.0 (read (mark c) x.1)) ≡ completed f (only (m >>= λ m. outer m.0 (read g m.1 >>= λ x. inner x.0 (read (mark c) x.1))))
    by None = refl
    by (Some m) = each m.0 (read g m.1)
