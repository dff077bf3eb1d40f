-- With which token a spelled value begins.
use Rattle.std.proofs.Common.{◌≡◌, ℕ, suc, Bool, true, false, cond, not, ◌&&◌, ◌||◌, List, [], ◌∷◌, ◌++◌, length, Option, Some, None, eqb, refl, sym, ap, ◌∙◌, subst, append_assoc, ◌⊎◌, inl, inr}
use Rattle.std.proofs.lemmas.Bool.{eqb-true, and_parts, and_from}
use Rattle.text_forms.specs.declared.TokenKind.{TokenKind}
use Rattle.text_forms.specs.Form.{kind_code, Lexeme, Form, exactly, one, one_such, ahead, enclosed, up_to, Stops, stops_at, has_kind, equal_next, runs, step, for_some, is_one_of, pair, either, mapped, made, optional, many, by_word, same_text, entry, Spells, InOrder, IfThere}
use Rattle.text_forms.specs.declared.TokenKind.TheVariants.{Word, Equal}
use Rattle.text_forms.specs.Reading.{kind_of, Terminal, words_of, marks_then, fits, fits_one, next_in, this, any_of, any_such, mark_then, going_on, is_stop, at_once, nullable, first, apart, apart_from, all_apart}
use Rattle.text_forms.proofs.Tokens.{same_kind, is_text, kind_is, text_is}

-- by cases on a test
abbrev pub test : (b : Bool) → (b ≡ true) ⊎ (b ≡ false)
test true = inl refl
test false = inr refl

pub or_false : (x y : Bool) → (x || y) ≡ false → (x ≡ false) × (y ≡ false)
or_false true y e = absurd cc
or_false false y e = (refl, e)

pub or_left : (x y : Bool) → x ≡ true → (x || y) ≡ true
or_left x y e = rw e refl

pub or_right : (x y : Bool) → y ≡ true → (x || y) ≡ true
or_right true y e = refl
or_right false y e = e

pub or_true : (x y : Bool) → (x || y) ≡ true → (x ≡ true) ⊎ (y ≡ true)
or_true true y e = inl refl
or_true false y e = inr e

pub not_true : (b : Bool) → not b ≡ true → b ≡ false
not_true true e = absurd cc
not_true false e = refl

pub not_both : (b : Bool) → b ≡ true → b ≡ false → ⊥
not_both b e h = cc

fits_left : (ts : List Lexeme) (a b : List Terminal) → fits_one ts a ≡ true → fits_one ts (a ++ b) ≡ true
fits_left ts [] b e = absurd cc
fits_left ts (s ∷ a) b e =
    elim (or_true (fits ts s) (fits_one ts a) e) [ inl h ↦ or_left (fits ts s) _ h | inr h ↦ or_right (fits ts s) _ (fits_left ts a b h) ]

fits_right : (ts : List Lexeme) (a b : List Terminal) → fits_one ts b ≡ true → fits_one ts (a ++ b) ≡ true
fits_right ts [] b e = e
fits_right ts (s ∷ a) b e = or_right (fits ts s) (fits_one ts (a ++ b)) (fits_right ts a b e)

none_fits : (ts : List Lexeme) (a b : List Terminal) → fits_one ts (a ++ b) ≡ false → (fits_one ts a ≡ false) × (fits_one ts b ≡ false)
none_fits ts [] b e = (refl, e)
none_fits ts (s ∷ a) b e =
    let p = or_false (fits ts s) (fits_one ts (a ++ b)) e in
    let q = none_fits ts a b p.1 in (rw (p.0, q.0) refl, q.1)

fits_some : (ts : List Lexeme) (a b : List Terminal) → fits_one ts (a ++ b) ≡ true → (fits_one ts a ≡ true) ⊎ (fits_one ts b ≡ true)
fits_some ts [] b e = inr e
fits_some ts (s ∷ a) b e =
    elim (or_true (fits ts s) (fits_one ts (a ++ b)) e) [
      | inl h ↦ inl (or_left (fits ts s) _ h)
      | inr h ↦ elim (fits_some ts a b h) [ inl i ↦ inl (or_right (fits ts s) _ i) | inr i ↦ inr i ]
    ]

pub next_some : (a b : List Terminal) (ts : List Lexeme) → next_in (a ++ b) ts ≡ true → (next_in a ts ≡ true) ⊎ (next_in b ts ≡ true)
next_some a b [] e = absurd cc
next_some a b (t ∷ ts) e = fits_some (t ∷ ts) a b e

pub split_next : (a b : List Terminal) (ts : List Lexeme) → next_in (a ++ b) ts ≡ false → (next_in a ts ≡ false) × (next_in b ts ≡ false)
split_next a b [] e = (refl, refl)
split_next a b (t ∷ ts) e = none_fits (t ∷ ts) a b e

-- ---- apart

clash : (t k l : TokenKind) → not (eqb (kind_code k) (kind_code l)) ≡ true → eqb (kind_code t) (kind_code l) ≡ true → eqb (kind_code t) (kind_code k) ≡ true → ⊥
clash t k l h e d =
    let kl : kind_code k ≡ kind_code l = sym (eqb-true _ _ d) ∙ eqb-true _ _ e in
    not_both _ (rw kl (kind_is l)) (not_true _ h)

abbrev kinded : Terminal → Bool
kinded (going_on st) = false
kinded s = true

of_kind : (t : Lexeme) (ts : List Lexeme) (s : Terminal) → kinded s ≡ true → fits (t ∷ ts) s ≡ true → eqb (kind_code t.kind) (kind_code (kind_of s)) ≡ true
of_kind t ts (this k s) _ e = (and_parts (eqb (kind_code t.kind) (kind_code k)) (same_text t.text s) e).0
of_kind t ts (any_of k) _ e = e
of_kind t ts (any_such k p) _ e = (and_parts (eqb (kind_code t.kind) (kind_code k)) (p t.text) e).0
of_kind t ts (mark_then k s) _ e = (and_parts (eqb (kind_code t.kind) (kind_code k)) (fits ts s) e).0
of_kind t ts (going_on st) h e = absurd cc

has_text : (t : Lexeme) (ts : List Lexeme) (k : TokenKind) (s : List ℕ) → fits (t ∷ ts) (this k s) ≡ true → t.text ≡ s
has_text t ts k s e = is_text t.text s (and_parts (eqb (kind_code t.kind) (kind_code k)) (same_text t.text s) e).1

not_such : (t : Lexeme) (ts : List Lexeme) (k : TokenKind) (p : List ℕ → Bool) (s : List ℕ) → fits (t ∷ ts) (any_such k p) ≡ true → t.text ≡ s → not (p s) ≡ true → ⊥
not_such t ts k p s e h i = not_both (p s) (ap p (sym h) ∙ (and_parts (eqb (kind_code t.kind) (kind_code k)) (p t.text) e).1) (not_true _ i)

by_kind : (t : Lexeme) (ts : List Lexeme) (s r : Terminal) → kinded s ≡ true → kinded r ≡ true → not (eqb (kind_code (kind_of s)) (kind_code (kind_of r))) ≡ true → fits (t ∷ ts) r ≡ true → fits (t ∷ ts) s ≡ true → ⊥
by_kind t ts s r ks kr h e d = clash t.kind (kind_of s) (kind_of r) h (of_kind t ts r kr e) (of_kind t ts s ks d)

kind_in : (ks : List TokenKind) (k l : TokenKind) → eqb (kind_code l) (kind_code k) ≡ true → has_kind ks k ≡ true → has_kind ks l ≡ true
kind_in ks k l e h = subst (λ (j : TokenKind). has_kind ks j ≡ true) (sym (same_kind l k e)) h

stop_kind : (st : Stops) (t : Lexeme) (ts : List Lexeme) → has_kind st.kinds t.kind ≡ true → stops_at st (t ∷ ts) ≡ true
stop_kind st t ts h = or_left (has_kind st.kinds t.kind || (eqb (kind_code t.kind) (kind_code Word) && is_one_of st.words t.text)) _ (or_left (has_kind st.kinds t.kind) _ h)

-- what fits a stop stops
stop_fits : (st : Stops) (t : Lexeme) (ts : List Lexeme) (s : Terminal) → is_stop st s ≡ true → fits (t ∷ ts) s ≡ true → stops_at st (t ∷ ts) ≡ true
stop_fits st t ts (this k s) h e =
    let ek = of_kind t ts (this k s) refl e in
    elim (or_true (has_kind st.kinds k) (eqb (kind_code k) (kind_code Word) && is_one_of st.words s) h) [
      | inl i ↦ stop_kind st t ts (kind_in st.kinds k t.kind ek i)
      | inr i ↦
          let p = and_parts (eqb (kind_code k) (kind_code Word)) (is_one_of st.words s) i in
          let w : eqb (kind_code t.kind) (kind_code Word) ≡ true = rw (eqb-true (kind_code t.kind) (kind_code k) ek) p.0 in
          let v : is_one_of st.words t.text ≡ true = rw (has_text t ts k s e) p.1 in
          or_left (has_kind st.kinds t.kind || (eqb (kind_code t.kind) (kind_code Word) && is_one_of st.words t.text)) _ (or_right (has_kind st.kinds t.kind) _ (and_from _ _ w v))
    ]
stop_fits st t ts (any_of k) h e = stop_kind st t ts (kind_in st.kinds k t.kind e h)
stop_fits st t ts (any_such k p) h e = stop_kind st t ts (kind_in st.kinds k t.kind (of_kind t ts (any_such k p) refl e) h)
stop_fits st t [] (mark_then k (any_of l)) h e = absurd (not_both _ (and_parts (eqb (kind_code t.kind) (kind_code k)) false e).1 refl)
stop_fits st t (u ∷ ts) (mark_then k (any_of l)) h e =
    let ek = of_kind t (u ∷ ts) (mark_then k (any_of l)) refl e in
    elim (or_true (has_kind st.kinds k) (has_kind st.before_equal k && eqb (kind_code l) (kind_code Equal)) h) [
      | inl i ↦ stop_kind st t (u ∷ ts) (kind_in st.kinds k t.kind ek i)
      | inr i ↦
          let p = and_parts (has_kind st.before_equal k) (eqb (kind_code l) (kind_code Equal)) i in
          let el : eqb (kind_code u.kind) (kind_code l) ≡ true = (and_parts (eqb (kind_code t.kind) (kind_code k)) (eqb (kind_code u.kind) (kind_code l)) e).1 in
          let q : eqb (kind_code u.kind) (kind_code Equal) ≡ true = rw (eqb-true (kind_code u.kind) (kind_code l) el) p.1 in
          or_right (has_kind st.kinds t.kind || (eqb (kind_code t.kind) (kind_code Word) && is_one_of st.words t.text)) _ (and_from _ _ (kind_in st.before_equal k t.kind ek p.0) q)
    ]
stop_fits st t ts (mark_then k s) h e = stop_kind st t ts (kind_in st.kinds k t.kind (of_kind t ts (mark_then k s) refl e) h)
stop_fits st t ts (going_on su) h e = absurd cc

apart_fits : (ts : List Lexeme) (s r : Terminal) → apart s r ≡ true → fits ts r ≡ true → fits ts s ≡ true → ⊥
apart_fits [] s r h e d = absurd cc
apart_fits (t ∷ ts) (this k s) (this l r) h e d =
    elim (or_true (not (eqb (kind_code k) (kind_code l))) (not (same_text s r)) h) [
      | inl i ↦ by_kind t ts (this k s) (this l r) refl refl i e d
      | inr i ↦ let sr : s ≡ r = sym (has_text t ts k s d) ∙ has_text t ts l r e in not_both (same_text s r) (rw sr (text_is r)) (not_true _ i)
    ]
apart_fits (t ∷ ts) (this k s) (any_such l p) h e d =
    elim (or_true (not (eqb (kind_code k) (kind_code l))) (not (p s)) h) [
      | inl i ↦ by_kind t ts (this k s) (any_such l p) refl refl i e d
      | inr i ↦ not_such t ts l p s e (has_text t ts k s d) i
    ]
apart_fits (t ∷ ts) (any_such k p) (this l s) h e d =
    elim (or_true (not (eqb (kind_code k) (kind_code l))) (not (p s)) h) [
      | inl i ↦ by_kind t ts (any_such k p) (this l s) refl refl i e d
      | inr i ↦ not_such t ts k p s d (has_text t ts l s e) i
    ]
apart_fits (t ∷ ts) (mark_then k s) (mark_then l r) h e d =
    elim (or_true (not (eqb (kind_code k) (kind_code l))) (apart s r) h) [
      | inl i ↦ by_kind t ts (mark_then k s) (mark_then l r) refl refl i e d
      | inr i ↦ apart_fits ts s r i (and_parts (eqb (kind_code t.kind) (kind_code l)) (fits ts r) e).1 (and_parts (eqb (kind_code t.kind) (kind_code k)) (fits ts s) d).1
    ]
apart_fits (t ∷ ts) (going_on st) r h e d = not_both (stops_at st (t ∷ ts)) (stop_fits st t ts r h e) (not_true _ d)
apart_fits (t ∷ ts) s (going_on st) h e d = not_both (stops_at st (t ∷ ts)) (stop_fits st t ts s h d) (not_true _ e)
apart_fits (t ∷ ts) s r h e d = by_kind t ts s r refl refl h e d

apart_none : (ts : List Lexeme) (s : Terminal) (rs : List Terminal) → apart_from s rs ≡ true → fits_one ts rs ≡ true → fits ts s ≡ true → ⊥
apart_none ts s [] h e d = absurd cc
apart_none ts s (r ∷ rs) h e d =
    let p = and_parts (apart s r) (apart_from s rs) h in
    elim (or_true (fits ts r) (fits_one ts rs) e) [ inl i ↦ apart_fits ts s r p.0 i d | inr i ↦ apart_none ts s rs p.1 i d ]

pub all_apart_none : (ts : List Lexeme) (ss rs : List Terminal) → all_apart ss rs ≡ true → fits_one ts rs ≡ true → fits_one ts ss ≡ false
all_apart_none ts [] rs h e = refl
all_apart_none ts (s ∷ ss) rs h e =
    let p = and_parts (apart_from s rs) (all_apart ss rs) h in
    elim (test (fits ts s)) [
      | inl i ↦ absurd (apart_none ts s rs p.0 e i)
      | inr i ↦ rw i (all_apart_none ts ss rs p.1 e)
    ]

-- ---- the first token

-- with these the tokens begin, whatever is behind them
abbrev pub Starts : List Terminal → List Lexeme → Type 0
Starts ss used = (rest : List Lexeme) → fits_one (used ++ rest) ss ≡ true

pub data Begins (ss : List Terminal) (n : Bool) (used : List Lexeme) : Type 0 where
  empty : used ≡ [] → n ≡ true → Begins ss n used
  by_token : (t : Lexeme) (more : List Lexeme) → used ≡ t ∷ more → Starts ss (t ∷ more) → Begins ss n used

starts_joined : (ss : List Terminal) (x y : List Lexeme) → Starts ss x → Starts ss (x ++ y)
starts_joined ss x y h rest = rw append_assoc (h (y ++ rest))

pub pair_begins : (ss rs : List Terminal) (n m : Bool) (x y : List Lexeme) → Begins ss n x → Begins rs m y → Begins (ss ++ cond n rs []) (n && m) (x ++ y)
pair_begins ss rs n m x y (empty ex en) (empty ey em) = empty (rw (ex, ey) refl) (rw (en, em) refl)
pair_begins ss rs n m x y (empty ex en) (by_token t more ey h) = by_token t more (rw (ex, ey) refl) (λ rest. fits_right ((t ∷ more) ++ rest) ss (cond n rs []) (rw en (h rest)))
pair_begins ss rs n m x y (by_token t more ex h) b = by_token t (more ++ y) (rw ex refl) (λ rest. fits_left ((t ∷ (more ++ y)) ++ rest) ss (cond n rs []) (starts_joined ss (t ∷ more) y h rest))

pub either_left : (ss rs : List Terminal) (n m : Bool) (x : List Lexeme) → Begins ss n x → Begins (ss ++ rs) (n || m) x
either_left ss rs n m x (empty ex en) = empty ex (or_left n m en)
either_left ss rs n m x (by_token t more ex h) = by_token t more ex (λ rest. fits_left ((t ∷ more) ++ rest) ss rs (h rest))

pub either_right : (ss rs : List Terminal) (n m : Bool) (x : List Lexeme) → Begins rs m x → Begins (ss ++ rs) (n || m) x
either_right ss rs n m x (empty ex em) = empty ex (or_right n m em)
either_right ss rs n m x (by_token t more ex h) = by_token t more ex (λ rest. fits_right ((t ∷ more) ++ rest) ss rs (h rest))

nullable_too : (ss : List Terminal) (n : Bool) (x : List Lexeme) → Begins ss n x → Begins ss true x
nullable_too ss n x (empty ex en) = empty ex refl
nullable_too ss n x (by_token t more ex h) = by_token t more ex h

joined : (ss : List Terminal) (n : Bool) (x y : List Lexeme) → Begins ss n x → Begins ss true y → Begins ss true (x ++ y)
joined ss n x y (empty ex en) (empty ey em) = empty (rw (ex, ey) refl) refl
joined ss n x y (empty ex en) (by_token t more ey h) = by_token t more (rw (ex, ey) refl) h
joined ss n x y (by_token t more ex h) b = by_token t (more ++ y) (rw ex refl) (starts_joined ss (t ∷ more) y h)

-- a token before tokens that begin so
fits_behind : (t : Lexeme) (k : TokenKind) (ts : List Lexeme) (ss : List Terminal) → eqb (kind_code t.kind) (kind_code k) ≡ true → fits_one ts ss ≡ true → fits_one (t ∷ ts) (marks_then k ss) ≡ true
fits_behind t k ts [] h e = absurd cc
fits_behind t k ts (s ∷ ss) h e =
    elim (or_true (fits ts s) (fits_one ts ss) e) [
      | inl i ↦ or_left _ _ (and_from _ _ h i)
      | inr i ↦ or_right _ _ (fits_behind t k ts ss h i)
    ]

pub ahead_begins : (k : TokenKind) (w : List ℕ) (ss : List Terminal) (n : Bool) (used : List Lexeme) → Begins ss n used → Begins (cond n (any_of k ∷ []) (marks_then k ss)) false (record { kind = k; text = w } ∷ used)
ahead_begins k w ss true used b = by_token (record { kind = k; text = w }) used refl (λ rest. or_left _ false (kind_is k))
ahead_begins k w ss false used (empty eu en) = absurd cc
ahead_begins k w ss false used (by_token t more eu h) =
    by_token (record { kind = k; text = w }) used refl (λ rest. rw eu (fits_behind (record { kind = k; text = w }) k ((t ∷ more) ++ rest) ss (kind_is k) (h rest)))

run_first : (st : Stops) (t : Lexeme) (ts us : List Lexeme) → stops_at st (t ∷ ts) ≡ false → stops_at (at_once st) (t ∷ us) ≡ false
run_first st t ts us e =
    let p = or_false (has_kind st.kinds t.kind || (eqb (kind_code t.kind) (kind_code Word) && is_one_of st.words t.text)) (has_kind st.before_equal t.kind && equal_next ts) e in
    rw p.0 refl

run_begins : (st : Stops) (used : List Lexeme) → runs st [] used ≡ true → Begins (going_on (at_once st) ∷ []) true used
run_begins st [] e = empty refl refl
run_begins st (t ∷ ts) e =
    let p = and_parts (not (stops_at st (t ∷ ts))) (for_some (step [] t.kind) (λ u. runs st u ts)) e in
    by_token t ts refl (λ rest. or_left _ false (rw (run_first st t ts (ts ++ rest) (not_true _ p.0)) refl))

pub each_begins : {A : Type 0} (P : A → List Lexeme → Type 0) (ss : List Terminal) (n : Bool) → ((a : A) (used : List Lexeme) → P a used → Begins ss n used) → (xs : List A) (used : List Lexeme) → InOrder P xs used → Begins ss true used
each_begins P ss n h [] used e = empty e refl
each_begins P ss n h (a ∷ more) used s =
    subst (λ (w : List Lexeme). Begins ss true w) (sym s.2) (joined ss n s.0 s.1 (h a s.0 s.3) (each_begins P ss n h more s.1 s.4))

pub if_begins : {A : Type 0} (P : A → List Lexeme → Type 0) (ss : List Terminal) (n : Bool) → ((a : A) (used : List Lexeme) → P a used → Begins ss n used) → (o : Option A) (used : List Lexeme) → IfThere P o used → Begins ss true used
if_begins P ss n h None used e = empty e refl
if_begins P ss n h (Some a) used s = nullable_too ss n used (h a used s)

pub entry_fits : {K : Type 0} (table : List (List ℕ × K)) (w : List ℕ) (k : K) (rest : List Lexeme) → entry table w ≡ Some k → fits_one (record { kind = Word; text = w } ∷ rest) (words_of table) ≡ true
entry_fits [] w k rest e = absurd cc
entry_fits (f ∷ fs) w k rest e = elim (test (same_text w f.0)) [ inl i ↦ or_left _ _ (and_from _ _ (kind_is Word) i) | inr i ↦ or_right _ _ (entry_fits fs w k rest (rw i at e)) ]

pub begins : {A : Type 0} (f : Form A) (a : A) (used : List Lexeme) → Spells f a used → Begins (first f) (nullable f) used
begins (exactly k s) a used e = by_token (record { kind = k; text = s }) [] e (λ rest. or_left _ false (and_from _ _ (kind_is k) (text_is s)))
begins (enclosed o c) a used s = by_token (record { kind = o; text = s.0 }) (s.1 ++ record { kind = c; text = s.2 } ∷ []) s.3 (λ rest. or_left _ false (kind_is o))
begins (up_to st) a used s = run_begins st used s.0
begins (one k) a used e = by_token (record { kind = k; text = a }) [] e (λ rest. or_left _ false (kind_is k))
begins (one_such k p) a used e = by_token (record { kind = k; text = a }) [] e.0 (λ rest. or_left _ false (and_from _ _ (kind_is k) e.1))
begins (ahead k f) a used s =
    subst (λ (w : List Lexeme). Begins (cond (nullable f) (any_of k ∷ []) (marks_then k (first f))) false w) (sym s.1) (ahead_begins k a.0 (first f) (nullable f) s.0 (begins f a.1 s.0 s.2))
begins (pair f g) a used s =
    subst (λ (w : List Lexeme). Begins (first f ++ cond (nullable f) (first g) []) (nullable f && nullable g) w) (sym s.2)
    (pair_begins (first f) (first g) (nullable f) (nullable g) s.0 s.1 (begins f a.0 s.0 s.3) (begins g a.1 s.1 s.4))
begins (either f g) a used s =
    elim s [ inl h ↦ either_left (first f) (first g) (nullable f) (nullable g) used (begins f a used h) | inr h ↦ either_right (first f) (first g) (nullable f) (nullable g) used (begins g a used h) ]
begins (mapped h f) b used s = begins f s.0 used s.2
begins (made h f) b used s = begins f s.0 used s.2
begins (by_word table f) a used s = by_token (record { kind = Word; text = s.0 }) s.2 s.3 (λ rest. entry_fits table s.0 s.1 (s.2 ++ rest) s.4)
begins (optional f) a used s = if_begins (Spells f) (first f) (nullable f) (begins f) a used s
begins (many f) a used s = each_begins (Spells f) (first f) (nullable f) (begins f) a used s

-- what is spelled opens its form, and nothing that is apart from it
pub opened : (ss : List Terminal) (n : Bool) (used rest : List Lexeme) → n ≡ false → Begins ss n used → next_in ss (used ++ rest) ≡ true
opened ss n used rest e (empty eu en) = absurd (not_both n en e)
opened ss n used rest e (by_token t more eu h) = rw eu (h rest)

pub not_opened : (ss rs : List Terminal) (n : Bool) (used rest : List Lexeme) → all_apart ss rs ≡ true → Begins rs n used → (n ≡ true → next_in ss rest ≡ false) → next_in ss (used ++ rest) ≡ false
not_opened ss rs n used rest h (empty eu en) r = rw eu (r en)
not_opened ss rs n used rest h (by_token t more eu f) r = rw eu (all_apart_none ((t ∷ more) ++ rest) ss rs h (f rest))

pub not_empty : (ss : List Terminal) (n : Bool) (used : List Lexeme) → n ≡ false → Begins ss n used → (k : ℕ) × (length used ≡ suc k)
not_empty ss n used e (empty eu en) = absurd (not_both n en e)
not_empty ss n used e (by_token t more eu h) = (length more, rw eu refl)

pub later : {A : Type 0} (P : A → List Lexeme → Type 0) (ss : List Terminal) (n : Bool) → ((a : A) (used : List Lexeme) → P a used → Begins ss n used) → (xs : List A) (used : List Lexeme) → InOrder P xs used → Begins ss true used
later P ss n h xs used s = each_begins P ss n h xs used s

pub nothing_next : (rest : List Lexeme) → next_in [] rest ≡ false
nothing_next [] = refl
nothing_next (t ∷ ts) = refl
