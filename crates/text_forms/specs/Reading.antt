-- Reading a form from left to right, with one token ahead.
use Rattle.std.specs.Prelude.{ℕ, zero, suc, Bool, true, false, not, ◌&&◌, ◌||◌, List, [], ◌∷◌, ◌++◌, length, Option, Some, None, ◌==◌, if◌then◌else◌}
use Rattle.text_forms.specs.declared.TokenKind.{TokenKind}
use Rattle.text_forms.specs.declared.TokenKind.TheVariants.{Word, Equal}
use Rattle.text_forms.specs.Form.{kind_code, is_closer, is_empty, step, has_kind, Stops, stops_at, Lexeme, Form, exactly, one, one_such, ahead, enclosed, up_to, pair, either, mapped, made, optional, many, by_word, same_text, is_one_of, entry}
pub use Rattle.text_forms.specs.Bind.{◌>>=◌}

-- what a token can be asked for
pub data Terminal : Type 0 where
  -- to be this token, by its kind and text
  this : TokenKind → List ℕ → Terminal
  -- to be of this kind
  any_of : TokenKind → Terminal
  -- to be of this kind, with a text that passes the test
  any_such : TokenKind → (List ℕ → Bool) → Terminal
  -- to be of this kind, and what the token behind it can be asked for
  mark_then : TokenKind → Terminal → Terminal
  -- a token, and no stop
  going_on : Stops → Terminal

-- the first of the tokens is what is asked for
abbrev pub fits : List Lexeme → Terminal → Bool
fits [] s = false
fits (t ∷ ts) (this k s) = (kind_code t.kind == kind_code k) && same_text t.text s
fits (t ∷ ts) (any_of k) = kind_code t.kind == kind_code k
fits (t ∷ ts) (any_such k p) = (kind_code t.kind == kind_code k) && p t.text
fits (t ∷ ts) (mark_then k s) = (kind_code t.kind == kind_code k) && fits ts s
fits (t ∷ ts) (going_on st) = not (stops_at st (t ∷ ts))

-- it is one of what is asked for
abbrev pub fits_one : List Lexeme → List Terminal → Bool
fits_one ts [] = false
fits_one ts (s ∷ ss) = fits ts s || fits_one ts ss

-- the next tokens are some of these
abbrev pub next_in : List Terminal → List Lexeme → Bool
next_in ss [] = false
next_in ss (t ∷ ts) = fits_one (t ∷ ts) ss

-- no token may spell a value
abbrev pub nullable : {A : Type 0} → Form A → Bool
nullable (exactly k s) = false
nullable (one k) = false
nullable (one_such k p) = false
nullable (ahead k f) = false
nullable (enclosed o c) = false
nullable (up_to st) = true
nullable (pair f g) = nullable f && nullable g
nullable (either f g) = nullable f || nullable g
nullable (mapped h f) = nullable f
nullable (made h f) = nullable f
nullable (by_word table f) = false
nullable (optional f) = true
nullable (many f) = true

-- the words of a table
abbrev pub words_of : {K : Type 0} → List (List ℕ × K) → List Terminal
words_of [] = []
words_of (e ∷ es) = this Word e.0 ∷ words_of es

-- what a function makes of the entries, one behind the other
abbrev pub of_all : {K : Type 0} → List (List ℕ × K) → (K → List Terminal) → List Terminal
of_all [] g = []
of_all (e ∷ es) g = g e.1 ++ of_all es g

-- the test holds for each entry
abbrev pub for_all : {K : Type 0} → List (List ℕ × K) → (K → Bool) → Bool
for_all [] p = true
for_all (e ∷ es) p = p e.1 && for_all es p

-- each of these behind a token of the kind
abbrev pub marks_then : TokenKind → List Terminal → List Terminal
marks_then k [] = []
marks_then k (s ∷ ss) = mark_then k s ∷ marks_then k ss

-- the stops that one token shows
abbrev pub at_once : Stops → Stops
at_once st = record { kinds = st.kinds; words = st.words; before_equal = [] }

-- with which tokens a value can begin
abbrev pub first : {A : Type 0} → Form A → List Terminal
first (exactly k s) = this k s ∷ []
first (one k) = any_of k ∷ []
first (enclosed o c) = any_of o ∷ []
first (up_to st) = going_on (at_once st) ∷ []
first (one_such k p) = any_such k p ∷ []
first (ahead k f) = if nullable f then any_of k ∷ [] else marks_then k (first f)
first (pair f g) = first f ++ (if nullable f then first g else [])
first (either f g) = first f ++ first g
first (mapped h f) = first f
first (made h f) = first f
first (by_word table f) = words_of table
first (optional f) = first f
first (many f) = first f

-- with which tokens a value could go on
abbrev pub after : {A : Type 0} → Form A → List Terminal
after (exactly k s) = []
after (one k) = []
after (enclosed o c) = []
after (up_to st) = going_on st ∷ []
after (one_such k p) = []
after (ahead k f) = after f
after (pair f g) = after g ++ (if nullable g then after f else [])
after (either f g) = after f ++ after g
after (mapped h f) = after f
after (made h f) = after f
after (by_word table f) = of_all table (λ k. after (f k))
after (optional f) = first f ++ after f
after (many f) = first f ++ after f

-- the next token can begin a value
abbrev pub opens : {A : Type 0} → Form A → List Lexeme → Bool
opens f ts = next_in (first f) ts

-- value after value, as long as the test lets another begin, and so many at most
abbrev pub read_each : {A : Type 0} → (List Lexeme → Bool) → (List Lexeme → Option (A × List Lexeme)) → ℕ → List Lexeme → Option (List A × List Lexeme)
read_each p r zero ts = Some ([], ts)
read_each p r (suc n) ts = if p ts then (r ts >>= λ x. read_each p r n x.1 >>= λ y. Some (x.0 ∷ y.0, y.1)) else Some ([], ts)

-- the token of this kind and text
abbrev pub read_exactly : TokenKind → List ℕ → List Lexeme → Option (Unit {0} × List Lexeme)
read_exactly k s [] = None
read_exactly k s (t ∷ ts) = if fits (t ∷ ts) (this k s) then Some (tt, ts) else None

-- the text of a token of this kind
abbrev pub read_one : TokenKind → List Lexeme → Option (List ℕ × List Lexeme)
read_one k [] = None
read_one k (t ∷ ts) = if fits (t ∷ ts) (any_of k) then Some (t.text, ts) else None

-- the same, where it passes the test
abbrev pub read_one_such : TokenKind → (List ℕ → Bool) → List Lexeme → Option (List ℕ × List Lexeme)
read_one_such k p [] = None
read_one_such k p (t ∷ ts) = if fits (t ∷ ts) (any_such k p) then Some (t.text, ts) else None

-- one value and then another
abbrev pub read_pair : {A B : Type 0} → (List Lexeme → Option (A × List Lexeme)) → (List Lexeme → Option (B × List Lexeme)) → List Lexeme → Option ((A × B) × List Lexeme)
read_pair r s ts = r ts >>= λ x. s x.1 >>= λ y. Some ((x.0, y.0), y.1)

-- the token closes, where nothing else is awaited
abbrev pub ends : TokenKind → List TokenKind → TokenKind → Bool
ends c [] k = kind_code k == kind_code c
ends c (y ∷ s) k = false

-- the tokens up to the one that closes, with that one
abbrev pub read_inside : TokenKind → List TokenKind → List Lexeme → Option (List Lexeme × List Lexeme)
read_inside c s [] = None
read_inside c s (t ∷ ts) = if ends c s t.kind then Some (t ∷ [], ts) else (step s t.kind >>= λ u. read_inside c u ts >>= λ y. Some (t ∷ y.0, y.1))

-- the texts up to a stop outside brackets, or to the end
abbrev pub read_up_to : Stops → List TokenKind → List Lexeme → Option (List (List ℕ) × List Lexeme)
read_up_to st s [] = if is_empty s then Some ([], []) else None
read_up_to st s (t ∷ ts) = if is_empty s && stops_at st (t ∷ ts) then Some ([], t ∷ ts) else (step s t.kind >>= λ u. read_up_to st u ts >>= λ y. Some (t.text ∷ y.0, y.1))

-- a word of the table, and what it chooses
abbrev pub read_by_word : {K A : Type 0} → List (List ℕ × K) → (K → List Lexeme → Option (A × List Lexeme)) → List Lexeme → Option (A × List Lexeme)
read_by_word table r [] = None
read_by_word table r (t ∷ ts) = if kind_code t.kind == kind_code Word then (entry table t.text >>= λ k. r k ts) else None

-- the value that the tokens begin with, and the tokens behind it
abbrev pub read : {A : Type 0} → Form A → List Lexeme → Option (A × List Lexeme)
read (exactly k s) ts = read_exactly k s ts
read (one k) ts = read_one k ts
read (enclosed o c) ts = read_one o ts >>= λ x. read_inside c [] x.1 >>= λ y. Some (record { kind = o; text = x.0 } ∷ y.0, y.1)
read (up_to st) ts = read_up_to st [] ts
read (one_such k p) ts = read_one_such k p ts
read (ahead k f) ts = read_pair (read_one k) (read f) ts
read (pair f g) ts = read_pair (read f) (read g) ts
read (either f g) ts = if opens f ts then read f ts else read g ts
read (mapped h f) ts = read f ts >>= λ x. Some (h x.0, x.1)
read (made h f) ts = read f ts >>= λ x. h x.0 >>= λ b. Some (b, x.1)
read (by_word table f) ts = read_by_word table (λ k us. read (f k) us) ts
read (optional f) ts = if opens f ts then (read f ts >>= λ x. Some (Some x.0, x.1)) else Some (None, ts)
read (many f) ts = read_each (opens f) (read f) (length ts) ts

-- the kind of the token; nothing asks it of what goes on
abbrev pub kind_of : Terminal → TokenKind
kind_of (this k s) = k
kind_of (any_of k) = k
kind_of (any_such k p) = k
kind_of (mark_then k s) = k
kind_of (going_on st) = Word

-- what fits is a stop
abbrev pub is_stop : Stops → Terminal → Bool
is_stop st (this k s) = has_kind st.kinds k || ((kind_code k == kind_code Word) && is_one_of st.words s)
is_stop st (mark_then k (any_of l)) = has_kind st.kinds k || (has_kind st.before_equal k && (kind_code l == kind_code Equal))
is_stop st (going_on su) = false
is_stop st s = has_kind st.kinds (kind_of s)

-- no tokens fit both
abbrev pub apart : Terminal → Terminal → Bool
apart (this k s) (this l r) = not (kind_code k == kind_code l) || not (same_text s r)
apart (this k s) (any_such l p) = not (kind_code k == kind_code l) || not (p s)
apart (any_such k p) (this l s) = not (kind_code k == kind_code l) || not (p s)
apart (mark_then k s) (mark_then l r) = not (kind_code k == kind_code l) || apart s r
apart (going_on st) r = is_stop st r
apart s (going_on st) = is_stop st s
apart s r = not (kind_code (kind_of s) == kind_code (kind_of r))

-- no tokens fit this and one of those
abbrev pub apart_from : Terminal → List Terminal → Bool
apart_from s [] = true
apart_from s (r ∷ rs) = apart s r && apart_from s rs

-- no tokens fit one of these and one of those
abbrev pub all_apart : List Terminal → List Terminal → Bool
all_apart [] rs = true
all_apart (s ∷ ss) rs = apart_from s rs && all_apart ss rs

-- one token ahead decides
abbrev pub decides : {A : Type 0} → Form A → Bool
decides (exactly k s) = true
decides (one k) = true
decides (enclosed o c) = is_closer c
decides (up_to st) = not (has_kind st.kinds Equal) && not (has_kind st.before_equal Equal)
decides (one_such k p) = true
decides (ahead k f) = decides f
decides (pair f g) = decides f && (decides g && all_apart (after f) (first g))
decides (either f g) = decides f && (decides g && (not (nullable f || nullable g) && all_apart (first f) (first g)))
decides (mapped h f) = decides f
decides (made h f) = decides f
decides (by_word table f) = for_all table (λ k. decides (f k))
decides (optional f) = decides f && not (nullable f)
decides (many f) = decides f && (not (nullable f) && all_apart (after f) (first f))

-- all of the tokens
abbrev pub read_whole : {A : Type 0} → Form A → List Lexeme → Option A
read_whole f ts = read f ts >>= λ x. if length x.1 == 0 then Some x.0 else None
