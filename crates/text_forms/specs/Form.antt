-- A grammar as data, and which tokens spell a value by it.
use Rattle.std.specs.Prelude.{◌≡◌, ℕ, List, [], ◌∷◌, ◌++◌, Option, Some, None, ◌⊎◌, Bool, true, false, not, map, ◌&&◌, ◌||◌, ◌==◌, ◌≤◌, length, if◌then◌else◌}
use Rattle.text_forms.specs.declared.TokenKind.TheVariants.{Quoted, Local, Global, Comdat, Label, Word, Number, TextConstant, Metadata, AttributeGroup, Dots, Equal, Comma, LeftParen, RightParen, LeftBracket, RightBracket, LeftBrace, RightBrace, Less, Greater, Star, Bang, Colon, Bar, Decimal, Hexadecimal, NamedGroup}
use Rattle.text_forms.specs.declared.TokenKind.{TokenKind}

-- a token: its kind, and its text
pub record Lexeme : Type 0 where
  pub kind : TokenKind
  pub text : List ℕ

-- the two texts are equal
abbrev pub same_text : List ℕ → List ℕ → Bool
same_text [] [] = true
same_text [] (y ∷ ys) = false
same_text (x ∷ xs) [] = false
same_text (x ∷ xs) (y ∷ ys) = (x == y) && same_text xs ys

-- the text is one of these
abbrev pub is_one_of : List (List ℕ) → List ℕ → Bool
is_one_of [] w = false
is_one_of (v ∷ vs) w = same_text v w || is_one_of vs w

-- the text is none of these
abbrev pub is_none_of : List (List ℕ) → List ℕ → Bool
is_none_of ws w = not (is_one_of ws w)

-- a number for each kind, by which a test can compare them: different kinds have different numbers (proofs/Tokens.antt, `same_kind`)
abbrev pub kind_code : TokenKind → ℕ
kind_code Quoted = 0
kind_code Local = 1
kind_code Global = 2
kind_code Comdat = 3
kind_code Label = 4
kind_code Word = 5
kind_code Number = 6
kind_code TextConstant = 7
kind_code Metadata = 8
kind_code AttributeGroup = 9
kind_code Dots = 10
kind_code Equal = 11
kind_code Comma = 12
kind_code LeftParen = 13
kind_code RightParen = 14
kind_code LeftBracket = 15
kind_code RightBracket = 16
kind_code LeftBrace = 17
kind_code RightBrace = 18
kind_code Less = 19
kind_code Greater = 20
kind_code Star = 21
kind_code Bang = 22
kind_code Colon = 23
kind_code Bar = 24
kind_code Decimal = 25
kind_code Hexadecimal = 26
kind_code NamedGroup = 27

-- the kind is one of these
abbrev pub has_kind : List TokenKind → TokenKind → Bool
has_kind [] k = false
has_kind (l ∷ ls) k = (kind_code l == kind_code k) || has_kind ls k

-- ---- brackets: a stack holds the kinds that are awaited, the next one first

-- what closes that which a token opens
abbrev pub closer : TokenKind → Option TokenKind
closer LeftParen = Some RightParen
closer LeftBracket = Some RightBracket
closer LeftBrace = Some RightBrace
closer Less = Some Greater
closer k = None

-- tokens of this kind close something
abbrev pub is_closer : TokenKind → Bool
is_closer RightParen = true
is_closer RightBracket = true
is_closer RightBrace = true
is_closer Greater = true
is_closer k = false

-- what is awaited behind a token that closes: it must be the next that is awaited
abbrev pub closed : List TokenKind → TokenKind → Option (List TokenKind)
closed [] k = None
closed (c ∷ s) k = if kind_code c == kind_code k then Some s else None

-- what is awaited behind a token, which opens something where something closes it
abbrev pub opened : List TokenKind → TokenKind → Option TokenKind → Option (List TokenKind)
opened s k (Some c) = Some (c ∷ s)
opened s k None = if is_closer k then closed s k else Some s

-- what is awaited behind one more token
abbrev pub step : List TokenKind → TokenKind → Option (List TokenKind)
step s k = opened s k (closer k)

-- nothing is awaited
abbrev pub is_empty : List TokenKind → Bool
is_empty [] = true
is_empty (c ∷ s) = false

-- there is something, and the test holds for it
abbrev pub for_some : Option (List TokenKind) → (List TokenKind → Bool) → Bool
for_some None p = false
for_some (Some s) p = p s

-- the tokens close what is awaited and what they open, and nothing else
abbrev pub nests : List TokenKind → List Lexeme → Bool
nests s [] = is_empty s
nests s (t ∷ ts) = for_some (step s t.kind) (λ u. nests u ts)

-- where a run ends: at these kinds, at these words, and at these kinds where `=` is behind
pub record Stops : Type 0 where
  pub kinds : List TokenKind
  pub words : List (List ℕ)
  pub before_equal : List TokenKind

-- the next token is `=`
abbrev pub equal_next : List Lexeme → Bool
equal_next [] = false
equal_next (t ∷ ts) = kind_code t.kind == kind_code Equal

-- the next token is a stop
abbrev pub stops_at : Stops → List Lexeme → Bool
stops_at st [] = false
stops_at st (t ∷ ts) = (has_kind st.kinds t.kind || ((kind_code t.kind == kind_code Word) && is_one_of st.words t.text)) || (has_kind st.before_equal t.kind && equal_next ts)

-- the same as `nests`, and no stop stands where nothing is awaited
abbrev pub runs : Stops → List TokenKind → List Lexeme → Bool
runs st s [] = is_empty s
runs st s (t ∷ ts) = not (is_empty s && stops_at st (t ∷ ts)) && for_some (step s t.kind) (λ u. runs st u ts)

-- the texts of the tokens
abbrev pub texts : List Lexeme → List (List ℕ)
texts ts = map (λ t. t.text) ts

-- a form says how the values of a type are spelled
pub data Form : Type 0 → Type 1 where
  -- the token of this kind and text
  exactly : TokenKind → List ℕ → Form (Unit {0})
  -- a token of this kind, as its text
  one : TokenKind → Form (List ℕ)
  -- a token of this kind whose text passes the test, as that text
  one_such : TokenKind → (List ℕ → Bool) → Form (List ℕ)
  -- a token of this kind, as its text, and a form behind it: read only where the form's beginning stands behind the token
  ahead : {A : Type 0} → TokenKind → Form A → Form (List ℕ × A)
  -- a token of the first kind, a balanced list and a token of the second, which closes it, as all these tokens
  enclosed : TokenKind → TokenKind → Form (List Lexeme)
  -- a balanced list with no stop outside brackets, as its texts
  up_to : Stops → Form (List (List ℕ))
  -- one form behind the other
  pair : {A B : Type 0} → Form A → Form B → Form (A × B)
  -- the one or the other
  either : {A : Type 0} → Form A → Form A → Form A
  -- what a function makes of it
  mapped : {A B : Type 0} → (A → B) → Form A → Form B
  -- what a function makes of it, where it makes something
  made : {A B : Type 0} → (A → Option B) → Form A → Form B
  -- once or not at all
  optional : {A : Type 0} → Form A → Form (Option A)
  -- a word of the table, and behind it the form that the word chooses
  by_word : {K A : Type 0} → List (List ℕ × K) → (K → Form A) → Form A
  -- as often as there is another
  many : {A : Type 0} → Form A → Form (List A)

-- the values one behind the other
abbrev pub InOrder : {A : Type 0} → (A → List Lexeme → Type 0) → List A → List Lexeme → Type 0
InOrder P [] ts = ts ≡ []
InOrder P (a ∷ more) ts = (x : List Lexeme) × (y : List Lexeme) × (ts ≡ x ++ y) × P a x × InOrder P more y

-- the value where there is one, and no token where there is none
abbrev pub IfThere : {A : Type 0} → (A → List Lexeme → Type 0) → Option A → List Lexeme → Type 0
IfThere P None ts = ts ≡ []
IfThere P (Some a) ts = P a ts

-- what the table has for a word: its first entry counts
abbrev pub entry : {K : Type 0} → List (List ℕ × K) → List ℕ → Option K
entry [] w = None
entry (e ∷ es) w = if same_text w e.0 then Some e.1 else entry es w

-- by this form the tokens spell this value
abbrev pub Spells : {A : Type 0} → Form A → A → List Lexeme → Type 0
Spells (exactly k s) a ts = ts ≡ record { kind = k; text = s } ∷ []
Spells (one k) a ts = ts ≡ record { kind = k; text = a } ∷ []
Spells (one_such k p) a ts = (ts ≡ record { kind = k; text = a } ∷ []) × (p a ≡ true)
Spells (enclosed o c) a ts = (v : List ℕ) × (inner : List Lexeme) × (w : List ℕ) × (ts ≡ record { kind = o; text = v } ∷ (inner ++ record { kind = c; text = w } ∷ [])) × (nests [] inner ≡ true) × (a ≡ ts)
Spells (up_to st) a ts = (runs st [] ts ≡ true) × (a ≡ texts ts)
Spells (ahead k f) a ts = (rest : List Lexeme) × (ts ≡ record { kind = k; text = a.0 } ∷ rest) × Spells f a.1 rest
Spells (pair f g) a ts = (x : List Lexeme) × (y : List Lexeme) × (ts ≡ x ++ y) × Spells f a.0 x × Spells g a.1 y
Spells (either f g) a ts = Spells f a ts ⊎ Spells g a ts
Spells (mapped {A} {B} h f) b ts = (a : A) × (h a ≡ b) × Spells f a ts
Spells (made {A} {B} h f) b ts = (a : A) × (h a ≡ Some b) × Spells f a ts
Spells (by_word {K} table f) a ts = (w : List ℕ) × (k : K) × (rest : List Lexeme) × (ts ≡ record { kind = Word; text = w } ∷ rest) × (entry table w ≡ Some k) × Spells (f k) a rest
Spells (optional f) a ts = IfThere (Spells f) a ts
Spells (many f) a ts = InOrder (Spells f) a ts
