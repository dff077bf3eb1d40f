-- Which tokens a text has: the table of tokens, the longest token at a place, and the tokens of a text from left to right.
use Rattle.std.specs.Prelude.{◌≡◌, ◌≤◌, ◌<◌, ◌+◌, ℕ, Bool, true, false, not, ◌&&◌, ◌||◌, ◌==◌, nat_le, List, [], ◌∷◌, ◌++◌, length, drop, Option, Some, None, if◌then◌else◌}
use Rattle.std.specs.List.{AllByRecursion}
use Rattle.text_forms.specs.declared.TokenKind.{TokenKind}
use Rattle.text_forms.specs.declared.TokenKind.TheVariants.{Quoted, Local, Global, Comdat, Label, Word, Number, TextConstant, Metadata, AttributeGroup, Dots, Equal, Comma, LeftParen, RightParen, LeftBracket, RightBracket, LeftBrace, RightBrace, Less, Greater, Star, Bang, Colon, Bar, Decimal, Hexadecimal, NamedGroup}
use Rattle.text_forms.specs.Form.{Lexeme}
use Rattle.text_forms.specs.declared.Class.{Class}
use Rattle.text_forms.specs.declared.Class.TheVariants.{Byte, Digit, HexDigit, NameStart, NamePart, WordStart, WordPart, Exponent, Sign, NotQuote}
use Rattle.text_forms.specs.declared.Part.{Part}
use Rattle.text_forms.specs.declared.Part.TheVariants.{One, Perhaps, Run}
use Rattle.text_forms.specs.declared.Token.{Token}

-- `0` to `9`
abbrev pub is_digit : ℕ → Bool
is_digit c = nat_le 48 c && nat_le c 57

-- `A` to `Z` and `a` to `z`
abbrev pub is_letter : ℕ → Bool
is_letter c = (nat_le 65 c && nat_le c 90) || (nat_le 97 c && nat_le c 122)

-- a digit, `A` to `F` or `a` to `f`
abbrev pub is_hex : ℕ → Bool
is_hex c = is_digit c || ((nat_le 65 c && nat_le c 70) || (nat_le 97 c && nat_le c 102))

-- a letter or one of `- $ . _`
abbrev pub begins_name : ℕ → Bool
begins_name c = is_letter c || ((c == 45) || ((c == 36) || ((c == 46) || (c == 95))))

-- the bytes of a class
abbrev pub has : Class → ℕ → Bool
has (Byte b) c = c == b
has Digit c = is_digit c
has HexDigit c = is_hex c
has NameStart c = begins_name c
has NamePart c = begins_name c || is_digit c
has WordStart c = is_letter c || (c == 95)
has WordPart c = is_letter c || (is_digit c || ((c == 95) || (c == 46)))
has Exponent c = (c == 101) || (c == 69)
has Sign c = (c == 43) || (c == 45)
has NotQuote c = not (c == 34)

-- ---- the bytes that stand in many rows

-- `"`
abbrev quote : ℕ
quote = 34

-- `:`
abbrev colon : ℕ
colon = 58

-- `-`
abbrev minus : ℕ
minus = 45

-- `.`
abbrev point : ℕ
point = 46

-- `0`
abbrev zero_digit : ℕ
zero_digit = 48

-- `x`
abbrev small_x : ℕ
small_x = 120

-- `c`
abbrev small_c : ℕ
small_c = 99

-- `$`
abbrev dollar : ℕ
dollar = 36

-- `%`
abbrev percent : ℕ
percent = 37

-- `@`
abbrev at_sign : ℕ
at_sign = 64

-- `!`
abbrev bang : ℕ
bang = 33

-- `#`
abbrev hash : ℕ
hash = 35

-- ---- tokens

-- each kind of token, and the parts of which it consists
unfoldable pub table : List (TokenKind × List Part)
table =
    (Label, One (Byte quote) ∷ Run NotQuote ∷ One (Byte quote) ∷ One (Byte colon) ∷ []) ∷
    (Quoted, One (Byte quote) ∷ Run NotQuote ∷ One (Byte quote) ∷ []) ∷
    (Label, One NameStart ∷ Run NamePart ∷ One (Byte colon) ∷ []) ∷
    (Label, One Digit ∷ Run Digit ∷ One (Byte colon) ∷ []) ∷
    (Number, Perhaps (Byte minus) ∷ One Digit ∷ Run Digit ∷ []) ∷
    (Decimal, Perhaps (Byte minus) ∷ One Digit ∷ Run Digit ∷ One (Byte point) ∷ One Digit ∷ Run Digit ∷ []) ∷
    (Decimal, Perhaps (Byte minus) ∷ One Digit ∷ Run Digit ∷ One (Byte point) ∷ One Digit ∷ Run Digit ∷ One Exponent ∷ Perhaps Sign ∷ One Digit ∷ Run Digit ∷ []) ∷
    (Hexadecimal, One (Byte zero_digit) ∷ One (Byte small_x) ∷ One HexDigit ∷ Run HexDigit ∷ []) ∷
    (Word, One WordStart ∷ Run WordPart ∷ []) ∷
    (TextConstant, One (Byte small_c) ∷ One (Byte quote) ∷ Run NotQuote ∷ One (Byte quote) ∷ []) ∷
    (Dots, One (Byte point) ∷ One (Byte point) ∷ One (Byte point) ∷ []) ∷
    (Comdat, One (Byte dollar) ∷ One NameStart ∷ Run NamePart ∷ []) ∷
    (Comdat, One (Byte dollar) ∷ One (Byte quote) ∷ Run NotQuote ∷ One (Byte quote) ∷ []) ∷
    (Local, One (Byte percent) ∷ One NameStart ∷ Run NamePart ∷ []) ∷
    (Local, One (Byte percent) ∷ One (Byte quote) ∷ Run NotQuote ∷ One (Byte quote) ∷ []) ∷
    (Local, One (Byte percent) ∷ One Digit ∷ Run Digit ∷ []) ∷
    (Global, One (Byte at_sign) ∷ One NameStart ∷ Run NamePart ∷ []) ∷
    (Global, One (Byte at_sign) ∷ One (Byte quote) ∷ Run NotQuote ∷ One (Byte quote) ∷ []) ∷
    (Global, One (Byte at_sign) ∷ One Digit ∷ Run Digit ∷ []) ∷
    (Metadata, One (Byte bang) ∷ One NameStart ∷ Run NamePart ∷ []) ∷
    (Metadata, One (Byte bang) ∷ One Digit ∷ Run Digit ∷ []) ∷
    (Bang, One (Byte bang) ∷ []) ∷
    (AttributeGroup, One (Byte hash) ∷ One Digit ∷ Run Digit ∷ []) ∷
    (NamedGroup, One (Byte hash) ∷ One NameStart ∷ Run NamePart ∷ []) ∷
    (Equal, One (Byte 61) ∷ []) ∷
    (Comma, One (Byte 44) ∷ []) ∷
    (LeftParen, One (Byte 40) ∷ []) ∷
    (RightParen, One (Byte 41) ∷ []) ∷
    (LeftBracket, One (Byte 91) ∷ []) ∷
    (RightBracket, One (Byte 93) ∷ []) ∷
    (LeftBrace, One (Byte 123) ∷ []) ∷
    (RightBrace, One (Byte 125) ∷ []) ∷
    (Less, One (Byte 60) ∷ []) ∷
    (Greater, One (Byte 62) ∷ []) ∷
    (Star, One (Byte 42) ∷ []) ∷
    (Colon, One (Byte colon) ∷ []) ∷
    (Bar, One (Byte 124) ∷ []) ∷
    []

-- the parts that may follow behind this byte, where it may stand here: a run takes all it can, which is right since no part behind a run
-- begins with a byte of it
abbrev pub after : List Part → ℕ → Option (List Part)
after [] c = None
after (One p ∷ ps) c = if has p c then Some ps else None
after (Perhaps p ∷ ps) c = if has p c then Some ps else after ps c
after (Run p ∷ ps) c = if has p c then Some (Run p ∷ ps) else after ps c

-- no byte is needed any more
abbrev pub may_end : List Part → Bool
may_end [] = true
may_end (One p ∷ ps) = false
may_end (Perhaps p ∷ ps) = may_end ps
may_end (Run p ∷ ps) = may_end ps

-- what a function makes of a value; where there is none, the other value
abbrev pub and_then : {A B : Type 0} → Option A → (A → B) → B → B
and_then None f b = b
and_then (Some a) f b = f a

-- the parts spell this text
abbrev pub spells : List Part → List ℕ → Bool
spells ps [] = may_end ps
spells ps (c ∷ cs) = and_then (after ps c) (λ qs. spells qs cs) false

-- the kind of the first row whose parts spell the text
abbrev pub kind_by : List (TokenKind × List Part) → List ℕ → Option TokenKind
kind_by [] w = None
kind_by (r ∷ rs) w = if spells r.1 w then Some r.0 else kind_by rs w

-- the kind of the one token that a text is
abbrev pub kind_of : List ℕ → Option TokenKind
kind_of w = kind_by table w

-- each token is of the kind of its text
abbrev pub AreLexed : List Lexeme → Type 0
AreLexed ts = AllByRecursion (λ t. kind_of t.text ≡ Some t.kind) ts

-- the longest front of the text that is a token
pub record Longest (text : List ℕ) (kind : TokenKind) (word rest : List ℕ) : Type 0 where
  pub parts : text ≡ word ++ rest
  pub token : kind_of word ≡ Some kind
  pub longest : (other : TokenKind) (longer more : List ℕ) → text ≡ longer ++ more → kind_of longer ≡ Some other → length longer ≤ length word

-- no front of the text is a token
abbrev pub NoToken : List ℕ → Type 0
NoToken text = (other : TokenKind) (longer more : List ℕ) → text ≡ longer ++ more → kind_of longer ≡ Some other → ⊥

-- a blank, a tab, a line feed or a carriage return
abbrev pub is_space : ℕ → Bool
is_space c = (c == 32) || ((c == 9) || ((c == 10) || (c == 13)))

-- behind the end of the line
abbrev pub next_line : List ℕ → List ℕ
next_line [] = []
next_line (c ∷ cs) = if (c == 10) || (c == 13) then cs else next_line cs

-- from left to right, the tokens of a text up to a rest of it
pub data LexesTo : List ℕ → List Lexeme → List ℕ → Type 0 where
  -- no token, up to here
  here : {text : List ℕ} → LexesTo text [] text
  -- white space stands in front
  space : (c : ℕ) {cs rest : List ℕ} {ts : List Lexeme} → is_space c ≡ true → LexesTo cs ts rest → LexesTo (c ∷ cs) ts rest
  -- a comment, from `;` to the end of its line
  comment : (c : ℕ) {cs rest : List ℕ} {ts : List Lexeme} → c ≡ 59 → LexesTo (next_line cs) ts rest → LexesTo (c ∷ cs) ts rest
  -- the longest token at the place
  token : {text : List ℕ} (kind : TokenKind) (word : List ℕ) {behind rest : List ℕ} {ts : List Lexeme} → Longest text kind word behind → LexesTo behind ts rest → LexesTo text (record { kind = kind; text = word } ∷ ts) rest

-- the tokens of a text
abbrev pub Lexes : List ℕ → List Lexeme → Type 0
Lexes text ts = LexesTo text ts []

-- the same with the places of the tokens, in a text of this size
pub data Places (size : ℕ) : List ℕ → List Token → List ℕ → Type 0 where
  here_placed : {text : List ℕ} → Places size text [] text
  space_placed : (c : ℕ) {cs rest : List ℕ} {ts : List Token} → is_space c ≡ true → Places size cs ts rest → Places size (c ∷ cs) ts rest
  comment_placed : (c : ℕ) {cs rest : List ℕ} {ts : List Token} → c ≡ 59 → Places size (next_line cs) ts rest → Places size (c ∷ cs) ts rest
  token_placed : {text : List ℕ} (t : Token) (word : List ℕ) {behind rest : List ℕ} {ts : List Token} → t.start + length text ≡ size → t.end + length behind ≡ size → Longest text t.kind word behind → Places size behind ts rest → Places size text (t ∷ ts) rest

-- white space or a comment begins
abbrev pub is_blank : List ℕ → Bool
is_blank [] = false
is_blank (c ∷ cs) = is_space c || (c == 59)

-- the text is read up to this place, where no token begins
pub record StopsAt (text : List ℕ) (place : ℕ) : Type 0 where
  pub before : List Lexeme
  pub reads : LexesTo text before (drop place text)
  pub within : place < length text
  pub filled : is_blank (drop place text) ≡ false
  pub none : NoToken (drop place text)
