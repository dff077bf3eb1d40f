-- What parts spell, one behind the other.
use Rattle.std.specs.Prelude.{◌≡◌, ℕ, Bool, true, false, not, ◌&&◌, ◌||◌, List, [], ◌∷◌, ◌++◌, ◌⊎◌}
use Rattle.text_forms.specs.declared.TokenKind.{TokenKind}
use Rattle.text_forms.specs.declared.Class.{Class}
use Rattle.text_forms.specs.declared.Class.TheVariants.{Byte, Digit, HexDigit, NameStart, NamePart, WordStart, WordPart, Exponent, Sign, NotQuote}
use Rattle.text_forms.specs.declared.Part.{Part}
use Rattle.text_forms.specs.declared.Part.TheVariants.{One, Perhaps, Run}
use Rattle.text_forms.specs.Lexical.{has}
use Rattle.text_lex.specs.Neighbours.{all_of}

-- the word is what the parts say, one behind the other: one byte, a byte or none, as many as there are
abbrev pub Spelled : List Part → List ℕ → Type 0
Spelled [] w = w ≡ []
Spelled (One p ∷ ps) w = (c : ℕ) × (v : List ℕ) × (w ≡ c ∷ v) × (has p c ≡ true) × Spelled ps v
Spelled (Perhaps p ∷ ps) w = Spelled ps w ⊎ ((c : ℕ) × (v : List ℕ) × (w ≡ c ∷ v) × (has p c ≡ true) × Spelled ps v)
Spelled (Run p ∷ ps) w = (u : List ℕ) × (v : List ℕ) × (w ≡ u ++ v) × (all_of (has p) u ≡ true) × Spelled ps v

-- the bytes of a class of few
abbrev pub few : Class → List ℕ
few (Byte b) = b ∷ []
few Digit = []
few HexDigit = []
few NameStart = []
few NamePart = []
few WordStart = []
few WordPart = []
few Exponent = 101 ∷ 69 ∷ []
few Sign = 43 ∷ 45 ∷ []
few NotQuote = []

-- the class is one of few bytes
abbrev pub is_few : Class → Bool
is_few (Byte b) = true
is_few Digit = false
is_few HexDigit = false
is_few NameStart = false
is_few NamePart = false
is_few WordStart = false
is_few WordPart = false
is_few Exponent = true
is_few Sign = true
is_few NotQuote = false

-- the two classes share no byte, as far as this test sees
abbrev pub apart : Class → Class → Bool
apart p q = (is_few q && all_of (λ c. not (has p c)) (few q)) || (is_few p && all_of (λ c. not (has q c)) (few p))

-- nothing that the parts spell begins with a byte of the class
abbrev pub none_begins : Class → List Part → Bool
none_begins p [] = true
none_begins p (One q ∷ ps) = apart p q
none_begins p (Perhaps q ∷ ps) = apart p q && none_begins p ps
none_begins p (Run q ∷ ps) = apart p q && none_begins p ps

-- a byte that may be one of a part is not the first of what follows
abbrev pub decides : List Part → Bool
decides [] = true
decides (One p ∷ ps) = decides ps
decides (Perhaps p ∷ ps) = none_begins p ps && decides ps
decides (Run p ∷ ps) = none_begins p ps && decides ps

-- so it is in each row
abbrev pub all_decide : List (TokenKind × List Part) → Bool
all_decide [] = true
all_decide (r ∷ rs) = decides r.1 && all_decide rs

-- a row of this kind spells the word
abbrev pub IsKind : List (TokenKind × List Part) → TokenKind → List ℕ → Type 0
IsKind [] k w = ⊥
IsKind (r ∷ rs) k w = ((r.0 ≡ k) × Spelled r.1 w) ⊎ IsKind rs k w
