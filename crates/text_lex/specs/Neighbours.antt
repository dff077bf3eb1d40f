-- Which bytes end a token.
use Rattle.std.specs.Prelude.{ℕ, Bool, true, false, not, ◌&&◌, ◌||◌, ◌==◌, List, [], ◌∷◌, ◌++◌, Option, Some, None, if◌then◌else◌}
use Rattle.text_forms.specs.declared.TokenKind.{TokenKind}
use Rattle.text_forms.specs.declared.Class.{Class}
use Rattle.text_forms.specs.declared.Class.TheVariants.{Byte, Digit, HexDigit, NameStart, NamePart, WordStart, WordPart, Exponent, Sign, NotQuote}
use Rattle.text_forms.specs.declared.Part.{Part}
use Rattle.text_forms.specs.declared.Part.TheVariants.{One, Perhaps, Run}
use Rattle.text_forms.specs.Lexical.{has, after, and_then, table}

-- the test holds for each byte
abbrev pub all_of : (ℕ → Bool) → List ℕ → Bool
all_of p [] = true
all_of p (c ∷ cs) = p c && all_of p cs

-- the parts that may follow behind these bytes
abbrev pub behind : List Part → List ℕ → Option (List Part)
behind ps [] = Some ps
behind ps (c ∷ cs) = and_then (after ps c) (λ qs. behind qs cs) None

-- no parts may follow
abbrev pub nothing : Option (List Part) → Bool
nothing None = true
nothing (Some ps) = false

-- behind the word the byte goes on with no token
abbrev pub ends : List (TokenKind × List Part) → List ℕ → ℕ → Bool
ends [] w c = true
ends (r ∷ rs) w c = nothing (behind r.1 (w ++ c ∷ [])) && ends rs w c

-- the class of what stands between quotes
abbrev pub is_quoted : Class → Bool
is_quoted (Byte b) = false
is_quoted Digit = false
is_quoted HexDigit = false
is_quoted NameStart = false
is_quoted NamePart = false
is_quoted WordStart = false
is_quoted WordPart = false
is_quoted Exponent = false
is_quoted Sign = false
is_quoted NotQuote = true

-- no part has the byte, but for what stands between quotes
abbrev pub avoids : ℕ → List Part → Bool
avoids c [] = true
avoids c (One p ∷ ps) = not (has p c) && avoids c ps
avoids c (Perhaps p ∷ ps) = not (has p c) && avoids c ps
avoids c (Run p ∷ ps) = (is_quoted p || not (has p c)) && avoids c ps

-- the same of each part but the first, and of the first where it is a run
abbrev pub avoids_later : ℕ → List Part → Bool
avoids_later c [] = true
avoids_later c (One p ∷ ps) = avoids c ps
avoids_later c (Perhaps p ∷ ps) = avoids c ps
avoids_later c (Run p ∷ ps) = avoids c (Run p ∷ ps)

-- the same of each row
abbrev pub avoided : ℕ → List (TokenKind × List Part) → Bool
avoided c [] = true
avoided c (r ∷ rs) = avoids_later c r.1 && avoided c rs

-- a byte that stands in no token but at its begin or between quotes
abbrev pub separates : ℕ → Bool
separates c = avoided c table

-- ---- quotes come in pairs

-- the class of the quote alone
abbrev pub is_quote : Class → Bool
is_quote (Byte b) = b == 34
is_quote Digit = false
is_quote HexDigit = false
is_quote NameStart = false
is_quote NamePart = false
is_quote WordStart = false
is_quote WordPart = false
is_quote Exponent = false
is_quote Sign = false
is_quote NotQuote = false

-- a class without the quote that is not that of what stands between quotes
abbrev pub is_plain : Class → Bool
is_plain p = not (has p 34) && not (is_quoted p)

-- where a place in the parts stands
pub data Side : Type 0 where
  outside : Side
  inside : Side
  closing : Side

-- each quote begins a run up to the next quote
abbrev pub in_pairs : List Part → Side → Bool
in_pairs [] outside = true
in_pairs [] inside = false
in_pairs [] closing = false
in_pairs (One p ∷ ps) outside = if is_quote p then in_pairs ps inside else is_plain p && in_pairs ps outside
in_pairs (One p ∷ ps) inside = false
in_pairs (One p ∷ ps) closing = is_quote p && in_pairs ps outside
in_pairs (Perhaps p ∷ ps) outside = is_plain p && in_pairs ps outside
in_pairs (Perhaps p ∷ ps) inside = false
in_pairs (Perhaps p ∷ ps) closing = false
in_pairs (Run p ∷ ps) outside = is_plain p && in_pairs ps outside
in_pairs (Run p ∷ ps) inside = is_quoted p && in_pairs ps closing
in_pairs (Run p ∷ ps) closing = false

-- so it is in each row
abbrev pub all_in_pairs : List (TokenKind × List Part) → Bool
all_in_pairs [] = true
all_in_pairs (r ∷ rs) = in_pairs r.1 outside && all_in_pairs rs
