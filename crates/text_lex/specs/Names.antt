-- The texts of names and of numbers.
use Rattle.std.specs.Prelude.{ℕ, Bool, false, ◌&&◌, List, [], ◌∷◌}
use Rattle.text_forms.specs.declared.Class.TheVariants.{NamePart, NotQuote}
use Rattle.text_forms.specs.Lexical.{has, is_digit, begins_name}
use Rattle.text_lex.specs.Neighbours.{all_of}

-- digits and nothing else
abbrev pub all_digits : List ℕ → Bool
all_digits ds = all_of is_digit ds

-- one digit or more, and nothing else
abbrev pub is_digits : List ℕ → Bool
is_digits [] = false
is_digits (d ∷ ds) = is_digit d && all_digits ds

-- bytes of names, the first of which is no digit
abbrev pub is_plain_name : List ℕ → Bool
is_plain_name [] = false
is_plain_name (c ∷ cs) = begins_name c && all_of (has NamePart) cs

-- bytes that may stand between quotes
abbrev pub is_quotable : List ℕ → Bool
is_quotable bs = all_of (has NotQuote) bs
