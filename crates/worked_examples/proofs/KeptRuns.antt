-- Worked examples of a kept run before a value that may be a number.
use Rattle.std.proofs.Common.{◌≡◌, ℕ, true, false, List, [], ◌∷◌, codes, Option, Some, None, refl}
use Rattle.text_forms.specs.declared.TokenKind.TheVariants.{Local, Word, Number}
use Rattle.text_forms.specs.Form.{Form, exactly, one, pair, either, mapped}
use Rattle.text_forms.specs.Kept.{kept_token, kept_unsigned, perhaps, kept_piece, kept_run}
use Rattle.text_forms.specs.Lexical.{table}
use Rattle.text_forms.specs.Nested.{joined}
use Rattle.text_forms.specs.Reading.{decides, read_whole}
use Rattle.worked_examples.proofs.Tokens.{tokens_of}

unfoldable excluded : List (List ℕ)
excluded = codes "i32" ∷ codes "align" ∷ codes "cc" ∷ codes "null" ∷ []

-- a value: a name, a number, or a word that no kept run takes
unfoldable value : Form (List ℕ)
value = either (one Local) (either (one Number) (mapped (λ _. codes "null") (exactly Word (codes "null"))))

-- the value begins with nothing with which the run could go on
unfoldable kept_then_value : Form (List (List ℕ) × List ℕ)
kept_then_value = pair (kept_run excluded) value

kept_decides : decides kept_then_value ≡ true
unfolding kept_then_value kept_run kept_piece excluded value
kept_decides = refl

-- were `align` a piece by itself too, a number behind it could be its own or the value
perhaps_number : decides (pair (joined (kept_token Word (codes "align")) (perhaps kept_unsigned)) (one Number)) ≡ false
perhaps_number = refl

-- ---- what a text reads as

abbrev reading : List ℕ → Option (List (List ℕ) × List ℕ)
reading s = read_whole kept_then_value (tokens_of s)

record Readings : Type 0 where
  no_run : reading (codes "5") ≡ Some ([], codes "5")
  word_then_number : reading (codes "noundef 5") ≡ Some (codes "noundef" ∷ [], codes "5")
  -- the number behind `align` is the run's
  number_then_name : reading (codes "align 8 %x") ≡ Some (codes "align" ∷ codes "8" ∷ [], codes "%x")
  two_numbers : reading (codes "nonnull align 8 5") ≡ Some (codes "nonnull" ∷ codes "align" ∷ codes "8" ∷ [], codes "5")
  one_number : reading (codes "align 5") ≡ None
  no_number : reading (codes "align %x") ≡ None
  -- it has no sign; a number behind it or behind a list in parentheses is the value
  signed_number : reading (codes "align -4") ≡ None
  signed_behind : reading (codes "align 8 -4") ≡ Some (codes "align" ∷ codes "8" ∷ [], codes "-4")
  list_then_number : reading (codes "align ( 8 ) 3") ≡ Some (codes "align" ∷ codes "(" ∷ codes "8" ∷ codes ")" ∷ [], codes "3")
  -- a word that begins a value ends the run
  word_value : reading (codes "noundef null") ≡ Some (codes "noundef" ∷ [], codes "null")
  number_wanted : reading (codes "noundef align null") ≡ None
  several : reading (codes "cc 10 \"a\" = \"b\" #0 %x") ≡ Some (codes "cc" ∷ codes "10" ∷ codes "\"a\"" ∷ codes "=" ∷ codes "\"b\"" ∷ codes "#0" ∷ [], codes "%x")

readings : Readings
unfolding table kept_then_value kept_run kept_piece excluded value
readings = record { no_run = refl; word_then_number = refl; number_then_name = refl; two_numbers = refl; one_number = refl; no_number = refl; signed_number = refl; signed_behind = refl; list_then_number = refl; word_value = refl; number_wanted = refl; several = refl }
