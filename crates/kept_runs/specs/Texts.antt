-- The texts of what is read.
use Rattle.std.specs.Prelude.{ℕ, List, Option, Some}
use Rattle.text_forms.specs.Form.{Lexeme, texts}
use Rattle.text_forms.specs.Reading.{◌>>=◌}

-- the tokens that are read, as their texts
abbrev pub with_texts : Option (List Lexeme × List Lexeme) → Option (List (List ℕ) × List Lexeme)
with_texts r = r >>= λ y. Some (texts y.0, y.1)
