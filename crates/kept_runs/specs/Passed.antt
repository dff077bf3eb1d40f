-- What is passed over.
use Rattle.std.specs.Prelude.{List, Option, Some}
use Rattle.text_forms.specs.Form.{Lexeme}
use Rattle.text_forms.specs.Reading.{◌>>=◌}

-- what is behind what is read
abbrev pub passed : {A : Type 0} → Option (A × List Lexeme) → Option (List Lexeme)
passed r = r >>= λ x. Some x.1
