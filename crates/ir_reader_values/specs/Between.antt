-- What stands between two marks is completed.
use Rattle.std.specs.Prelude.{List, Option, Some}
use Rattle.text_forms.specs.declared.TokenKind.{TokenKind}
use Rattle.text_forms.specs.Form.{Lexeme}
use Rattle.text_forms.specs.Reading.{◌>>=◌, read}
use Rattle.text_forms.specs.Walk.{completed}
use Rattle.text_forms.specs.Gives.{mark}

-- what is completed between two marks
abbrev pub between_read : {A B : Type 0} → TokenKind → TokenKind → (A → Option B) → (List Lexeme → Option (A × List Lexeme)) → List Lexeme → Option (B × List Lexeme)
between_read o c f r ts = read (mark o) ts >>= λ m. completed f (r m.1) >>= λ x. read (mark c) x.1 >>= λ e. Some (x.0, e.1)
