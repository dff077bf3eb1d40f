-- What a function returned, against what reading a form gives.
use Rattle.std.specs.Prelude.{◌≡◌, List, Option, Some, None, Result, Ok, Err}
use Rattle.text_forms.specs.declared.TokenKind.{TokenKind}
use Rattle.text_forms.specs.declared.cursor.SyntaxFault.{SyntaxFault}
use Rattle.text_forms.specs.declared.cursor.SyntaxFault.TheVariants.{NoReading, Memory}
use Rattle.text_forms.specs.declared.cursor.Cursor.{Cursor}
use Rattle.text_forms.specs.Form.{Lexeme, Form, one, mapped}
use Rattle.text_forms.specs.View.{lexemes}

-- the tokens that are left
abbrev pub left : Cursor → List Lexeme
left t = lexemes t.text.now t.rest.now

-- the result, seen by view, is what reading gives; want of memory says nothing
abbrev pub Gives : {X Y : Type 0} → (X → Y) → Result X SyntaxFault → Option Y → Type 0
Gives view (Ok x) read = read ≡ Some (view x)
Gives view (Err (NoReading place)) read = read ≡ None
Gives view (Err Memory) read = Unit {0}

-- a token of this kind that stands for nothing else
abbrev pub mark : TokenKind → Form (Unit {0})
mark k = mapped (λ _. tt) (one k)
