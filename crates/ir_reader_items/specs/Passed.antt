-- Functions are passed over part after part, and only their names are kept.
use Rattle.std.specs.Prelude.{Bool, List, Option, Some}
use Rattle.text_forms.specs.declared.TokenKind.TheVariants.{LeftParen, RightParen, LeftBrace, RightBrace}
use Rattle.text_forms.specs.Form.{Lexeme, enclosed}
use Rattle.text_forms.specs.Reading.{◌>>=◌, read}
use Rattle.text_forms.specs.Kept.{attachments}
use Rattle.text_forms.specs.Nested.{joined}
use Rattle.ir_types.specs.declared.name.Name.{Name}
use Rattle.ir_types.specs.TypeForms.{return_type, global_name}
use Rattle.ir_types.specs.Words.{kept}
use Rattle.ir_types.specs.Skimmed.{Outline}
use Rattle.kept_runs.specs.Passed.{passed}
use Rattle.ir_reader_items.specs.Sources.{outline_there}

-- the name of the outline that is read
abbrev pub outline_name : Option (Outline × List Lexeme) → Option (Name × List Lexeme)
outline_name r = r >>= λ x. Some (x.0.name, x.1)

-- the name of the function, defined or only declared, with whose parts the tokens begin
abbrev pub name_there : Bool → List Lexeme → Option (Name × List Lexeme)
name_there defined ts = outline_name (outline_there defined ts)

-- R @name ( .. )
abbrev pub signature_passed : List Lexeme → Option (Name × List Lexeme)
signature_passed ts =
    read return_type ts >>= λ t.
    read global_name t.1 >>= λ n.
    passed (read (enclosed LeftParen RightParen) n.1) >>= λ p.
    Some (n.0, p)

-- K R @name ( .. ) K B { .. }
abbrev pub definition_passed : List Lexeme → Option (Name × List Lexeme)
definition_passed ts =
    read kept ts >>= λ b.
    signature_passed b.1 >>= λ s.
    read (joined kept attachments) s.1 >>= λ a.
    passed (read (enclosed LeftBrace RightBrace) a.1) >>= λ e.
    Some (s.0, e)

-- B K R @name ( .. ) K
abbrev pub declaration_passed : List Lexeme → Option (Name × List Lexeme)
declaration_passed ts =
    read (joined attachments kept) ts >>= λ b.
    signature_passed b.1 >>= λ s.
    read kept s.1 >>= λ a.
    Some (s.0, a.1)
