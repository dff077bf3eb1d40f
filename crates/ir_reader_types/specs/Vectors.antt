-- A vector's type is read part after part.
use Rattle.std.specs.Prelude.{List, codes, Option, Some}
use Rattle.text_forms.specs.declared.TokenKind.TheVariants.{Number, Less, Greater}
use Rattle.text_forms.specs.Form.{Lexeme, one, made}
use Rattle.text_forms.specs.Reading.{◌>>=◌, read}
use Rattle.text_forms.specs.Gives.{mark}
use Rattle.ir_types.specs.declared.inst.Ty.{Ty}
use Rattle.ir_types.specs.declared.inst.Ty.TheVariants.{Vector}
use Rattle.text_forms.specs.Combined.{behind}
use Rattle.ir_types.specs.TypeForms.{width, lanes_of}

abbrev pub vector_read : List Lexeme → Option (Ty × List Lexeme)
vector_read ts =
    read (mark Less) ts >>= λ m.
    read (made lanes_of (one Number)) m.1 >>= λ n.
    read (behind (codes "x") width) n.1 >>= λ w.
    read (mark Greater) w.1 >>= λ e.
    Some (Vector n.0 w.0, e.1)
