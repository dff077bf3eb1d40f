-- A branch with a condition is read part after part.
use Rattle.std.specs.Prelude.{[], ◌∷◌, List, Option, Some}
use Rattle.text_forms.specs.declared.TokenKind.TheVariants.{Comma}
use Rattle.text_forms.specs.Form.{Lexeme}
use Rattle.text_forms.specs.Reading.{◌>>=◌, read}
use Rattle.ir_types.specs.declared.inst.Ty.TheVariants.{Int, Void}
use Rattle.ir_types.specs.Kinds.{Branch}
use Rattle.ir_types.specs.Offsets.{Definitions}
use Rattle.ir_types.specs.Tree.{InstTree}
use Rattle.text_forms.specs.Combined.{after_mark}
use Rattle.ir_types.specs.InstParts.{target}
use Rattle.ir_types.specs.InstForms.{bare_inst}
use Rattle.ir_reader_values.specs.Operands.{value_read}

-- V, label %name, label %name
abbrev pub conditional_read : Definitions → List Lexeme → Option (InstTree × List Lexeme)
conditional_read defs ts =
    value_read defs (Int 1) ts >>= λ a.
    read (after_mark Comma target) a.1 >>= λ t.
    read (after_mark Comma target) t.1 >>= λ o.
    Some (bare_inst Branch Void (a.0 ∷ []) (t.0 ∷ o.0 ∷ []), o.1)
