-- Items with memory types are read part after part.
use Rattle.std.specs.Prelude.{List, [], ◌∷◌, codes, Option, Some, None, if◌then◌else◌}
use Rattle.text_forms.specs.declared.TokenKind.TheVariants.{Local, Global, Equal, Word}
use Rattle.text_forms.specs.Form.{Lexeme, exactly, one}
use Rattle.text_forms.specs.Gives.{mark}
use Rattle.text_forms.specs.Reading.{◌>>=◌, this, next_in, read}
use Rattle.ir_types.specs.TypeNodes.{TypeNode}
use Rattle.ir_types.specs.Tree.{Item, type_item, variable_item}
use Rattle.ir_types.specs.Written.{name_behind}
use Rattle.text_forms.specs.Combined.{word}
use Rattle.ir_types.specs.Words.{kept}
use Rattle.ir_types.specs.ItemForms.{variable_word, behind_type}
use Rattle.ir_types.specs.Skimmed.{Skimmed}
use Rattle.ir_reader_items.specs.Sources.{type_read}

-- what a name of a type is defined as
abbrev pub defined_read : List Lexeme → Option (Option (List TypeNode) × List Lexeme)
defined_read ts = if next_in (this Word (codes "opaque") ∷ []) ts then read (word (codes "opaque") None) ts else (type_read ts >>= λ x. Some (Some x.0, x.1))

-- the definition of a name of a type
abbrev pub definition_read : List Lexeme → Option (Item Skimmed × List Lexeme)
definition_read ts =
    read (one Local) ts >>= λ t.
    read (mark Equal) t.1 >>= λ e.
    read (exactly Word (codes "type")) e.1 >>= λ w.
    defined_read w.1 >>= λ d.
    name_behind t.0 >>= λ n.
    Some (type_item n d.0, d.1)

-- a variable
abbrev pub variable_read : List Lexeme → Option (Item Skimmed × List Lexeme)
variable_read ts =
    read (one Global) ts >>= λ t.
    read (mark Equal) t.1 >>= λ e.
    read kept e.1 >>= λ k.
    read variable_word k.1 >>= λ w.
    type_read w.1 >>= λ m.
    read behind_type m.1 >>= λ b.
    name_behind t.0 >>= λ n.
    Some (variable_item (record { name = n; before = k.0; writable = w.0; ty = m.0; after = b.0 }), b.1)
