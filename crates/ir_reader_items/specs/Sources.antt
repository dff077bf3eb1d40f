-- What stands at a place of the text, and is left to be read again.
use Rattle.std.specs.Prelude.{Bool, true, false, List, [], length, Option, Some, None}
use Rattle.text_forms.specs.Form.{Lexeme}
use Rattle.text_forms.specs.Reading.{read}
use Rattle.ir_types.specs.declared.name.Name.TheVariants.{Number}
use Rattle.ir_types.specs.declared.inst.Ty.TheVariants.{Void}
use Rattle.ir_types.specs.TypeNodes.{TypeNode}
use Rattle.ir_types.specs.TypeForms.{memory_type}
use Rattle.ir_types.specs.Skimmed.{Outline, skimmed_declaration, skimmed_definition}

-- ---- memory types

-- the memory type with which the tokens begin, and the tokens behind it
abbrev pub type_read : List Lexeme → Option (List TypeNode × List Lexeme)
type_read ts = read (memory_type (length ts)) ts

-- the nodes of what is read, none where nothing is read
abbrev pub nodes_or_none : Option (List TypeNode × List Lexeme) → List TypeNode
nodes_or_none None = []
nodes_or_none (Some x) = x.0

-- the nodes of that type
unfoldable pub nodes_read : List Lexeme → List TypeNode
nodes_read ts = nodes_or_none (type_read ts)

-- ---- functions

-- the outline of the function, defined or only declared, with whose parts the tokens begin, and the tokens behind it
abbrev pub outline_there : Bool → List Lexeme → Option (Outline × List Lexeme)
outline_there true ts = read skimmed_definition ts
outline_there false ts = read skimmed_declaration ts

-- an outline without anything
abbrev pub no_outline : Outline
no_outline = record { name = Number 0; before = []; ret = Void; params = []; after = []; body = None }

-- the outline that is read, one without anything where nothing is read
abbrev pub outline_or_none : Option (Outline × List Lexeme) → Outline
outline_or_none None = no_outline
outline_or_none (Some x) = x.0

-- the outline of that function
unfoldable pub outline_read : Bool → List Lexeme → Outline
outline_read defined ts = outline_or_none (outline_there defined ts)
