-- Instructions behind their words, and with their attachments.
use Rattle.std.specs.Prelude.{Bool, true, false, ◌||◌, codes, List, Option, Some}
use Rattle.std.specs.List.{list_any}
use Rattle.text_forms.specs.Form.{Lexeme, Form, either, by_word}
use Rattle.text_forms.specs.Reading.{◌>>=◌, read}
use Rattle.ir_types.specs.declared.inst.Operand.{Operand}
use Rattle.ir_types.specs.declared.inst.Operand.TheVariants.{OutOfRange}
use Rattle.ir_types.specs.declared.inst.Inst.{Inst}
use Rattle.ir_types.specs.Offsets.{Definitions}
use Rattle.ir_types.specs.Tree.{InstTree}
use Rattle.text_forms.specs.Combined.{word}
use Rattle.ir_types.specs.Words.{terminator_words}
use Rattle.ir_types.specs.InstForms.{inst_attachments, operation, terminator_behind, unreachable_tree, terminator}
use Rattle.ir_reader_ops.specs.declared.inst.Place.{Place}
use Rattle.ir_reader_ops.specs.declared.inst.Place.TheVariants.{Inside, Last}

-- a terminator, before its attachments
abbrev pub bare_terminator : Definitions → Form InstTree
bare_terminator defs = either (by_word terminator_words (terminator_behind defs)) (word (codes "unreachable") unreachable_tree)

-- whether an operand has a number out of its type's range
abbrev pub is_outside : Operand → Bool
is_outside (OutOfRange i) = true
is_outside a = false

-- an instruction with the attachments that are read behind it, wide where an operand is out of range
abbrev pub attached_to : Inst → List Lexeme → Option (Inst × List Lexeme)
attached_to i ts = read inst_attachments ts >>= λ k. Some (record i { wide = list_any is_outside i.args || i.wide; kept = k.0 }, k.1)

-- the instructions that may stand at a place of a block
abbrev pub form_at : Definitions → Place → Form InstTree
form_at defs Inside = operation defs
form_at defs Last = terminator defs

-- any instruction
abbrev pub instruction : Definitions → Form InstTree
instruction defs = either (operation defs) (terminator defs)
