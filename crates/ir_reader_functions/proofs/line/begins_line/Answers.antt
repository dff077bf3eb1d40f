use Rattle.std.proofs.Common.{sym, ap, ◌∙◌}
use Rattle.text_forms.specs.Reading.{opens}
use Rattle.text_forms.specs.Gives.{left}
use Rattle.ir_types.specs.FunctionForms.{line}
use Rattle.ir_reader_ops.specs.Words.{form_at}
use Rattle.ir_reader_functions.proofs.Lines.{line_begins_named, line_begins_plain}
use Rattle.ir_reader_functions.proofs.line.begins_line.Goals as goal

pub returns-in-Some : goal.returns-in-Some
returns-in-Some c = λ defs.
    c.begins_instruction.ensures defs ∙ sym (ap (opens (line (form_at defs c.args.place))) c.in-Some.ensures.1 ∙ line_begins_named defs c.args.place c.in-Some.field-0-0.now c.in-Some.ensures.0 (left c.in-Some.rest))

pub returns-in-None : goal.returns-in-None
returns-in-None c = λ defs. c.begins_instruction-in-None.ensures defs ∙ sym (line_begins_plain defs c.args.place (left c.args.tokens) c.in-None.ensures)
