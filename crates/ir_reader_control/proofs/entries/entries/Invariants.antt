use Rattle.std.proofs.Common.{◌≡◌, map, length}
use Rattle.text_forms.specs.declared.TokenKind.TheVariants.{Comma}
use Rattle.text_forms.specs.Form.{many}
use Rattle.text_forms.specs.Reading.{read}
use Rattle.text_forms.specs.Walk.{completed}
use Rattle.text_forms.specs.Gives.{left}
use Rattle.text_forms.specs.Combined.{commas, marked}
use Rattle.ir_types.specs.InstForms.{entry_of_phi}
use Rattle.ir_reader_values.specs.Seen.{definitions, name_seen, operand_seen, Widens, AreSteady, OperandsUse}
use Rattle.ir_reader_values.specs.Split.{split_each, behind_both}
use Rattle.ir_reader_control.specs.Labelled.{labels_in, entry_at}
use Rattle.ir_reader_control.proofs.entries.entries.Given as goal

abbrev pub decreases-more : goal.decreases-more
decreases-more l = length l.rest.rest.now

abbrev pub invariant-more : goal.invariant-more
invariant-more l = record {
  grows : Widens l.fn.scope l.scope;
  reads : behind_both (map (operand_seen l.scope) l.operands) (labels_in l.scope l.labels) (completed (split_each (entry_at (definitions l.fn.scope) l.ty)) (read (many (marked Comma entry_of_phi)) (left l.rest))) ≡ completed (split_each (entry_at (definitions l.fn.scope) l.ty)) (read (commas entry_of_phi) (left l.fn.tokens));
  operands : AreSteady operand_seen l.scope l.operands;
  labels : AreSteady name_seen l.scope l.labels;
  uses : OperandsUse l.fn.scope (map (operand_seen l.scope) l.operands) l.scope;
}
