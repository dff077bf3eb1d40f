use Rattle.std.proofs.Common.{◌≡◌, map, length}
use Rattle.text_forms.specs.declared.TokenKind.TheVariants.{Comma}
use Rattle.text_forms.specs.Form.{many}
use Rattle.text_forms.specs.Reading.{read}
use Rattle.text_forms.specs.Walk.{completed}
use Rattle.text_forms.specs.Gives.{left}
use Rattle.text_forms.specs.Combined.{marked}
use Rattle.ir_types.specs.InstForms.{argument}
use Rattle.ir_reader_values.specs.Seen.{definitions, operand_seen, Widens, AreSteady, OperandsUse}
use Rattle.ir_reader_values.specs.Split.{split_each, behind_both}
use Rattle.ir_reader_values.specs.Split.{as_two}
use Rattle.ir_reader_memory.specs.Calls.{some_arguments_read}
use Rattle.ir_reader_memory.proofs.calls.some_arguments.Given as goal

abbrev pub decreases-more : goal.decreases-more
decreases-more l = length l.rest.rest.now

abbrev pub invariant-more : goal.invariant-more
invariant-more l = record {
  grows : Widens l.fn.scope l.scope;
  reads : behind_both l.actuals.items (map (operand_seen l.scope) l.values) (completed (split_each as_two) (read (many (marked Comma (argument (definitions l.fn.scope)))) (left l.rest))) ≡ some_arguments_read (definitions l.fn.scope) (left l.fn.tokens);
  values : AreSteady operand_seen l.scope l.values;
  uses : OperandsUse l.fn.scope (map (operand_seen l.scope) l.values) l.scope;
}
