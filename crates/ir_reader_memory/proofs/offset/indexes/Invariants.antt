use Rattle.std.proofs.Common.{◌≡◌, map, length}
use Rattle.text_forms.specs.Form.{many}
use Rattle.text_forms.specs.Reading.{read}
use Rattle.text_forms.specs.Walk.{completed}
use Rattle.text_forms.specs.Gives.{left}
use Rattle.ir_reader_values.specs.declared.scope.Scope.{Scope}
use Rattle.ir_reader_values.specs.Seen.{definitions, operand_seen, Widens, AreSteady, OperandsUse}
use Rattle.ir_reader_values.specs.Split.{split_each, behind_both}
use Rattle.ir_reader_values.specs.Split.{as_two}
use Rattle.ir_reader_memory.specs.Offsets.{next_index, indexes_read}
use Rattle.ir_reader_memory.proofs.offset.indexes.Given as goal

abbrev pub decreases-more : goal.decreases-more
decreases-more l = length l.rest.rest.now

abbrev pub invariant-more : goal.invariant-more
invariant-more l = record {
  grows : Widens l.fn.scope l.scope;
  reads : behind_both l.widths.items (map (operand_seen l.scope) l.operands) (completed (split_each as_two) (read (many (next_index (definitions l.fn.scope))) (left l.rest))) ≡ indexes_read (definitions l.fn.scope) (map (operand_seen l.fn.scope) l.fn.before) (left l.fn.tokens);
  operands : AreSteady operand_seen l.scope l.operands;
  uses : (start : Scope) → OperandsUse start (map (operand_seen l.fn.scope) l.fn.before) l.fn.scope → OperandsUse start (map (operand_seen l.scope) l.operands) l.scope;
}
