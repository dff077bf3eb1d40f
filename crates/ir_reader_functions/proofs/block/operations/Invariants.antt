use Rattle.std.proofs.Common.{◌≡◌, length}
use Rattle.text_forms.specs.Form.{many}
use Rattle.text_forms.specs.Reading.{read}
use Rattle.text_forms.specs.Walk.{walk, completed}
use Rattle.text_forms.specs.Gives.{left}
use Rattle.text_forms.proofs.Walks.{so_far}
use Rattle.ir_types.specs.InstForms.{operation}
use Rattle.ir_types.specs.FunctionForms.{line}
use Rattle.ir_types.specs.Numbered.{numbered_inst}
use Rattle.ir_reader_types.specs.Uses.{InstsUse}
use Rattle.ir_reader_values.specs.Seen.{definitions, inst_seen, Widens, AreSteady}
use Rattle.ir_reader_functions.specs.Blocks.{insts_in}
use Rattle.ir_reader_functions.proofs.block.operations.Given as goal

abbrev pub decreases-more : goal.decreases-more
decreases-more l = length l.rest.rest.now

abbrev pub invariant-more : goal.invariant-more
invariant-more l = record {
  grows : Widens l.fn.scope l.scope;
  reads : so_far (insts_in l.scope l.insts.items) (completed (walk numbered_inst l.numbering.next) (read (many (line (operation (definitions l.fn.scope)))) (left l.rest))) ≡ completed (walk numbered_inst l.fn.numbering.next) (read (many (line (operation (definitions l.fn.scope)))) (left l.fn.tokens));
  uses : InstsUse l.fn.scope.tables (insts_in l.scope l.insts.items) l.scope.tables;
  stays : AreSteady inst_seen l.scope l.insts.items;
}
