use Rattle.std.proofs.Common.{◌≡◌, length}
use Rattle.text_forms.specs.Form.{many}
use Rattle.text_forms.specs.Reading.{read}
use Rattle.text_forms.specs.Walk.{walk, completed}
use Rattle.text_forms.specs.Gives.{left}
use Rattle.text_forms.proofs.Walks.{so_far}
use Rattle.text_forms.specs.Combined.{some}
use Rattle.ir_types.specs.FunctionForms.{block}
use Rattle.ir_types.specs.Numbered.{numbered_block}
use Rattle.ir_reader_types.specs.Uses.{InstsUse}
use Rattle.ir_reader_values.specs.Seen.{definitions, Widens, AreSteady}
use Rattle.ir_reader_functions.specs.Blocks.{block_seen}
use Rattle.ir_reader_functions.specs.Functions.{blocks_in, insts_among}
use Rattle.ir_reader_functions.proofs.function.blocks.Given as goal

abbrev pub decreases-more : goal.decreases-more
decreases-more l = length l.rest.rest.now

abbrev pub invariant-more : goal.invariant-more
invariant-more l = record {
  grows : Widens l.fn.scope l.scope;
  reads : so_far (blocks_in l.scope l.body.items) (completed (walk numbered_block l.numbering.next) (read (many (block (definitions l.fn.scope))) (left l.rest))) ≡ completed (walk numbered_block l.fn.numbering.next) (read (some (block (definitions l.fn.scope))) (left l.fn.tokens));
  uses : InstsUse l.fn.scope.tables (insts_among (blocks_in l.scope l.body.items)) l.scope.tables;
  stays : AreSteady block_seen l.scope l.body.items;
}
