use Rattle.std.proofs.Common.{sym, ◌∙◌}
use Rattle.ir_reader_values.proofs.Operands.{other_width}
use Rattle.ir_reader_values.proofs.operand.held_lanes.Goals as goal

pub returns-then-not-is_int : goal.returns-then-not-is_int
returns-then-not-is_int c = rw c.refusal.ensures (other_width c.args.width c.args.lanes.now c.loop-of.of-index _ c.loop-of-test.true (sym c.is_int.ensures ∙ c.if-not-is_int.true))
