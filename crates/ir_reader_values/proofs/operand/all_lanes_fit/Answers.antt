use Rattle.std.proofs.Common.{sym, ◌∙◌}
use Rattle.ir_types.specs.ValueForms.{lane_fits}
use Rattle.ir_reader_values.specs.View.{typed_lane_in}
use Rattle.ir_reader_values.proofs.Operands.{one_fails}
use Rattle.ir_reader_values.proofs.operand.all_lanes_fit.Goals as goal

pub returns-then-not-lane_fits : goal.returns-then-not-lane_fits
returns-then-not-lane_fits c = sym (one_fails (λ x. lane_fits c.args.width x.1) typed_lane_in c.args.lanes.now c.loop-lane.lane-index _ c.loop-lane-test.true (sym c.lane_fits.ensures ∙ c.if-not-lane_fits.true))
