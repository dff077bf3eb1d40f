use Rattle.std.proofs.Common.{◌≡◌, true, take}
use Rattle.std.specs.List.{list_all}
use Rattle.ir_types.specs.ValueForms.{lane_fits}
use Rattle.ir_reader_values.specs.View.{lanes_in}
use Rattle.ir_reader_values.proofs.operand.all_lanes_fit.Given as goal

abbrev pub invariant-loop-lane : goal.invariant-loop-lane
invariant-loop-lane l = list_all (λ x. lane_fits l.width x.1) (lanes_in (take l.lane-index l.lanes)) ≡ true
