use Rattle.std.proofs.Common.{◌≡◌, true, take, map}
use Rattle.std.specs.List.{list_all}
use Rattle.ir_types.specs.ValueForms.{lane_at, is_int}
use Rattle.ir_reader_values.specs.View.{lanes_in}
use Rattle.ir_reader_values.proofs.operand.held_lanes.Given as goal

abbrev pub invariant-loop-of : goal.invariant-loop-of
invariant-loop-of l = record {
  of_width : list_all (λ x. is_int l.width x.0) (lanes_in (take l.of-index l.lanes)) ≡ true;
  held : l.held.items ≡ map (λ x. lane_at l.width x.1) (lanes_in (take l.of-index l.lanes));
}
