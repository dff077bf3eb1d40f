use Rattle.std.proofs.Common.{None, arith}
use Rattle.ir_printer.specs.Print.{lane_pieces}
use Rattle.ir_printer.proofs.Places.{at_index, at_map, next_part}
use Rattle.ir_printer.proofs.value.put_each_lane.Goals as goal

pub loop-place-preserved : goal.loop-place-preserved
loop-place-preserved c =
    let lane = at_index c.args.lanes.now c.loop-place.place None (omega arith) in
    next_part _ _ _ _ _ _ _ (at_map (lane_pieces c.args.ty) _ _ _ lane) c.in_ok-put_comma.ensures c.in_ok-put_lane.ensures c.loop-place.invariant
