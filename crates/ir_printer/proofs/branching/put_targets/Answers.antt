use Rattle.std.proofs.Common.{arith}
use Rattle.ir_types.specs.Denotes.{name_in}
use Rattle.ir_shape.specs.Shape.{IsName}
use Rattle.ir_printer.specs.Print.{target_pieces}
use Rattle.ir_printer.proofs.Places.{at_index, at_map, known_at, next_part}
use Rattle.ir_printer.proofs.branching.put_targets.Goals as goal

pub put_target-requires : goal.put_target-requires
put_target-requires c =
    let label = at_index c.args.labels.now c.loop-place.place (record { 0 = 0 }) (omega arith) in
    known_at IsName _ _ _ (at_map (name_in c.args.names.now) _ _ _ label) c.requires

pub loop-place-preserved : goal.loop-place-preserved
loop-place-preserved c =
    let label = at_index c.args.labels.now c.loop-place.place (record { 0 = 0 }) (omega arith) in
    next_part _ _ _ _ _ _ _ (at_map target_pieces _ _ _ (at_map (name_in c.args.names.now) _ _ _ label)) c.in_ok-put_comma.ensures c.in_ok-put_target.ensures c.loop-place.invariant
