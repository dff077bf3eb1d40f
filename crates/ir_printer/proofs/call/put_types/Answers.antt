use Rattle.std.proofs.Common.{arith}
use Rattle.ir_types.specs.declared.inst.Ty.TheVariants.{Int}
use Rattle.ir_printer_types.specs.Pieces.{type_pieces}
use Rattle.ir_printer.proofs.Places.{at_index, at_map, next_part}
use Rattle.ir_printer.proofs.call.put_types.Goals as goal

pub loop-place-preserved : goal.loop-place-preserved
loop-place-preserved c =
    let ty = at_index c.args.types.now c.loop-place.place (Int 0) (omega arith) in
    next_part _ _ _ _ _ _ _ (at_map type_pieces _ _ _ ty) c.in_ok-put_comma.ensures c.in_ok-put_type.ensures c.loop-place.invariant
