use Rattle.std.proofs.Common.{arith, ◌∷◌, []}
use Rattle.std.proofs.lemmas.Simd.{map-map}
use Rattle.ir_types.specs.Denotes.{param_in}
use Rattle.ir_shape.specs.Shape.{IsParam}
use Rattle.ir_printer_types.specs.Pieces.{comma, blank}
use Rattle.ir_printer.specs.Print.{param_pieces}
use Rattle.ir_printer_types.proofs.Appended.{behind_first, known_from, printed_next, printed_separated}
use Rattle.ir_printer.proofs.function.put_params.Goals as goal

pub loop-param-preserved : goal.loop-param-preserved
loop-param-preserved c = record {
  known = (known_from (param_in c.args.names.now) IsParam (behind_first c.args.params.now) c.loop-param.param-index c.param-item.result (omega arith) c.param-item.is c.loop-param.invariant.known).1;
  printed = printed_next (λ p. param_pieces (param_in c.args.names.now p)) (comma ∷ blank ∷ []) (behind_first c.args.params.now) c.loop-param.param-index c.param-item.result _ _ _ _ (omega arith) c.param-item.is c.in_ok-extend_from_slice.ensures.items c.in_ok-put_param-2.ensures c.loop-param.invariant.printed;
}

pub returns : goal.returns
returns c = rw (map-map param_pieces (param_in c.args.names.now) c.args.params.now) (printed_separated (λ p. param_pieces (param_in c.args.names.now p)) (comma ∷ blank ∷ []) c.args.params.now c.first-item.result c.loop-param.param-index _ _ _ (omega arith) c.first-item.is (omega arith) c.in_ok-put_param.ensures c.loop-param.invariant.printed)
