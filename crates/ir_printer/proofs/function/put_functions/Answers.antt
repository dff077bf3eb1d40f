use Rattle.std.proofs.Common.{arith, ◌∷◌, []}
use Rattle.std.proofs.lemmas.Simd.{map-map}
use Rattle.ir_types.specs.Denotes.{tables_of, function_in}
use Rattle.ir_shape.specs.Shape.{IsFunction}
use Rattle.ir_printer_types.specs.Pieces.{line_feed}
use Rattle.ir_printer.specs.Print.{function_pieces}
use Rattle.ir_printer_types.proofs.Appended.{behind_first, known_from, printed_next, printed_separated}
use Rattle.ir_printer.proofs.Appended.{functions_text}
use Rattle.ir_printer.proofs.function.put_functions.Goals as goal

pub loop-function-preserved : goal.loop-function-preserved
loop-function-preserved c = record {
  known = (known_from (function_in (tables_of c.args.m.now)) IsFunction (behind_first c.args.functions.now) c.loop-function.function-index c.function-item.result (omega arith) c.function-item.is c.loop-function.invariant.known).1;
  printed = printed_next (λ f. function_pieces (function_in (tables_of c.args.m.now) f)) (line_feed ∷ []) (behind_first c.args.functions.now) c.loop-function.function-index c.function-item.result _ _ _ _ (omega arith) c.function-item.is c.in_ok-push.ensures.items c.in_ok-put_function-2.ensures c.loop-function.invariant.printed;
}

pub returns : goal.returns
returns c =
    rw (map-map function_pieces (function_in (tables_of c.args.m.now)) c.args.functions.now)
    (functions_text (λ f. function_pieces (function_in (tables_of c.args.m.now) f)) c.args.out.now.items c.part_from.new.out.items c.loop-function.out.items c.args.functions.now (omega arith) c.in_ok-part_from.ensures
    (printed_separated (λ f. function_pieces (function_in (tables_of c.args.m.now) f)) (line_feed ∷ []) c.args.functions.now c.first-item.result c.loop-function.function-index _ _ _ (omega arith) c.first-item.is (omega arith) c.in_ok-put_function.ensures c.loop-function.invariant.printed))
