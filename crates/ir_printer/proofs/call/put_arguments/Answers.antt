use Rattle.std.proofs.Common.{arith}
use Rattle.std.specs.Prelude.{map}
use Rattle.std.proofs.lemmas.List.{length-map}
use Rattle.std.proofs.lemmas.Slice.Zip.{length-zip}
use Rattle.ir_printer_types.specs.Pieces.{with_commas}
use Rattle.ir_types.specs.declared.call.Actual.{Actual}
use Rattle.ir_types.specs.Denotes.{tables_of, operand_in}
use Rattle.ir_shape.specs.Shape.{IsTyped}
use Rattle.ir_printer.specs.Print.{argument_pieces, arguments_of}
use Rattle.ir_printer.proofs.Operands.{as_many_actuals}
use Rattle.ir_printer.proofs.Places.{IsAt, at_map, at_zip, known_pair, next_part, all_parts}
use Rattle.ir_printer.proofs.call.put_arguments.Goals as goal

pub bounds-actuals-place : goal.bounds-actuals-place
bounds-actuals-place c = omega (arith, as_many_actuals (tables_of c.args.m.now) c.args.names.now c.args.actuals.now c.args.operands.now c.requires)

pub put_argument-requires : goal.put_argument-requires
put_argument-requires c =
    let actual : IsAt c.args.actuals.now c.loop-place.place c.index-actuals-place.result = record { within = omega (arith, as_many_actuals (tables_of c.args.m.now) c.args.names.now c.args.actuals.now c.args.operands.now c.requires); is = c.index-actuals-place.is } in
    let operand : IsAt c.args.operands.now c.loop-place.place c.index-operands-place.result = record { within = omega arith; is = c.index-operands-place.is } in
    known_pair IsTyped _ _ _ _ _ (at_map (λ (a : Actual). a.ty) _ _ _ actual) (at_map (operand_in (tables_of c.args.m.now) c.args.names.now) _ _ _ operand) c.requires

pub loop-place-preserved : goal.loop-place-preserved
loop-place-preserved c =
    let actual : IsAt c.args.actuals.now c.loop-place.place c.index-actuals-place.result = record { within = omega (arith, as_many_actuals (tables_of c.args.m.now) c.args.names.now c.args.actuals.now c.args.operands.now c.requires); is = c.index-actuals-place.is } in
    let operand : IsAt c.args.operands.now c.loop-place.place c.index-operands-place.result = record { within = omega arith; is = c.index-operands-place.is } in
    next_part _ _ _ _ _ _ _ (at_map (λ x. argument_pieces x.0 x.1) _ _ _ (at_zip _ _ _ _ _ actual (at_map (operand_in (tables_of c.args.m.now) c.args.names.now) _ _ _ operand))) c.in_ok-put_comma.ensures c.in_ok-put_argument.ensures c.loop-place.invariant

pub returns : goal.returns
returns c =
    let many = as_many_actuals (tables_of c.args.m.now) c.args.names.now c.args.actuals.now c.args.operands.now c.requires in
    all_parts with_commas (arguments_of c.args.actuals.now (map (operand_in (tables_of c.args.m.now) c.args.names.now) c.args.operands.now)) c.loop-place.place _ _ (simp (length-map, length-zip) (omega arith)) c.loop-place.invariant
