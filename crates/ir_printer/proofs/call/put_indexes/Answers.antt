use Rattle.std.proofs.Common.{◌∷◌, [], arith}
use Rattle.std.specs.Prelude.{map}
use Rattle.std.proofs.lemmas.List.{length-map}
use Rattle.std.proofs.lemmas.Slice.Zip.{length-zip}
use Rattle.ir_printer_types.specs.Pieces.{comma, blank, each_behind}
use Rattle.ir_types.specs.declared.inst.Ty.TheVariants.{Int}
use Rattle.ir_types.specs.Denotes.{tables_of, operand_in}
use Rattle.ir_shape.specs.Shape.{IsTyped}
use Rattle.ir_printer.specs.Print.{typed_operand, each_typed}
use Rattle.ir_printer.proofs.Operands.{as_many_widths}
use Rattle.ir_printer.proofs.Places.{IsAt, at_index, at_map, at_zip, known_pair, next_behind, all_parts}
use Rattle.ir_printer.proofs.call.put_indexes.Goals as goal

pub bounds-widths-place : goal.bounds-widths-place
bounds-widths-place c = omega (arith, as_many_widths (tables_of c.args.m.now) c.args.names.now c.args.widths.now c.args.operands.now c.requires)

pub put_typed_operand-requires : goal.put_typed_operand-requires
put_typed_operand-requires c =
    let many = as_many_widths (tables_of c.args.m.now) c.args.names.now c.args.widths.now c.args.operands.now c.requires in
    let width = at_index c.args.widths.now c.loop-place.place 0 (omega arith) in
    let operand : IsAt c.args.operands.now c.loop-place.place c.index-operands-place.result = record { within = omega arith; is = c.index-operands-place.is } in
    known_pair IsTyped _ _ _ _ _ (at_map Int _ _ _ width) (at_map (operand_in (tables_of c.args.m.now) c.args.names.now) _ _ _ operand) c.requires

pub loop-place-preserved : goal.loop-place-preserved
loop-place-preserved c =
    let many = as_many_widths (tables_of c.args.m.now) c.args.names.now c.args.widths.now c.args.operands.now c.requires in
    let width = at_index c.args.widths.now c.loop-place.place 0 (omega arith) in
    let operand : IsAt c.args.operands.now c.loop-place.place c.index-operands-place.result = record { within = omega arith; is = c.index-operands-place.is } in
    next_behind (comma ∷ blank ∷ []) _ _ _ _ _ _ _ (at_map (λ x. typed_operand x.0 x.1) _ _ _ (at_zip _ _ _ _ _ (at_map Int _ _ _ width) (at_map (operand_in (tables_of c.args.m.now) c.args.names.now) _ _ _ operand))) c.in_ok-extend_from_slice.ensures.items c.in_ok-put_typed_operand.ensures c.loop-place.invariant

pub returns : goal.returns
returns c =
    let many = as_many_widths (tables_of c.args.m.now) c.args.names.now c.args.widths.now c.args.operands.now c.requires in
    all_parts (each_behind (comma ∷ blank ∷ [])) (each_typed (map Int c.args.widths.now) (map (operand_in (tables_of c.args.m.now) c.args.names.now) c.args.operands.now)) c.loop-place.place _ _ (simp (length-map, length-zip) (omega arith)) c.loop-place.invariant
