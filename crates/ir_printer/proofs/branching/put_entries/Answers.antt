use Rattle.std.proofs.Common.{arith}
use Rattle.std.specs.Prelude.{map}
use Rattle.std.proofs.lemmas.List.{length-map}
use Rattle.std.proofs.lemmas.Slice.Zip.{length-zip}
use Rattle.ir_printer_types.specs.Pieces.{with_commas}
use Rattle.ir_types.specs.Denotes.{name_in, tables_of, operand_in}
use Rattle.ir_shape.specs.Shape.{IsName, IsTyped}
use Rattle.ir_printer.specs.Print.{entry_pieces, entries_of}
use Rattle.ir_printer.proofs.Places.{IsAt, at_index, at_map, at_zip, known_at, next_part, all_parts}
use Rattle.ir_printer.proofs.branching.put_entries.Goals as goal

pub put_entry-requires-clause-operand : goal.put_entry-requires-clause-operand
put_entry-requires-clause-operand c =
    let operand : IsAt c.args.operands.now c.loop-place.place c.index-operands-place.result = record { within = omega arith; is = c.index-operands-place.is } in
    known_at (IsTyped c.args.ty) _ _ _ (at_map (operand_in (tables_of c.args.m.now) c.args.names.now) _ _ _ operand) c.requires.operands

pub put_entry-requires-clause-label : goal.put_entry-requires-clause-label
put_entry-requires-clause-label c =
    let label = at_index c.args.labels.now c.loop-place.place (record { 0 = 0 }) (omega arith) in
    known_at IsName _ _ _ (at_map (name_in c.args.names.now) _ _ _ label) c.requires.labels

pub loop-place-preserved : goal.loop-place-preserved
loop-place-preserved c =
    let operand : IsAt c.args.operands.now c.loop-place.place c.index-operands-place.result = record { within = omega arith; is = c.index-operands-place.is } in
    let label = at_index c.args.labels.now c.loop-place.place (record { 0 = 0 }) (omega arith) in
    next_part _ _ _ _ _ _ _ (at_map (λ x. entry_pieces c.args.ty x.0 x.1) _ _ _ (at_zip _ _ _ _ _ (at_map (operand_in (tables_of c.args.m.now) c.args.names.now) _ _ _ operand) (at_map (name_in c.args.names.now) _ _ _ label))) c.in_ok-put_comma.ensures c.in_ok-put_entry.ensures c.loop-place.invariant

pub returns : goal.returns
returns c = all_parts with_commas (entries_of c.args.ty (map (operand_in (tables_of c.args.m.now) c.args.names.now) c.args.operands.now) (map (name_in c.args.names.now) c.args.labels.now)) c.loop-place.place _ _ (simp (length-map, length-zip) (omega arith)) c.loop-place.invariant
