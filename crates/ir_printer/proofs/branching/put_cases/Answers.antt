use Rattle.std.proofs.Common.{◌∷◌, [], arith}
use Rattle.std.proofs.lemmas.List.{length-map}
use Rattle.std.proofs.lemmas.Slice.Zip.{length-zip}
use Rattle.ir_printer_types.specs.Pieces.{each_behind}
use Rattle.ir_types.specs.Denotes.{name_in}
use Rattle.ir_shape.specs.Shape.{IsName}
use Rattle.ir_printer.specs.Print.{before_case, case_pieces}
use Rattle.ir_printer.proofs.Places.{at_index, at_map, at_zip, known_at, next_behind, all_parts}
use Rattle.ir_printer.proofs.branching.put_cases.Goals as goal

pub put_case-requires-clause-label : goal.put_case-requires-clause-label
put_case-requires-clause-label c =
    let label = at_index c.args.labels.now c.loop-place.place (record { 0 = 0 }) (omega arith) in
    known_at IsName _ _ _ (at_map (name_in c.args.names.now) _ _ _ label) c.requires.labels

pub loop-place-preserved : goal.loop-place-preserved
loop-place-preserved c =
    let number = at_index c.args.numbers.now c.loop-place.place 0 (omega arith) in
    let label = at_index c.args.labels.now c.loop-place.place (record { 0 = 0 }) (omega arith) in
    next_behind (before_case ∷ []) _ _ _ _ _ _ _ (at_map (λ x. case_pieces c.args.width x.0 x.1) _ _ _ (at_zip _ _ _ _ _ number (at_map (name_in c.args.names.now) _ _ _ label))) c.in_ok-extend_from_slice.ensures.items c.in_ok-put_case.ensures c.loop-place.invariant

pub returns : goal.returns
returns c = all_parts (each_behind (before_case ∷ [])) _ _ _ _ (simp (length-map, length-zip) (omega arith)) c.loop-place.invariant
