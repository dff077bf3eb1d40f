use Rattle.std.proofs.Common.{arith, ◌∷◌, []}
use Rattle.std.proofs.lemmas.Simd.{map-map}
use Rattle.ir_types.specs.Denotes.{tables_of, inst_in}
use Rattle.ir_shape.specs.Shape.{IsInst}
use Rattle.ir_printer_types.specs.Pieces.{indent}
use Rattle.ir_printer.specs.Print.{inst_pieces}
use Rattle.ir_printer_types.proofs.Appended.{known_from, printed_next, printed_all}
use Rattle.ir_printer.proofs.function.put_insts.Goals as goal

pub put_inst-requires-clause-known : goal.put_inst-requires-clause-known
put_inst-requires-clause-known c = (known_from (inst_in (tables_of c.args.m.now) c.args.names.now) IsInst c.args.insts.now c.loop-inst.inst-index c.inst-item.result (omega arith) c.inst-item.is c.loop-inst.invariant.known).0

pub loop-inst-preserved : goal.loop-inst-preserved
loop-inst-preserved c = record {
  known = (known_from (inst_in (tables_of c.args.m.now) c.args.names.now) IsInst c.args.insts.now c.loop-inst.inst-index c.inst-item.result (omega arith) c.inst-item.is c.loop-inst.invariant.known).1;
  printed = printed_next (λ i. inst_pieces (inst_in (tables_of c.args.m.now) c.args.names.now i)) (indent ∷ []) c.args.insts.now c.loop-inst.inst-index c.inst-item.result _ _ _ _ (omega arith) c.inst-item.is c.in_ok-extend_from_slice.ensures.items c.in_ok-put_inst.ensures c.loop-inst.invariant.printed;
}

pub returns : goal.returns
returns c =
    rw (map-map inst_pieces (inst_in (tables_of c.args.m.now) c.args.names.now) c.args.insts.now)
    (printed_all (λ i. inst_pieces (inst_in (tables_of c.args.m.now) c.args.names.now i)) (indent ∷ []) c.args.insts.now c.loop-inst.inst-index _ _ (omega arith) c.loop-inst.invariant.printed)
