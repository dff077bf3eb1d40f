use Rattle.std.proofs.Common.{arith, ◌∷◌, []}
use Rattle.std.proofs.lemmas.Simd.{map-map}
use Rattle.ir_types.specs.Denotes.{tables_of, block_in}
use Rattle.ir_shape.specs.Shape.{IsBlock}
use Rattle.ir_printer_types.specs.Pieces.{line_feed}
use Rattle.ir_printer.specs.Print.{block_pieces}
use Rattle.ir_printer_types.proofs.Appended.{behind_first, known_from, printed_next, printed_separated}
use Rattle.ir_printer.proofs.function.put_blocks.Goals as goal

pub loop-block-preserved : goal.loop-block-preserved
loop-block-preserved c = record {
  known = (known_from (block_in (tables_of c.args.m.now) c.args.names.now) IsBlock (behind_first c.args.blocks.now) c.loop-block.block-index c.block-item.result (omega arith) c.block-item.is c.loop-block.invariant.known).1;
  printed = printed_next (λ b. block_pieces (block_in (tables_of c.args.m.now) c.args.names.now b)) (line_feed ∷ []) (behind_first c.args.blocks.now) c.loop-block.block-index c.block-item.result _ _ _ _ (omega arith) c.block-item.is c.in_ok-push.ensures.items c.in_ok-put_block-2.ensures c.loop-block.invariant.printed;
}

pub returns : goal.returns
returns c =
    rw (map-map block_pieces (block_in (tables_of c.args.m.now) c.args.names.now) c.args.blocks.now)
    (printed_separated (λ b. block_pieces (block_in (tables_of c.args.m.now) c.args.names.now b)) (line_feed ∷ []) c.args.blocks.now c.first-item.result c.loop-block.block-index _ _ _ (omega arith) c.first-item.is (omega arith) c.in_ok-put_block.ensures c.loop-block.invariant.printed)
