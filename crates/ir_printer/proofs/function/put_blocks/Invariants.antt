use Rattle.std.proofs.Common.{◌≡◌, ◌++◌, ◌∷◌, [], drop}
use Rattle.std.specs.Prelude.{map}
use Rattle.std.specs.List.{AllByRecursion}
use Rattle.text_lex.specs.Layout.{text_of}
use Rattle.ir_types.specs.Denotes.{tables_of, block_in}
use Rattle.ir_shape.specs.Shape.{IsBlock}
use Rattle.ir_printer_types.specs.Pieces.{line_feed, each_behind}
use Rattle.ir_printer.specs.Print.{block_pieces}
use Rattle.ir_printer.proofs.function.put_blocks.Given as goal

abbrev pub invariant-loop-block : goal.invariant-loop-block
invariant-loop-block l = record {
  known : AllByRecursion IsBlock (map (block_in (tables_of l.m) l.names) (drop l.block-index l.rest));
  printed : l.out.items ++ text_of (each_behind (line_feed ∷ []) (map (λ b. block_pieces (block_in (tables_of l.m) l.names b)) (drop l.block-index l.rest))) ≡ l.initial.out.items ++ text_of (each_behind (line_feed ∷ []) (map (λ b. block_pieces (block_in (tables_of l.m) l.names b)) l.rest));
}
