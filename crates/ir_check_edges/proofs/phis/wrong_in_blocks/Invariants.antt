use Rattle.std.proofs.Common.{◌≡◌, length, map}
use Rattle.ir_types.specs.Denotes.{tables_of, block_in, function_in}
use Rattle.ir_check_edges.specs.Phis.{wrong_among}
use Rattle.ir_check_edges.proofs.phis.wrong_in_blocks.Given as goal

abbrev pub invariant-more : goal.invariant-more
invariant-more l = wrong_among (function_in (tables_of l.m) l.function) l.place (map (block_in (tables_of l.m) l.function.names) l.left) ≡ wrong_among (function_in (tables_of l.m) l.function) 0 (map (block_in (tables_of l.m) l.function.names) l.function.body)

abbrev pub decreases-more : goal.decreases-more
decreases-more l = length l.left
