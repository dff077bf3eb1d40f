use Rattle.std.proofs.Common.{◌≡◌, true, length, map}
use Rattle.ir_types.specs.Denotes.{tables_of, name_in, inst_in}
use Rattle.ir_check_edges.specs.Phis.{wrong_behind}
use Rattle.ir_check_edges.proofs.phis.wrong_in_block.Given as goal

abbrev pub invariant-more : goal.invariant-more
invariant-more l = wrong_behind (map (name_in l.names) l.preds) l.phis l.place (map (inst_in (tables_of l.m) l.names) l.left) ≡ wrong_behind (map (name_in l.names) l.preds) true l.start (map (inst_in (tables_of l.m) l.names) l.insts)

abbrev pub decreases-more : goal.decreases-more
decreases-more l = length l.left
