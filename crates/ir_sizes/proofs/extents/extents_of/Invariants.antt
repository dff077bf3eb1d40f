use Rattle.ir_sizes.specs.Known.{AreRight, unset}
use Rattle.ir_sizes.proofs.extents.extents_of.Given as goal

abbrev pub invariant-loop : goal.invariant-loop
invariant-loop l = AreRight l.types l.names l.extents.items

abbrev pub decreases-loop : goal.decreases-loop
decreases-loop l = unset l.extents.items
