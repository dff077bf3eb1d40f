use Rattle.ir_sizes.specs.Known.{AreRight}
use Rattle.ir_sizes.proofs.order.walk_on.Given as goal

abbrev pub invariant-loop : goal.invariant-loop
invariant-loop l = AreRight l.types l.names l.extents
