use Rattle.ir_sizes.specs.Known.{AreRight}
use Rattle.ir_sizes.proofs.order.set_in_order.Given as goal

abbrev pub invariant-loop-place : goal.invariant-loop-place
invariant-loop-place l = AreRight l.types l.names l.extents
