use Rattle.std.proofs.Common.{length}
use Rattle.std.specs.List.{AllByRecursion}
use Rattle.ir_check_fits.specs.Sites.{IsHere}
use Rattle.ir_check_fits.proofs.places.are_here.Given as goal

abbrev pub invariant-more : goal.invariant-more
invariant-more l = AllByRecursion (IsHere l.count) l.left → AllByRecursion (IsHere l.count) l.fn.operands

abbrev pub decreases-more : goal.decreases-more
decreases-more l = length l.left
