use Rattle.std.proofs.Common.{length}
use Rattle.std.specs.List.{AllByRecursion}
use Rattle.ir_check_fits.specs.Sites.{IsNamed}
use Rattle.ir_check_fits.proofs.places.are_named.Given as goal

abbrev pub invariant-more : goal.invariant-more
invariant-more l = AllByRecursion (IsNamed l.count) l.left → AllByRecursion (IsNamed l.count) l.fn.labels

abbrev pub decreases-more : goal.decreases-more
decreases-more l = length l.left
