use Rattle.std.proofs.Common.{◌≡◌, length}
use Rattle.ir_rules.specs.Breaches.{first}
use Rattle.ir_check_fits.specs.Variables.{breaches_of}
use Rattle.ir_check_fits.proofs.symbols.any_sizeless.Given as goal

abbrev pub invariant-more : goal.invariant-more
invariant-more l = first (breaches_of l.types l.left) ≡ first (breaches_of l.fn.types l.fn.symbols)

abbrev pub decreases-more : goal.decreases-more
decreases-more l = length l.left
