use Rattle.std.proofs.Common.{◌≡◌, length}
use Rattle.std.specs.Prelude.{filter_map}
use Rattle.ir_rules.specs.Breaches.{first}
use Rattle.ir_check_calls.specs.Heads.{miscalled_in}
use Rattle.ir_check_calls.proofs.check.first_miscalled.Given as goal

abbrev pub invariant-more : goal.invariant-more
invariant-more l = first (filter_map (miscalled_in l.m l.places.keys) l.left) ≡ first (filter_map (miscalled_in l.fn.m l.fn.places.keys) l.fn.functions)

abbrev pub decreases-more : goal.decreases-more
decreases-more l = length l.left
