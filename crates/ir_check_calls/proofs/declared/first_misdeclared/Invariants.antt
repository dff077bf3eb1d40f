use Rattle.std.proofs.Common.{◌≡◌, length}
use Rattle.std.specs.Prelude.{filter_map}
use Rattle.ir_rules.specs.Breaches.{first}
use Rattle.ir_check_calls.specs.Heads.{misdeclared_of}
use Rattle.ir_check_calls.proofs.declared.first_misdeclared.Given as goal

abbrev pub invariant-more : goal.invariant-more
invariant-more l = first (filter_map (misdeclared_of l.functions) l.left) ≡ first (filter_map (misdeclared_of l.fn.functions) l.fn.symbols)

abbrev pub decreases-more : goal.decreases-more
decreases-more l = length l.left
