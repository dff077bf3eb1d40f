use Rattle.std.proofs.Common.{◌≡◌, false, nat_eq}
use Rattle.std.specs.List.{list_any}
use Rattle.ir_rules.specs.Mismatch.{powers_below}
use Rattle.ir_check_fits.proofs.numbers.is_alignment.Given as goal

abbrev pub invariant-loop-shift : goal.invariant-loop-shift
invariant-loop-shift l = list_any (nat_eq l.number) (powers_below l.shift) ≡ false
