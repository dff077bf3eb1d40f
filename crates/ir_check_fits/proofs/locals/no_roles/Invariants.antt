use Rattle.std.proofs.Common.{◌≡◌, ℕ, Bool, false, length}
use Rattle.ir_rules.specs.Locals.{Given}
use Rattle.ir_check_fits.specs.Roles.{has_role}
use Rattle.ir_check_fits.proofs.locals.no_roles.Given as goal

abbrev pub invariant-loop : goal.invariant-loop
invariant-loop l = (length l.lists.items ≡ l.counter) × ((i : ℕ) (p : Given → Bool) → has_role l.lists.items i p ≡ false)
