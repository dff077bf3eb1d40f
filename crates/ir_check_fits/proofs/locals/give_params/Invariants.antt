use Rattle.std.proofs.Common.{◌≡◌, ◌<◌, ◌||◌, ℕ, Bool, length, take}
use Rattle.std.specs.List.{list_any}
use Rattle.ir_rules.specs.Locals.{Given}
use Rattle.ir_check_fits.specs.Roles.{has_role, at_param}
use Rattle.ir_check_fits.proofs.locals.give_params.Given as goal

abbrev pub invariant-loop-param : goal.invariant-loop-param
invariant-loop-param l = (i : ℕ) (p : Given → Bool) → i < length l.lists → has_role l.lists i p ≡ (has_role l.fn.lists i p || list_any (at_param i p) (take l.param-index l.params))
