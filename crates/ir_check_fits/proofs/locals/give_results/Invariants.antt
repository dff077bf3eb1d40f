use Rattle.std.proofs.Common.{◌≡◌, ◌<◌, ◌||◌, ℕ, Bool, length, take}
use Rattle.std.specs.List.{list_any}
use Rattle.ir_rules.specs.Locals.{Given}
use Rattle.ir_check_fits.specs.Roles.{has_role, at_result}
use Rattle.ir_check_fits.proofs.locals.give_results.Given as goal

abbrev pub invariant-loop-inst : goal.invariant-loop-inst
invariant-loop-inst l = (i : ℕ) (p : Given → Bool) → i < length l.lists → has_role l.lists i p ≡ (has_role l.fn.lists i p || list_any (at_result i p) (take l.inst-index l.insts))
