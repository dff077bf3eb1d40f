use Rattle.ir_run_laws.proofs.Refused.{none_allowed, targets_swapped, entry_changed, never_returns}
use Rattle.ir_run_laws.proofs.worked.allows_no_other_module.Goals as goal

pub returns : goal.returns
returns c = (none_allowed, (targets_swapped, (entry_changed, (never_returns, tt))))
