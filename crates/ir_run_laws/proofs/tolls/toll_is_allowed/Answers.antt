use Rattle.ir_run_laws.proofs.Ledger.{toll-is-allowed}
use Rattle.ir_run_laws.proofs.tolls.toll_is_allowed.Goals as goal

pub returns : goal.returns
returns c = toll-is-allowed
