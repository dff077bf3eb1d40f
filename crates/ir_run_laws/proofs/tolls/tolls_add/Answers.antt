use Rattle.ir_run_laws.proofs.Ledger.{tolls-add}
use Rattle.ir_run_laws.proofs.tolls.tolls_add.Goals as goal

pub returns : goal.returns
returns c = tolls-add
