use Rattle.ir_run_laws.proofs.Composed.{allows-itself}
use Rattle.ir_run_laws.proofs.allowing.module_allows_itself.Goals as goal

pub returns : goal.returns
returns c = allows-itself
