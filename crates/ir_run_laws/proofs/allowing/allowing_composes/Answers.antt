use Rattle.ir_run_laws.proofs.Composed.{allowing-composes}
use Rattle.ir_run_laws.proofs.allowing.allowing_composes.Goals as goal

pub returns : goal.returns
returns c = allowing-composes
