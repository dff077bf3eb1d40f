use Rattle.ir_run_laws.proofs.Composed.{allowing-grows}
use Rattle.ir_run_laws.proofs.allowing.allowing_grows.Goals as goal

pub returns : goal.returns
returns c = allowing-grows
