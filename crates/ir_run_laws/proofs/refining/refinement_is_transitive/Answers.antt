use Rattle.ir_run_laws.proofs.Order.{is_transitive}
use Rattle.ir_run_laws.proofs.refining.refinement_is_transitive.Goals as goal

pub returns : goal.returns
returns c = is_transitive
