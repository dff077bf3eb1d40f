use Rattle.ir_run_laws.proofs.Order.{is_reflexive}
use Rattle.ir_run_laws.proofs.refining.refinement_is_reflexive.Goals as goal

pub returns : goal.returns
returns c = is_reflexive
