use Rattle.ir_run_laws.proofs.Operations.{respected}
use Rattle.ir_run_laws.proofs.refining.operations_respect_refinement.Goals as goal

pub returns : goal.returns
returns c = λ m here other kind ty labels mem n vs ws h. respected m here other labels kind ty n vs ws mem h
