use Rattle.ir_run_laws.proofs.Settled.{one_world}
use Rattle.ir_run_laws.proofs.allowing.one_world_serves.Goals as goal

pub returns : goal.returns
returns c = one_world
