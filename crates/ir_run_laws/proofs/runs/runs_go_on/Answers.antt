use Rattle.ir_run_laws.proofs.Onward.{runs-go-on}
use Rattle.ir_run_laws.proofs.runs.runs_go_on.Goals as goal

pub returns : goal.returns
returns c = runs-go-on
