use Rattle.ir_check.proofs.Causes.{verdict}
use Rattle.ir_check.proofs.laws.one_verdict.Goals as goal

pub returns : goal.returns
returns c = λ m rule breach keeps cause. verdict m rule breach keeps cause
