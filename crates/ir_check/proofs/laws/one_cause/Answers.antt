use Rattle.ir_check.proofs.Causes.{cause_is_one}
use Rattle.ir_check.proofs.laws.one_cause.Goals as goal

pub returns : goal.returns
returns c = λ m rule other breach another first second. cause_is_one m rule other breach another first second
