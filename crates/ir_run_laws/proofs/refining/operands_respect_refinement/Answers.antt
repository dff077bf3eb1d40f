use Rattle.ir_run_laws.proofs.Operands.{values-respect, phi-respects}
use Rattle.ir_run_laws.proofs.refining.operands_respect_refinement.Goals as goal

pub returns-clause-operands : goal.returns-clause-operands
returns-clause-operands c = λ types here other env there m e tys args ws. values-respect here other types env there tys args ws m e

pub returns-clause-phis : goal.returns-clause-phis
returns-clause-phis c = λ types here other env there m e left i w. phi-respects here other types env there left i w m e
