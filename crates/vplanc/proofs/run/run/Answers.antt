use Rattle.vplanc.proofs.Allowed.{allowed-left}
use Rattle.vplanc.proofs.Refusing.{completes}
use Rattle.vplanc.proofs.run.run.Goals as goal

pub returns-clause-complete : goal.returns-clause-complete
returns-clause-complete g c = completes _ _ _ _ _ _ _ _ c.answer-status.ensures.cause c.answer-status.ensures.write

pub returns-clause-allowed : goal.returns-clause-allowed
returns-clause-allowed g c = allowed-left _ _ _ _ _ c.answer-status.ensures.out
