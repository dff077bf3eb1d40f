use Rattle.ir_run_laws.proofs.Detour.{at_toll, with_factor, charge_needed}
use Rattle.ir_run_laws.proofs.worked.worked_toll.Goals as goal

pub returns-clause-toll : goal.returns-clause-toll
returns-clause-toll c = at_toll

pub returns-clause-factor : goal.returns-clause-factor
returns-clause-factor c = with_factor

pub returns-clause-needed : goal.returns-clause-needed
returns-clause-needed c = charge_needed
