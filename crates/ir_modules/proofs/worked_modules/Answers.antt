use Rattle.ir_modules.proofs.Worked.{one, tables_lack, names_lack, ending_lacks, operators_lack}
use Rattle.ir_modules.proofs.worked_modules.Goals as goal

pub returns-clause-one : goal.returns-clause-one
returns-clause-one c = one

pub returns-clause-tables : goal.returns-clause-tables
returns-clause-tables c = tables_lack

pub returns-clause-names : goal.returns-clause-names
returns-clause-names c = names_lack

pub returns-clause-ending : goal.returns-clause-ending
returns-clause-ending c = ending_lacks

pub returns-clause-operators : goal.returns-clause-operators
returns-clause-operators c = operators_lack
