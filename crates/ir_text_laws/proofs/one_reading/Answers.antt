use Rattle.ir_text_laws.proofs.Readings.{one_reading, one_numbering}
use Rattle.ir_text_laws.proofs.one_reading.Goals as goal

pub returns-clause-tree : goal.returns-clause-tree
returns-clause-tree c = one_reading

pub returns-clause-items : goal.returns-clause-items
returns-clause-items c = one_numbering
