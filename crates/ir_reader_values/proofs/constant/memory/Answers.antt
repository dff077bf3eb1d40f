use Rattle.ir_reader_values.proofs.constant.memory.Goals as goal

pub returns-clause-stays : goal.returns-clause-stays
returns-clause-stays c = λ later w. c.in_ok-id.ensures.stays later.tables w.tables
