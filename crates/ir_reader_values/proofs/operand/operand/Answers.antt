use Rattle.std.proofs.Common.{sym}
use Rattle.ir_reader_values.proofs.operand.operand.Goals as goal

pub returns-in-Stepped-clause-reads : goal.returns-in-Stepped-clause-reads
returns-in-Stepped-clause-reads c = rw (c.in-Stepped.is, sym c.as_slice-in-Stepped.ensures) (c.stepped.ensures.reads c.args.ty)
