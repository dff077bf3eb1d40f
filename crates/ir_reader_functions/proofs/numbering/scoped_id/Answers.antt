use Rattle.ir_reader_values.proofs.Widening.{names_widen}
use Rattle.ir_reader_functions.proofs.numbering.scoped_id.Goals as goal

pub returns-clause-grows : goal.returns-clause-grows
returns-clause-grows c = names_widen c.args.scope.now c.named_id.new.names c.named_id.ensures.grows
