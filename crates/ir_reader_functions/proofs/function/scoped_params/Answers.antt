use Rattle.ir_reader_values.proofs.Widening.{names_widen}
use Rattle.ir_reader_functions.proofs.function.scoped_params.Goals as goal

pub returns-clause-grows : goal.returns-clause-grows
returns-clause-grows c = names_widen c.args.scope.now c.enclosed_params.new.names c.enclosed_params.ensures.grows
