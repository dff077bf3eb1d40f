use Rattle.ir_reader_values.proofs.Widening.{tables_widen}
use Rattle.ir_reader_functions.proofs.function.defined_over.Goals as goal

pub returns-in-Ok-clause-stays : goal.returns-in-Ok-clause-stays
returns-in-Ok-clause-stays c = λ later grows.
    let s = c.defined_parts-read.new.scope in
    rw c.with_names.ensures.function (c.in-Ok.ensures.stays (record s { tables = later }) (tables_widen s later grows))
