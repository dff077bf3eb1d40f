use Rattle.ir_shape.proofs.Narrowed.{tree_narrow}
use Rattle.ir_shape.proofs.narrow_is_printable.Goals as goal

pub returns : goal.returns
returns c = tree_narrow
