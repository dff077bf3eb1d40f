use Rattle.ir_shape.proofs.Known.{read_known}
use Rattle.ir_shape.proofs.what_is_read_has_shape.Goals as goal

pub returns : goal.returns
returns c = read_known
