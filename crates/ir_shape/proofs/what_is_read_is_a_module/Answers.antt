use Rattle.ir_shape.proofs.Known.{read_is_module}
use Rattle.ir_shape.proofs.what_is_read_is_a_module.Goals as goal

pub returns : goal.returns
returns c = read_is_module
