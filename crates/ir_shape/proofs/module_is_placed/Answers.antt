use Rattle.ir_shape.proofs.Placing.{module_placed}
use Rattle.ir_shape.proofs.module_is_placed.Goals as goal

pub returns : goal.returns
returns c = module_placed
