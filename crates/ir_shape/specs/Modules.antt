-- What a module is, whether it was read or made by code.
use Rattle.ir_types.specs.declared.module.Module.{Module}
use Rattle.ir_types.specs.Denotes.{tree_of, Denotes}
use Rattle.ir_shape.specs.Shape.{HasShape}

-- the module's lists are those of the tree that it denotes, and this has the shape of a module
pub record IsModule (m : Module) : Type 0 where
  pub denotes : Denotes m (tree_of m)
  pub shape : HasShape (tree_of m)
