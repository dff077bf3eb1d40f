-- Well-formed modules.
use Rattle.ir_types.specs.declared.module.Module.{Module}
use Rattle.ir_types.specs.Denotes.{tree_of}
use Rattle.ir_shape.specs.Modules.{IsModule}
use Rattle.ir_rules.specs.WellFormed.{KeepsRules}

-- a module whose tree breaks no rule
pub record IsWellFormed (m : Module) : Type 0 where
  pub is_module : IsModule m
  pub keeps : KeepsRules (tree_of m)
