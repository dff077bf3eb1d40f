use Rattle.ir_check_paths.proofs.BreachLemmas.{ModuleRest}
use Rattle.ir_check_paths.proofs.module.unavailable.Given as goal

abbrev pub invariant-loop-function : goal.invariant-loop-function
invariant-loop-function l = ModuleRest l.m l.function-index
