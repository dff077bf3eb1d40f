use Rattle.std.proofs.Common.{◌≡◌, ◌++◌, drop}
use Rattle.ir_check_names.specs.Definitions.{of_params}
use Rattle.ir_check_names.proofs.definitions.push_params.Given as goal

abbrev pub invariant-loop-param : goal.invariant-loop-param
invariant-loop-param l = l.definitions.items ++ of_params (drop l.param-index l.params) ≡ l.initial.definitions.items ++ of_params l.params
