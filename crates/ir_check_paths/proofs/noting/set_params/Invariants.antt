use Rattle.std.proofs.Common.{◌≡◌, drop, length}
use Rattle.ir_check_paths.specs.Setting.{params_set}
use Rattle.ir_check_paths.proofs.noting.set_params.Given as goal

abbrev pub invariant-loop-param : goal.invariant-loop-param
invariant-loop-param l = record {
  rest : params_set (drop l.param-index l.params) l.origins.items ≡ params_set l.params l.initial.origins.items;
  size : length l.origins.items ≡ length l.initial.origins.items;
}
