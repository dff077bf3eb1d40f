use Rattle.std.proofs.Common.{◌≡◌, drop, length}
use Rattle.ir_check_paths.specs.Setting.{results_set}
use Rattle.ir_check_paths.proofs.noting.set_results.Given as goal

abbrev pub invariant-loop-place : goal.invariant-loop-place
invariant-loop-place l = record {
  rest : results_set l.block l.place (drop l.place l.insts) l.origins.items ≡ results_set l.block 0 l.insts l.initial.origins.items;
  size : length l.origins.items ≡ length l.initial.origins.items;
}
