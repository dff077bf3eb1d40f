use Rattle.std.proofs.Common.{◌≡◌, drop, length, replicate}
use Rattle.ir_check_paths.specs.declared.origins.Origin.TheVariants.{Unknown}
use Rattle.ir_check_paths.specs.Setting.{blocks_set}
use Rattle.ir_check_paths.proofs.noting.origins_of.Given as goal

abbrev pub invariant-loop-number : goal.invariant-loop-number
invariant-loop-number l = record {
  rest : blocks_set l.number (drop l.number l.function.body) l.origins.items ≡ blocks_set 0 l.function.body (replicate (length l.function.names) Unknown);
  size : length l.origins.items ≡ length l.function.names;
}
