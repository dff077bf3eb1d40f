use Rattle.std.proofs.Common.{◌≡◌, length, take}
use Rattle.std.specs.Prelude.{sum_by}
use Rattle.ir_types.specs.declared.module.Function.{Function}
use Rattle.ir_limits.proofs.counts.block_count.Given as goal

abbrev pub invariant-loop-function : goal.invariant-loop-function
invariant-loop-function l = l.count ≡ sum_by (λ (f : Function). length f.body) (take l.function-index l.functions)
