use Rattle.std.proofs.Common.{◌≡◌, length, take}
use Rattle.std.specs.Prelude.{sum_by}
use Rattle.ir_types.specs.declared.module.Block.{Block}
use Rattle.ir_limits.proofs.counts.instructions_in.Given as goal

abbrev pub invariant-loop-block : goal.invariant-loop-block
invariant-loop-block l = l.count ≡ sum_by (λ (b : Block). length b.insts) (take l.block-index l.blocks)
