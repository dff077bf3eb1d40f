use Rattle.std.proofs.Common.{◌≡◌, ◌++◌, drop}
use Rattle.ir_check_names.specs.Definitions.{of_blocks}
use Rattle.ir_check_names.proofs.definitions.push_blocks.Given as goal

abbrev pub invariant-loop-block : goal.invariant-loop-block
invariant-loop-block l = l.definitions.items ++ of_blocks l.place (drop l.block-index l.blocks) ≡ l.initial.definitions.items ++ of_blocks 0 l.blocks
