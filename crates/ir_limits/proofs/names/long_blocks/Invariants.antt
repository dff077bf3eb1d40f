use Rattle.std.proofs.Common.{◌≡◌, drop}
use Rattle.ir_types.specs.Denotes.{block_in}
use Rattle.ir_limits.specs.Mentioned.{in_block}
use Rattle.ir_limits.specs.Limits.{first_long}
use Rattle.ir_limits.proofs.Firsts.{first_of}
use Rattle.ir_limits.proofs.names.long_blocks.Given as goal

abbrev pub invariant-loop-block : goal.invariant-loop-block
invariant-loop-block l = first_of (λ b. first_long (in_block (block_in l.tables l.names b))) (drop l.block-index l.blocks) ≡ first_of (λ b. first_long (in_block (block_in l.tables l.names b))) l.blocks
