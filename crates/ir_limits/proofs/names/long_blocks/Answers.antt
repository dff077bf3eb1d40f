use Rattle.std.proofs.Common.{sym, ◌∙◌}
use Rattle.ir_types.specs.Denotes.{block_in}
use Rattle.ir_limits.specs.Mentioned.{in_block}
use Rattle.ir_limits.specs.Limits.{first_long}
use Rattle.ir_limits.proofs.Firsts.{found_item, none_at_all, first_of_each}
use Rattle.ir_limits.proofs.names.long_blocks.Goals as goal

pub returns-in-Some : goal.returns-in-Some
returns-in-Some c =
    found_item (λ b. first_long (in_block (block_in c.args.tables.now c.args.names.now b))) c.args.blocks.now c.loop-block.block-index c.block-item.result c.in-Some.count c.loop-block-test.true c.block-item.is c.loop-block.invariant (sym c.long_block.ensures ∙ c.in-Some.is) ∙ first_of_each (block_in c.args.tables.now c.args.names.now) in_block c.args.blocks.now

pub returns : goal.returns
returns c = none_at_all (λ b. first_long (in_block (block_in c.args.tables.now c.args.names.now b))) c.args.blocks.now c.loop-block.block-index c.loop-block-test.false c.loop-block.invariant ∙ first_of_each (block_in c.args.tables.now c.args.names.now) in_block c.args.blocks.now
