use Rattle.std.proofs.Common.{◌∙◌, rules}
use Rattle.ir_check_edges.proofs.Rows.{blocks_next, blocks_within, blocks_end}
use Rattle.ir_check_edges.proofs.incoming.edges_into.Goals as goal

pub loop-block-preserved : goal.loop-block-preserved
loop-block-preserved c = record {
  rest = blocks_next _ _ c.as_slice-block-items.result.now c.args.function.now.body c.loop-block.block-index c.block-item.result c.as_slice.result.now _ c.loop-block.invariant.rest c.as_slice-block-items.ensures (search rules) c.block-item.is c.as_slice.ensures c.in_ok-put_insts.ensures.put;
  size = c.in_ok-put_insts.ensures.size ∙ c.loop-block.invariant.size;
  within = blocks_within _ _ c.as_slice-block-items.result.now c.args.function.now.body c.loop-block.block-index c.block-item.result c.as_slice.result.now c.loop-block.invariant.within c.as_slice-block-items.ensures (search rules) c.block-item.is c.as_slice.ensures c.loop-block.invariant.size c.in_ok-put_insts.ensures.within;
}

pub returns : goal.returns
returns c = blocks_end c.args.function.now c.loop-block.rows.items c.as_slice-block-items.result.now c.loop-block.block-index c.len.ensures.table c.as_slice-block-items.ensures (search rules) c.loop-block.invariant.rest c.loop-block.invariant.size c.loop-block.invariant.within
