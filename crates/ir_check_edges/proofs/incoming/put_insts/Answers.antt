use Rattle.std.proofs.Common.{rules}
use Rattle.ir_check_edges.proofs.Rows.{insts_next, insts_within}
use Rattle.ir_check_edges.proofs.incoming.put_insts.Goals as goal

pub loop-inst-preserved : goal.loop-inst-preserved
loop-inst-preserved c = record {
  rest = insts_next c.args.from _ _ c.args.insts.now c.loop-inst.inst-index c.inst-item.result c.goes_to.result.now _ c.loop-inst.invariant.rest (search rules) c.inst-item.is c.goes_to.ensures c.in_ok-put_labels.ensures.put;
  size = search rules;
  within = insts_within _ _ c.args.insts.now c.loop-inst.inst-index c.inst-item.result c.goes_to.result.now c.loop-inst.invariant.within (search rules) c.inst-item.is c.goes_to.ensures c.loop-inst.invariant.size c.in_ok-put_labels.ensures.within;
}
