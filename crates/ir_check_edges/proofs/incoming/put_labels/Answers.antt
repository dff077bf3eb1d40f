use Rattle.std.proofs.Common.{rules, ◌<◌}
use Rattle.std.proofs.lemmas.List.{length-set}
use Rattle.ir_types.specs.declared.name.ValueId.{ValueId}
use Rattle.ir_check_edges.proofs.Rows.{put_next, within_next}
use Rattle.ir_check_edges.proofs.incoming.put_labels.Goals as goal

pub loop-label-preserved : goal.loop-label-preserved
loop-label-preserved c = record {
  rest = put_next c.args.from c.loop-label.rows.items c.push.new.self c.index_mut.result.now c.args.labels.now c.loop-label.label-index (record { 0 = 0 }) _ c.loop-label.invariant.rest (search rules) (search rules) (search rules) (search rules);
  size = search (rules, length-set);
  within = within_next (λ (v : ValueId). v.0 < _) c.args.labels.now c.loop-label.label-index (record { 0 = 0 }) c.loop-label.invariant.within (search rules) (search rules);
}
