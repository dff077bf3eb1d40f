use Rattle.std.proofs.Common.{◌≡◌, ◌<◌, length, drop}
use Rattle.std.specs.List.{AllByRecursion}
use Rattle.ir_types.specs.declared.name.ValueId.{ValueId}
use Rattle.ir_check_edges.specs.Incoming.{rows_of, put_all, labels_by}
use Rattle.ir_check_edges.proofs.incoming.put_insts.Given as goal

abbrev pub invariant-loop-inst : goal.invariant-loop-inst
invariant-loop-inst l = record {
  rest : put_all l.from (rows_of l.rows.items) (labels_by (drop l.inst-index l.insts)) ≡ put_all l.from (rows_of l.initial.rows.items) (labels_by l.insts);
  size : length l.rows.items ≡ length l.initial.rows.items;
  within : AllByRecursion (λ (v : ValueId). v.0 < length l.initial.rows.items) (labels_by (drop l.inst-index l.insts)) → AllByRecursion (λ (v : ValueId). v.0 < length l.initial.rows.items) (labels_by l.insts);
}
