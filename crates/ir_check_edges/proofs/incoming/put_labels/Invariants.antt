use Rattle.std.proofs.Common.{◌≡◌, ◌<◌, length, drop}
use Rattle.std.specs.List.{AllByRecursion}
use Rattle.ir_types.specs.declared.name.ValueId.{ValueId}
use Rattle.ir_check_edges.specs.Incoming.{rows_of, put_all}
use Rattle.ir_check_edges.proofs.incoming.put_labels.Given as goal

abbrev pub invariant-loop-label : goal.invariant-loop-label
invariant-loop-label l = record {
  rest : put_all l.from (rows_of l.rows.items) (drop l.label-index l.labels) ≡ put_all l.from (rows_of l.initial.rows.items) l.labels;
  size : length l.rows.items ≡ length l.initial.rows.items;
  within : AllByRecursion (λ (v : ValueId). v.0 < length l.initial.rows.items) (drop l.label-index l.labels) → AllByRecursion (λ (v : ValueId). v.0 < length l.initial.rows.items) l.labels;
}
