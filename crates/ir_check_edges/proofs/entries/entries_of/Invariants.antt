use Rattle.std.proofs.Common.{◌≡◌, ◌<◌, ◌++◌, length, map, zip}
use Rattle.std.specs.List.{AllByRecursion}
use Rattle.ir_types.specs.declared.name.ValueId.{ValueId}
use Rattle.ir_check_edges.specs.declared.entries.Entry.{Entry}
use Rattle.ir_check_edges.specs.Agreeing.{pair_of}
use Rattle.ir_check_edges.proofs.Agreements.{listed}
use Rattle.ir_check_edges.proofs.entries.entries_of.Given as goal

abbrev pub invariant-loop-place : goal.invariant-loop-place
invariant-loop-place l = record {
  rest : map pair_of l.entries.items ++ listed l.args l.labels l.place ≡ zip l.args (map (λ (v : ValueId). v.0) l.labels);
  within : AllByRecursion (λ (e : Entry). e.label < length l.names) l.entries.items;
}
