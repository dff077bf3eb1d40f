use Rattle.std.proofs.Common.{◌≡◌, [], replicate}
use Rattle.ir_check_edges.specs.Incoming.{rows_of}
use Rattle.ir_check_edges.proofs.incoming.empty_rows.Given as goal

abbrev pub invariant-loop : goal.invariant-loop
invariant-loop l = rows_of l.rows.items ≡ replicate l.counter []
