use Rattle.std.proofs.Common.{◌≡◌, [], length, drop, replicate}
use Rattle.ir_check_edges.specs.Incoming.{rows_of, put_blocks}
use Rattle.ir_check_edges.proofs.Rows.{AreWithin}
use Rattle.ir_check_edges.proofs.incoming.edges_into.Given as goal

abbrev pub invariant-loop-block : goal.invariant-loop-block
invariant-loop-block l = record {
  rest : put_blocks (rows_of l.rows.items) (drop l.block-index l.function.body) ≡ put_blocks (replicate (length l.function.names) []) l.function.body;
  size : length l.rows.items ≡ length l.function.names;
  within : AreWithin (length l.function.names) (drop l.block-index l.function.body) → AreWithin (length l.function.names) l.function.body;
}
