use Rattle.std.proofs.Common.{◌+◌, arith, rules, ap, length}
use Rattle.vplan_io.proofs.Joined.{piece-taken, part-taken, refused-takes}
use Rattle.vplan_io.proofs.pieces.put_text.Goals as goal

pub loop-done-preserved : goal.loop-done-preserved
loop-done-preserved g c = record {
  within = omega arith;
  bytes = piece-taken _ _ _ _ c.loop-done.done (c.loop-done.done + c.min.result) (omega arith) c.loop-done.invariant.bytes c.in_ok-put.ensures.bytes;
  none = λ e. absurd (omega (arith, ap length e));
  later = search rules;
}

pub returns-in_err-put-clause-bytes : goal.returns-in_err-put-clause-bytes
returns-in_err-put-clause-bytes g c =
    refused-takes _ _ _ _ c.from_residual.ensures.0 (part-taken _ _ _ _ _ _ _ c.loop-done.invariant.bytes c.in_err-put.ensures.bytes.1)
