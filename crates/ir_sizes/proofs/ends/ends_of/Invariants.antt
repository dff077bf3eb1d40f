use Rattle.std.proofs.Common.{ℕ, ◌<◌}
use Rattle.ir_sizes.specs.Prepared.{AreEnds, IsEndedAt}
use Rattle.ir_sizes.proofs.ends.ends_of.Given as goal

abbrev pub invariant-loop-place : goal.invariant-loop-place
invariant-loop-place l = record {
  ends : AreEnds l.types l.names l.ends.items;
  known : (k : ℕ) → k < l.place → IsEndedAt l.names l.extents l.ends.items k;
}
