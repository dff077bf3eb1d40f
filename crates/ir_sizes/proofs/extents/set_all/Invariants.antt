use Rattle.std.proofs.Common.{◌≡◌, ◌<◌, ℕ, true, false}
use Rattle.ir_sizes.specs.Known.{AreRight, IsSettledAt, unset}
use Rattle.ir_sizes.proofs.extents.set_all.Given as goal

abbrev pub invariant-loop-place : goal.invariant-loop-place
invariant-loop-place l = record {
  right : AreRight l.types l.names l.extents;
  set : l.any ≡ true → unset l.extents < unset l.initial.extents;
  stays : l.any ≡ false → l.extents ≡ l.initial.extents;
  settled : l.any ≡ false → (i : ℕ) → i < l.place → IsSettledAt l.types l.names l.extents i;
}
