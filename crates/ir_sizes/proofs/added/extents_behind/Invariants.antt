use Rattle.std.proofs.Common.{◌≡◌, length}
use Rattle.text_forms.specs.View.{Extends}
use Rattle.ir_sizes.specs.Known.{AreFirstExtents}
use Rattle.ir_sizes.proofs.added.extents_behind.Given as goal

abbrev pub invariant-loop-place : goal.invariant-loop-place
invariant-loop-place l = record {
  first : AreFirstExtents l.types l.names l.extents.items;
  grows : Extends l.fn.extents.items l.extents.items;
  count : length l.extents.items ≡ l.place;
}
