use Rattle.std.proofs.Common.{◌≡◌, List, length}
use Rattle.text_forms.specs.View.{Extends}
use Rattle.ir_types.specs.declared.memory_type.TypeName.{TypeName}
use Rattle.ir_sizes.specs.Known.{EachIsRight}
use Rattle.ir_sizes.specs.Prepared.{AreStarts}
use Rattle.ir_sizes.proofs.begins.begins_behind.Given as goal

abbrev pub invariant-loop-place : goal.invariant-loop-place
invariant-loop-place l = record {
  count : length l.starts.items ≡ l.place;
  starts_grow : Extends l.fn.starts.items l.starts.items;
  begins_grow : Extends l.fn.begins.items l.begins.items;
  are : (names : List TypeName) → EachIsRight l.types names l.extents → AreStarts l.types names l.extents l.fn.starts.items l.fn.begins.items → AreStarts l.types names l.extents l.starts.items l.begins.items;
}
