use Rattle.std.proofs.Common.{◌≡◌, ℕ, ◌+◌, ◌<◌, ◌≤◌, List, length, take}
use Rattle.text_forms.specs.View.{Extends}
use Rattle.ir_types.specs.declared.memory_type.MemTy.{MemTy}
use Rattle.ir_types.specs.declared.memory_type.TypeName.{TypeName}
use Rattle.ir_types.specs.Sizes.{SIZE_CAP}
use Rattle.ir_sizes.specs.Known.{EachIsRight}
use Rattle.ir_sizes.specs.Put.{EndAt}
use Rattle.ir_sizes.specs.Prepared.{IsBegun}
use Rattle.ir_sizes.proofs.begins.begins_of_members.Given as goal

abbrev pub invariant-loop-id : goal.invariant-loop-id
invariant-loop-id l = record {
  end_small : l.end ≤ SIZE_CAP;
  grow : Extends l.fn.begins.items l.begins.items;
  count : length l.begins.items ≡ length l.fn.begins.items + l.id-index;
  laid : (types : List MemTy) (names : List TypeName) → EachIsRight types names l.extents → (align : ℕ) × EndAt types names l.packed (take l.id-index l.members) l.end align;
  begun : (types : List MemTy) (names : List TypeName) → EachIsRight types names l.extents → (k : ℕ) → k < l.id-index → IsBegun types names l.packed l.members l.begins.items (length l.fn.begins.items) k;
}
