use Rattle.std.proofs.Common.{◌≡◌, ◌+◌, ◌++◌, ◌∷◌, [], List, Some, length, length-append, refl, ap, ◌∙◌}
use Rattle.std.specs.Prelude.{slice_get}
use Rattle.std.proofs.lemmas.Option.{slice_get_read}
use Rattle.ir_types.specs.declared.memory_type.MemTy.{MemTy}
use Rattle.ir_types.specs.declared.memory_type.TypeName.{TypeName}
use Rattle.ir_types.specs.declared.memory_type.Extent.{Extent}
use Rattle.ir_types.specs.Types.{AreTypes}
use Rattle.ir_types.proofs.NameAt.{extends_trans}
use Rattle.ir_sizes.specs.Known.{AreFirstExtents, EachIsRight, IsRight, AreSized, IsSized}
use Rattle.ir_sizes.specs.Definitions.{names_in}
use Rattle.ir_sizes.proofs.Setting.{right_small, first_right}
use Rattle.ir_sizes.proofs.Pushing.{parts_sized, one_extent_more}
use Rattle.ir_sizes.proofs.PlaceNodes.{type_at}
use Rattle.ir_sizes.proofs.added.extents_behind.Goals as goal

pub extent_of-extent-requires : goal.extent_of-extent-requires
extent_of-extent-requires c =
    let first = c.loop-place.invariant.first in
    rw c.as_slice.ensures.value (right_small c.args.types.now c.args.names.now c.loop-place.extents.items (first_right c.args.types.now c.args.names.now c.loop-place.extents.items first.within first.each))

-- the next type with its extent, behind those before
more : (types : List MemTy) (names : List TypeName) (extents seen all : List Extent) (t : MemTy) (x : Extent) → AreTypes (names_in names) 0 types → AreFirstExtents types names extents → slice_get types (length extents) ≡ Some t → seen ≡ extents → all ≡ extents ++ x ∷ []
    → (EachIsRight types names seen → IsRight types names t x) → (AreSized names seen t → IsSized x) → AreFirstExtents types names all
more types names extents seen all t x are first found same is right sized =
    let at = type_at (names_in names) types (length extents) t are found in
    rw is
    (one_extent_more types names extents first t x found
    (right (rw same (first_right types names extents first.within first.each)))
    (λ l laid. sized (rw same (parts_sized types names extents first (names_in names) t l at laid))))

pub loop-place-preserved : goal.loop-place-preserved
loop-place-preserved c =
    let count = c.loop-place.invariant.count in
    let found : slice_get c.args.types.now (length c.loop-place.extents.items) ≡ Some c.index-types-place.result = rw count (slice_get_read c.args.types.now _ c.loop-place.place c.index-types-place.result refl c.loop-place-test.true c.index-types-place.is) in
    record {
      first = more c.args.types.now c.args.names.now c.loop-place.extents.items c.as_slice.result.now c.push.new.self.items c.index-types-place.result c.extent_of-extent.result c.requires.types c.loop-place.invariant.first found c.as_slice.ensures.value c.in_ok-push.ensures.items (c.extent_of-extent.ensures.right c.args.types.now) c.extent_of-extent.ensures.sized;
      grows = extends_trans c.args.extents.now.items c.loop-place.extents.items c.push.new.self.items c.loop-place.invariant.grows (record { more = c.extent_of-extent.result ∷ []; parts = c.in_ok-push.ensures.items });
      count = ap length c.in_ok-push.ensures.items ∙ length-append c.loop-place.extents.items (c.extent_of-extent.result ∷ []) ∙ ap (λ n. n + 1) count;
    }
