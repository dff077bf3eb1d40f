use Rattle.std.proofs.Common.{◌∷◌, [], length, max, ap, ◌∙◌, arith}
use Rattle.ir_types.specs.Sizes.{aligned}
use Rattle.ir_types.proofs.NameAt.{extends_refl, extends_trans}
use Rattle.ir_sizes.specs.Put.{put_at}
use Rattle.ir_sizes.proofs.Members.{end_none, end_next}
use Rattle.ir_sizes.proofs.Beginning.{begins_next, begun_next}
use Rattle.ir_sizes.proofs.begins.begins_of_members.Goals as goal

pub loop-id-init : goal.loop-id-init
loop-id-init c = record {
  end_small = omega arith;
  grow = extends_refl c.args.begins.now.items;
  count = omega arith;
  laid = λ types names right. (1, end_none types names c.args.packed);
  begun = λ types names right k lt. absurd (omega arith);
}

pub loop-id-preserved : goal.loop-id-preserved
loop-id-preserved c =
    let invariant = c.loop-id.invariant in
    let begins = c.loop-id.begins.items in
    let new = c.push.new.self.items in
    let pushed = c.in_ok-push.ensures.items in
    let is = c.in-Size.ensures in
    let begin = c.aligned_up-begin.ensures ∙ ap (λ a. aligned a c.loop-id.end) c.member_align.ensures in
    record {
      end_small = omega (arith, c.min-end.ensures);
      grow = extends_trans c.args.begins.now.items begins new invariant.grow (record { more = c.aligned_up-begin.result ∷ []; parts = pushed });
      count = omega (arith, invariant.count, c.in_ok-push.ensures.len);
      laid = λ types names right.
          let e = invariant.laid types names right in
          let next = end_next types names c.args.extents.now c.args.packed c.args.members.now c.loop-id.id-index _ c.loop-id.end e.0 c.in-Size.size c.in-Size.natural right c.loop-id-test.true e.1 is in
          (max (put_at c.args.packed c.in-Size.natural) e.0, rw (c.min-end.ensures, begin) next);
      begun = λ types names right.
          let e = invariant.laid types names right in
          let next = begins_next types names c.args.extents.now c.args.packed c.args.members.now c.loop-id.id-index _ c.loop-id.end e.0 c.in-Size.size c.in-Size.natural c.aligned_up-begin.result right c.loop-id-test.true e.1 is begin in
          begun_next types names c.args.packed c.args.members.now begins new (length c.args.begins.now.items) c.loop-id.id-index c.aligned_up-begin.result invariant.count pushed next (invariant.begun types names right);
    }
