use Rattle.std.proofs.Common.{◌≡◌, take, take_all, sym, subst, arith}
use Rattle.ir_types.specs.declared.memory_type.Extent.TheVariants.{Size}
use Rattle.ir_sizes.specs.Known.{IsSmall}
use Rattle.ir_sizes.proofs.Members.{end_none, end_next, put_bound}
use Rattle.ir_sizes.proofs.single.end_of.Goals as goal

pub loop-id-init : goal.loop-id-init
loop-id-init c = record {
  end_small = omega arith;
  align_low = omega arith;
  align_high = omega arith;
  laid = λ types names h. end_none types names c.args.packed;
}

pub loop-id-preserved : goal.loop-id-preserved
loop-id-preserved c =
    let small : IsSmall (Size c.in-Size.size c.in-Size.natural) = subst IsSmall (sym c.in-Size.ensures) (c.requires _) in
    let is = c.in-Size.ensures in
    let bound = put_bound c.args.packed c.in-Size.natural small.1 small.2 in
    record {
      end_small = omega arith;
      align_low = omega arith;
      align_high = omega (arith, c.member_align-put_at.ensures);
      laid = λ types names h.
          let next = end_next types names c.args.extents.now c.args.packed c.args.members.now c.loop-id.id-index _ c.loop-id.bytes c.loop-id.align c.in-Size.size c.in-Size.natural h c.loop-id-test.true (c.loop-id.invariant.laid types names h) is in
          rw (c.min-bytes.ensures, c.max-align.ensures, c.aligned_up.ensures, c.member_align-put_at.ensures) next;
    }

pub returns-clause-right : goal.returns-clause-right
returns-clause-right c = λ types names h.
    let whole : take c.loop-id.id-index c.args.members.now ≡ c.args.members.now = take_all c.loop-id.id-index c.args.members.now c.loop-id-test.false in
    let e = c.loop-id.invariant.laid types names h in
    rw whole at e
