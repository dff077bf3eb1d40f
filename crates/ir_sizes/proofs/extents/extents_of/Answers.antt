use Rattle.std.proofs.Common.{◌≡◌, ◌++◌, ℕ, List, take, drop, length, refl, ◌∙◌, arith}
use Rattle.std.proofs.Math.Seq.{take-append_seam}
use Rattle.ir_types.specs.declared.memory_type.Extent.{Extent}
use Rattle.ir_sizes.proofs.Setting.{settled_extents}
use Rattle.ir_sizes.proofs.extents.extents_of.Goals as goal

-- what is left in a vector whose items were written as one slice
written : (n : ℕ) (new old : List Extent) → length new ≡ n → take n (new ++ drop (length new) old) ≡ new
written n new old e = rw (← e) (take-append_seam new (drop (length new) old))

pub returns : goal.returns
returns c =
    let right = c.loop-test.ensures.right in
    let as_many : length c.set_all.new.extents ≡ c.loop.extents.len = omega (arith, right.as_many, c.loop.invariant.as_many, c.loop.extents.ok.0) in
    let kept : c.from_vec.result ≡ c.set_all.new.extents = c.from_vec.ensures ∙ written c.loop.extents.len c.set_all.new.extents c.loop.extents.items as_many in
    rw kept (settled_extents c.args.types.now c.args.names.now c.set_all.new.extents right (c.loop-test.ensures.settled refl))
