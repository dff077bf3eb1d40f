use Rattle.std.proofs.Common.{length, take, sym, ap, ◌∙◌, arith}
use Rattle.ir_reader.proofs.Setting.{with_none, with_length, set_next}
use Rattle.ir_reader.proofs.named.set_types.Goals as goal

pub loop-place-init : goal.loop-place-init
loop-place-init c = sym (with_none c.args.names.now)

pub set-requires : goal.set-requires
set-requires c =
    let e = ap length c.loop-place.invariant ∙ with_length c.args.names.now (take c.loop-place.place c.args.named.now) in
    let lt = c.loop-place-test.true in
    let le = c.requires in
    omega (arith, e, lt, le)

pub loop-place-preserved : goal.loop-place-preserved
loop-place-preserved c = set_next c.args.names.now c.loop-place.names c.set.new.self c.args.named.now c.loop-place.place _ c.set.ensures.types c.loop-place.invariant c.loop-place-test.true c.requires
