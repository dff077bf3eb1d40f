use Rattle.std.proofs.Common.{ap, ◌∙◌, map}
use Rattle.ir_types.specs.declared.memory_type.TypeName.{TypeName}
use Rattle.ir_limits.specs.Longs.{long_from}
use Rattle.ir_limits.proofs.Reached.{longs_pushed}
use Rattle.ir_limits.proofs.longs.long_names.Goals as goal

pub loop-ty-preserved : goal.loop-ty-preserved
loop-ty-preserved c =
    let names = map (λ (n : TypeName). n.name) c.args.names.now in
    longs_pushed names c.args.types.now c.loop-ty.ty-index c.ty-item.result c.loop-ty.longs.items c.push.new.self.items c.long_from-long.result c.loop-ty-test.true c.ty-item.is c.loop-ty.invariant (c.long_from-long.ensures ∙ ap (λ longs. long_from names longs c.ty-item.result) c.as_slice.ensures.value) c.in_ok-push.ensures.items
