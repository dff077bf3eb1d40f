use Rattle.std.proofs.Common.{sym, ◌∙◌, arith}
use Rattle.ir_types.proofs.name.NamesCopies.copy.Goals as goal
use Rattle.ir_types.proofs.Copying.{copied_next}

pub loop-place-preserved : goal.loop-place-preserved
loop-place-preserved c =
    copied_next c.loop-place.copy c.add.new.self c.args.self.now c.loop-place.place c.in_ok-name.name c.len-place-end.ensures.table c.loop-place.invariant (omega arith) (c.get.ensures ∙ sym c.in_ok-name.ensures) c.in_ok-add.ensures.ok
