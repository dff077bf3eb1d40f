use Rattle.ir_reader_values.proofs.Using.{uses_behind}
use Rattle.std.proofs.Common.{refl, [], ◌∷◌}
use Rattle.ir_reader_values.specs.Seen.{operand_seen}
use Rattle.ir_reader_values.proofs.Widening.{widens_trans, steady_behind}
use Rattle.ir_reader_values.proofs.typed.typed_pair.Goals as goal

pub returns-clause-stays : goal.returns-clause-stays
returns-clause-stays c = λ later e.
    let first = steady_behind operand_seen c.value_at.new.scope c.value_at-2.new.scope c.in_ok-first.first c.in_ok-second.ensures.grows c.in_ok-first.ensures.stays later e in
    rw (first, c.in_ok-second.ensures.stays later e) refl

pub returns-clause-uses : goal.returns-clause-uses
returns-clause-uses c =
    let a = c.value_at.new.scope in
    let n = c.value_at-2.new.scope in
    rw (c.in_ok-first.ensures.stays n c.in_ok-second.ensures.grows)
    (uses_behind c.args.scope.now a n (operand_seen a c.in_ok-first.first ∷ []) (operand_seen n c.in_ok-second.second ∷ []) c.in_ok-first.ensures.uses c.in_ok-second.ensures.uses)

pub returns-in_err-second-clause-grows : goal.returns-in_err-second-clause-grows
returns-in_err-second-clause-grows c = widens_trans c.args.scope.now c.value_at.new.scope c.value_at-2.new.scope c.in_ok-first.ensures.grows c.in_err-second.ensures.grows

pub returns-clause-grows : goal.returns-clause-grows
returns-clause-grows c = widens_trans c.args.scope.now c.value_at.new.scope c.value_at-2.new.scope c.in_ok-first.ensures.grows c.in_ok-second.ensures.grows
