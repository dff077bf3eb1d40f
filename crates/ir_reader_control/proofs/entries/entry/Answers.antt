use Rattle.std.proofs.Common.{refl}
use Rattle.ir_reader_values.specs.Seen.{operand_seen}
use Rattle.ir_reader_values.proofs.Widening.{widens_trans, steady_behind}
use Rattle.ir_reader_control.proofs.entries.entry.Goals as goal

pub returns-clause-stays : goal.returns-clause-stays
returns-clause-stays c = λ later e.
    let value = steady_behind operand_seen c.value_at.new.scope c.comma_local.new.scope c.in_ok-value.value c.in_ok-label.ensures.grows c.in_ok-value.ensures.stays later e in
    rw (value, c.in_ok-label.ensures.stays later e) refl

pub returns-clause-uses : goal.returns-clause-uses
returns-clause-uses c =
    rw (c.in_ok-value.ensures.stays c.comma_local.new.scope c.in_ok-label.ensures.grows, c.in_ok-label.ensures.tables) c.in_ok-value.ensures.uses

pub returns-in_err-label-clause-grows : goal.returns-in_err-label-clause-grows
returns-in_err-label-clause-grows c = widens_trans c.args.scope.now c.value_at.new.scope c.comma_local.new.scope c.in_ok-value.ensures.grows c.in_err-label.ensures.grows

pub returns-in_err-rest-2-clause-grows : goal.returns-in_err-rest-2-clause-grows
returns-in_err-rest-2-clause-grows c = widens_trans c.args.scope.now c.value_at.new.scope c.comma_local.new.scope c.in_ok-value.ensures.grows c.in_ok-label.ensures.grows

pub returns-clause-grows : goal.returns-clause-grows
returns-clause-grows c = widens_trans c.args.scope.now c.value_at.new.scope c.comma_local.new.scope c.in_ok-value.ensures.grows c.in_ok-label.ensures.grows
