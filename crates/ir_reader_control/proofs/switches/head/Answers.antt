use Rattle.ir_reader_values.specs.Seen.{operand_seen}
use Rattle.std.proofs.Common.{refl, ◌≡◌, ap}
use Rattle.ir_reader_values.specs.View.{typed_in}
use Rattle.ir_reader_values.proofs.Widening.{widens_trans, steady_behind}
use Rattle.ir_reader_control.proofs.switches.head.Goals as goal

pub returns-clause-stays : goal.returns-clause-stays
returns-clause-stays c = λ later e.
    let value = steady_behind typed_in c.index_value.new.scope c.comma_target.new.scope c.in_ok-value.value c.in_ok-default.ensures.grows c.in_ok-value.ensures.stays later e in
    rw (value, c.in_ok-default.ensures.stays later e) refl

pub returns-clause-uses : goal.returns-clause-uses
returns-clause-uses c =
    let n = c.comma_target.new.scope in
    let value : operand_seen n c.in_ok-value.value.1 ≡ operand_seen c.index_value.new.scope c.in_ok-value.value.1 = ap (λ x. x.1) (c.in_ok-value.ensures.stays n c.in_ok-default.ensures.grows) in
    rw (value, c.in_ok-default.ensures.tables) c.in_ok-value.ensures.uses

pub returns-in_err-default-clause-grows : goal.returns-in_err-default-clause-grows
returns-in_err-default-clause-grows c = widens_trans c.args.scope.now c.index_value.new.scope c.comma_target.new.scope c.in_ok-value.ensures.grows c.in_err-default.ensures.grows

pub returns-clause-grows : goal.returns-clause-grows
returns-clause-grows c = widens_trans c.args.scope.now c.index_value.new.scope c.comma_target.new.scope c.in_ok-value.ensures.grows c.in_ok-default.ensures.grows
