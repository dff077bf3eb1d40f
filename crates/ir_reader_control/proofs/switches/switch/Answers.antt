use Rattle.std.proofs.Common.{◌≡◌, refl, ap}
use Rattle.ir_reader_values.specs.Seen.{operand_seen}
use Rattle.ir_reader_control.specs.Labelled.{labels_in, head_in}
use Rattle.ir_reader_values.proofs.Widening.{widens_trans, steady_behind}
use Rattle.ir_reader_control.proofs.switches.switch.Goals as goal

pub returns-clause-stays : goal.returns-clause-stays
returns-clause-stays c = λ later e.
    let n = c.cases.new.scope in
    let head = steady_behind head_in c.head.new.scope n ((c.in_ok-bits.bits, c.in_ok-bits.value), c.in_ok-bits.default) c.in_ok-numbers.ensures.grows c.in_ok-bits.ensures.stays later e in
    let value : operand_seen later c.in_ok-bits.value ≡ operand_seen n c.in_ok-bits.value = ap (λ x. x.0.1) head in
    let labels : labels_in later c.in_ok-numbers.labels ≡ labels_in n c.in_ok-numbers.labels = ap (λ x. x.1) (c.in_ok-numbers.ensures.stays later e) in
    rw (c.bare-inst.ensures, c.in_ok-args.ensures, value, labels) refl

pub returns-clause-uses : goal.returns-clause-uses
returns-clause-uses c =
    let n = c.cases.new.scope in
    let value : operand_seen n c.in_ok-bits.value ≡ operand_seen c.head.new.scope c.in_ok-bits.value = ap (λ x. x.0.1) (c.in_ok-bits.ensures.stays n c.in_ok-numbers.ensures.grows) in
    rw (c.bare-inst.ensures, c.in_ok-args.ensures, value, c.in_ok-numbers.ensures.tables) c.in_ok-bits.ensures.uses

pub returns-in_err-numbers-clause-grows : goal.returns-in_err-numbers-clause-grows
returns-in_err-numbers-clause-grows c = widens_trans c.args.scope.now c.head.new.scope c.cases.new.scope c.in_ok-bits.ensures.grows c.in_err-numbers.ensures.grows

pub returns-in_err-rest-2-clause-grows : goal.returns-in_err-rest-2-clause-grows
returns-in_err-rest-2-clause-grows c = widens_trans c.args.scope.now c.head.new.scope c.cases.new.scope c.in_ok-bits.ensures.grows c.in_ok-numbers.ensures.grows

pub returns-in_err-args-clause-grows : goal.returns-in_err-args-clause-grows
returns-in_err-args-clause-grows c = widens_trans c.args.scope.now c.head.new.scope c.cases.new.scope c.in_ok-bits.ensures.grows c.in_ok-numbers.ensures.grows

pub returns-clause-grows : goal.returns-clause-grows
returns-clause-grows c = widens_trans c.args.scope.now c.head.new.scope c.cases.new.scope c.in_ok-bits.ensures.grows c.in_ok-numbers.ensures.grows
