use Rattle.std.proofs.Common.{refl, ◌∙◌}
use Rattle.text_forms.specs.Gives.{left}
use Rattle.ir_reader_values.specs.Seen.{operand_seen, name_seen, definitions}
use Rattle.ir_reader_values.proofs.Widening.{widens_trans, steady_behind}
use Rattle.ir_reader_control.proofs.Conditions.{conditional_reads}
use Rattle.ir_reader_control.proofs.branches.conditional.Goals as goal

pub returns-clause-reads : goal.returns-clause-reads
returns-clause-reads c =
    let a = c.value_at.new.scope in
    let b = c.comma_target.new.scope in
    let n = c.comma_target-2.new.scope in
    let value = c.in_ok-condition.ensures.stays n (widens_trans a b n c.in_ok-then.ensures.grows c.in_ok-otherwise.ensures.grows) in
    let then = c.in_ok-then.ensures.stays n c.in_ok-otherwise.ensures.grows in
    rw (c.bare.ensures, c.in_ok-args.ensures, c.in_ok-labels.ensures, value, then)
    (conditional_reads (definitions c.args.scope.now) (operand_seen a c.in_ok-condition.condition) (name_seen b c.in_ok-then.then) (name_seen n c.in_ok-otherwise.otherwise)
    (left c.args.tokens) (left c.in_ok-condition.rest) (left c.in_ok-then.rest) (left c.in_ok-otherwise.rest)
    c.in_ok-condition.ensures.reads c.in_ok-then.ensures.reads c.in_ok-otherwise.ensures.reads)

pub returns-clause-stays : goal.returns-clause-stays
returns-clause-stays c = λ later e.
    let a = c.value_at.new.scope in
    let b = c.comma_target.new.scope in
    let n = c.comma_target-2.new.scope in
    let grows = c.in_ok-otherwise.ensures.grows in
    let value = steady_behind operand_seen a n c.in_ok-condition.condition (widens_trans a b n c.in_ok-then.ensures.grows grows) c.in_ok-condition.ensures.stays later e in
    let then = steady_behind name_seen b n c.in_ok-then.then grows c.in_ok-then.ensures.stays later e in
    rw (c.bare.ensures, c.in_ok-args.ensures, c.in_ok-labels.ensures, value, then, c.in_ok-otherwise.ensures.stays later e) refl

pub returns-clause-uses : goal.returns-clause-uses
returns-clause-uses c =
    let n = c.comma_target-2.new.scope in
    let value = c.in_ok-condition.ensures.stays n (widens_trans c.value_at.new.scope c.comma_target.new.scope n c.in_ok-then.ensures.grows c.in_ok-otherwise.ensures.grows) in
    rw (c.bare.ensures, c.in_ok-args.ensures, value, c.in_ok-otherwise.ensures.tables ∙ c.in_ok-then.ensures.tables) c.in_ok-condition.ensures.uses

pub returns-in_err-then-clause-grows : goal.returns-in_err-then-clause-grows
returns-in_err-then-clause-grows c = widens_trans c.args.scope.now c.value_at.new.scope c.comma_target.new.scope c.in_ok-condition.ensures.grows c.in_err-then.ensures.grows

pub returns-in_err-otherwise-clause-grows : goal.returns-in_err-otherwise-clause-grows
returns-in_err-otherwise-clause-grows c = widens_trans c.args.scope.now c.comma_target.new.scope c.comma_target-2.new.scope (widens_trans c.args.scope.now c.value_at.new.scope c.comma_target.new.scope c.in_ok-condition.ensures.grows c.in_ok-then.ensures.grows) c.in_err-otherwise.ensures.grows

pub returns-in_err-args-clause-grows : goal.returns-in_err-args-clause-grows
returns-in_err-args-clause-grows c = widens_trans c.args.scope.now c.comma_target.new.scope c.comma_target-2.new.scope (widens_trans c.args.scope.now c.value_at.new.scope c.comma_target.new.scope c.in_ok-condition.ensures.grows c.in_ok-then.ensures.grows) c.in_ok-otherwise.ensures.grows

pub returns-in_err-labels-clause-grows : goal.returns-in_err-labels-clause-grows
returns-in_err-labels-clause-grows c = widens_trans c.args.scope.now c.comma_target.new.scope c.comma_target-2.new.scope (widens_trans c.args.scope.now c.value_at.new.scope c.comma_target.new.scope c.in_ok-condition.ensures.grows c.in_ok-then.ensures.grows) c.in_ok-otherwise.ensures.grows

pub returns-clause-grows : goal.returns-clause-grows
returns-clause-grows c = widens_trans c.args.scope.now c.comma_target.new.scope c.comma_target-2.new.scope (widens_trans c.args.scope.now c.value_at.new.scope c.comma_target.new.scope c.in_ok-condition.ensures.grows c.in_ok-then.ensures.grows) c.in_ok-otherwise.ensures.grows
