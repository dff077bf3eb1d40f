use Rattle.ir_reader_values.proofs.Using.{uses_behind}
use Rattle.std.proofs.Common.{◌≡◌, refl, ap, [], ◌∷◌}
use Rattle.ir_reader_values.specs.Seen.{operand_seen}
use Rattle.ir_reader_values.specs.View.{typed_in}
use Rattle.ir_reader_values.proofs.Widening.{widens_trans, steady_behind}
use Rattle.ir_reader_memory.proofs.memory.store.Goals as goal

pub returns-clause-stays : goal.returns-clause-stays
returns-clause-stays c = λ later e.
    let n = c.comma_pointer.new.scope in
    let typed = steady_behind typed_in c.typed_value.new.scope n (c.in_ok-ty.ty, c.in_ok-ty.value) c.in_ok-pointer.ensures.grows c.in_ok-ty.ensures.stays later e in
    let value : operand_seen later c.in_ok-ty.value ≡ operand_seen n c.in_ok-ty.value = ap (λ x. x.1) typed in
    rw (c.applied.ensures, c.in_ok-args.ensures, value, c.in_ok-pointer.ensures.stays later e) refl

pub returns-clause-uses : goal.returns-clause-uses
returns-clause-uses c =
    let a = c.typed_value.new.scope in
    let n = c.comma_pointer.new.scope in
    let value : operand_seen n c.in_ok-ty.value ≡ operand_seen a c.in_ok-ty.value = ap (λ x. x.1) (c.in_ok-ty.ensures.stays n c.in_ok-pointer.ensures.grows) in
    rw (c.applied.ensures, c.in_ok-args.ensures, value)
    (uses_behind c.args.scope.now a n (operand_seen a c.in_ok-ty.value ∷ []) (operand_seen n c.in_ok-pointer.pointer ∷ []) c.in_ok-ty.ensures.uses c.in_ok-pointer.ensures.uses)

pub returns-in_err-pointer-clause-grows : goal.returns-in_err-pointer-clause-grows
returns-in_err-pointer-clause-grows c = widens_trans c.args.scope.now c.typed_value.new.scope c.comma_pointer.new.scope c.in_ok-ty.ensures.grows c.in_err-pointer.ensures.grows

pub returns-in_err-written-clause-grows : goal.returns-in_err-written-clause-grows
returns-in_err-written-clause-grows c = widens_trans c.args.scope.now c.typed_value.new.scope c.comma_pointer.new.scope c.in_ok-ty.ensures.grows c.in_ok-pointer.ensures.grows

pub returns-in_err-args-clause-grows : goal.returns-in_err-args-clause-grows
returns-in_err-args-clause-grows c = widens_trans c.args.scope.now c.typed_value.new.scope c.comma_pointer.new.scope c.in_ok-ty.ensures.grows c.in_ok-pointer.ensures.grows

pub returns-clause-grows : goal.returns-clause-grows
returns-clause-grows c = widens_trans c.args.scope.now c.typed_value.new.scope c.comma_pointer.new.scope c.in_ok-ty.ensures.grows c.in_ok-pointer.ensures.grows
