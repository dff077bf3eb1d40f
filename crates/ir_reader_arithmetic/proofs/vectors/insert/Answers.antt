use Rattle.ir_reader_values.proofs.Using.{uses_behind}
use Rattle.std.proofs.Common.{◌≡◌, refl, ap, ◌∙◌, [], ◌∷◌}
use Rattle.text_forms.specs.Gives.{left}
use Rattle.ir_types.specs.InstParts.{comma_typed}
use Rattle.ir_reader_values.specs.Seen.{operand_seen, definitions}
use Rattle.ir_reader_values.specs.View.{typed_in}
use Rattle.ir_reader_values.proofs.Operands.{by_definitions}
use Rattle.ir_reader_arithmetic.proofs.Elements.{index_behind, insert_reads}
use Rattle.ir_reader_values.proofs.Widening.{widens_trans, steady_behind}
use Rattle.ir_reader_arithmetic.proofs.vectors.insert.Goals as goal

pub returns-clause-reads : goal.returns-clause-reads
returns-clause-reads c =
    let a = c.typed_value.new.scope in
    let b = c.comma_typed.new.scope in
    let n = c.comma_index.new.scope in
    let defs = definitions c.args.scope.now in
    let at_element = left c.in_ok-ty.rest in
    let at_index = left c.in_ok-element.rest in
    let grows = c.in_ok-width.ensures.grows in
    let same = c.in_ok-ty.ensures.grows.definitions in
    let vector : operand_seen n c.in_ok-ty.vector ≡ operand_seen a c.in_ok-ty.vector = ap (λ x. x.1) (c.in_ok-ty.ensures.stays n (widens_trans a b n c.in_ok-element.ensures.grows grows)) in
    let value : operand_seen n c.in_ok-element.value ≡ operand_seen b c.in_ok-element.value = ap (λ x. x.1) (c.in_ok-element.ensures.stays n grows) in
    rw (c.applied.ensures, c.in_ok-args.ensures, vector, value)
    (insert_reads defs (typed_in a (c.in_ok-ty.ty, c.in_ok-ty.vector)) (typed_in b (c.in_ok-element.element, c.in_ok-element.value)) (typed_in n (c.in_ok-width.width, c.in_ok-width.index))
    (left c.args.tokens) at_element at_index (left c.in_ok-width.rest)
    c.in_ok-ty.ensures.reads
    (by_definitions comma_typed defs (definitions a) at_element same ∙ c.in_ok-element.ensures.reads)
    (by_definitions index_behind defs (definitions b) at_index (c.in_ok-element.ensures.grows.definitions ∙ same) ∙ c.in_ok-width.ensures.reads))

pub returns-clause-stays : goal.returns-clause-stays
returns-clause-stays c = λ later e.
    let a = c.typed_value.new.scope in
    let b = c.comma_typed.new.scope in
    let n = c.comma_index.new.scope in
    let grows = c.in_ok-width.ensures.grows in
    let first = steady_behind typed_in a n (c.in_ok-ty.ty, c.in_ok-ty.vector) (widens_trans a b n c.in_ok-element.ensures.grows grows) c.in_ok-ty.ensures.stays later e in
    let second = steady_behind typed_in b n (c.in_ok-element.element, c.in_ok-element.value) grows c.in_ok-element.ensures.stays later e in
    let vector : operand_seen later c.in_ok-ty.vector ≡ operand_seen n c.in_ok-ty.vector = ap (λ x. x.1) first in
    let value : operand_seen later c.in_ok-element.value ≡ operand_seen n c.in_ok-element.value = ap (λ x. x.1) second in
    let index : operand_seen later c.in_ok-width.index ≡ operand_seen n c.in_ok-width.index = ap (λ x. x.1) (c.in_ok-width.ensures.stays later e) in
    rw (c.applied.ensures, c.in_ok-args.ensures, vector, value, index) refl

pub returns-clause-uses : goal.returns-clause-uses
returns-clause-uses c =
    let a = c.typed_value.new.scope in
    let b = c.comma_typed.new.scope in
    let n = c.comma_index.new.scope in
    let later = c.in_ok-width.ensures.grows in
    let one = c.in_ok-ty.vector in
    let two = c.in_ok-element.value in
    let vector : operand_seen n one ≡ operand_seen a one = ap (λ x. x.1) (c.in_ok-ty.ensures.stays n (widens_trans a b n c.in_ok-element.ensures.grows later)) in
    let value : operand_seen n two ≡ operand_seen b two = ap (λ x. x.1) (c.in_ok-element.ensures.stays n later) in
    let both = uses_behind c.args.scope.now a b (operand_seen a one ∷ []) (operand_seen b two ∷ []) c.in_ok-ty.ensures.uses c.in_ok-element.ensures.uses in
    rw (c.applied.ensures, c.in_ok-args.ensures, vector, value)
    (uses_behind c.args.scope.now b n (operand_seen a one ∷ operand_seen b two ∷ []) (operand_seen n c.in_ok-width.index ∷ []) both c.in_ok-width.ensures.uses)

pub returns-in_err-element-clause-grows : goal.returns-in_err-element-clause-grows
returns-in_err-element-clause-grows c = widens_trans c.args.scope.now c.typed_value.new.scope c.comma_typed.new.scope c.in_ok-ty.ensures.grows c.in_err-element.ensures.grows

pub returns-in_err-width-clause-grows : goal.returns-in_err-width-clause-grows
returns-in_err-width-clause-grows c = widens_trans c.args.scope.now c.comma_typed.new.scope c.comma_index.new.scope (widens_trans c.args.scope.now c.typed_value.new.scope c.comma_typed.new.scope c.in_ok-ty.ensures.grows c.in_ok-element.ensures.grows) c.in_err-width.ensures.grows

pub returns-in_err-args-clause-grows : goal.returns-in_err-args-clause-grows
returns-in_err-args-clause-grows c = widens_trans c.args.scope.now c.comma_typed.new.scope c.comma_index.new.scope (widens_trans c.args.scope.now c.typed_value.new.scope c.comma_typed.new.scope c.in_ok-ty.ensures.grows c.in_ok-element.ensures.grows) c.in_ok-width.ensures.grows

pub returns-clause-grows : goal.returns-clause-grows
returns-clause-grows c = widens_trans c.args.scope.now c.comma_typed.new.scope c.comma_index.new.scope (widens_trans c.args.scope.now c.typed_value.new.scope c.comma_typed.new.scope c.in_ok-ty.ensures.grows c.in_ok-element.ensures.grows) c.in_ok-width.ensures.grows
