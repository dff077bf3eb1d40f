use Rattle.ir_reader_values.proofs.Using.{uses_behind}
use Rattle.std.proofs.Common.{◌≡◌, ℕ, refl, ap, ◌∙◌, [], ◌∷◌}
use Rattle.std.proofs.lemmas.Result.{err_from_is_err_and}
use Rattle.text_forms.specs.declared.cursor.Cursor.{Cursor}
use Rattle.text_forms.specs.Gives.{left}
use Rattle.ir_types.specs.declared.inst.Operand.{Operand}
use Rattle.ir_reader_values.specs.Seen.{operand_seen, definitions}
use Rattle.ir_reader_values.specs.View.{typed_in}
use Rattle.ir_reader_values.proofs.Operands.{by_definitions}
use Rattle.ir_reader_arithmetic.proofs.Elements.{index_behind, extract_reads, extract_fails}
use Rattle.ir_reader_values.proofs.Refusals.{fails}
use Rattle.ir_reader_values.proofs.Widening.{widens_trans, steady_behind}
use Rattle.ir_reader_arithmetic.proofs.vectors.extract.Goals as goal

pub returns-in_err-width-clause-reads : goal.returns-in_err-width-clause-reads
returns-in_err-width-clause-reads c =
    let a = c.typed_value.new.scope in
    let n = c.comma_index.new.scope in
    let defs = definitions c.args.scope.now in
    let behind = left c.in_ok-ty.rest in
    let p = err_from_is_err_and c.from_residual-in_err-width.result c.from_residual-in_err-width.ensures.1 in
    rw (p.1, p.2) (fails (λ (x : (ℕ × Operand) × Cursor). (typed_in n x.0, left x.1)) c.in_err-width.field-0.0 _ _
    (λ e. extract_fails defs (typed_in a (c.in_ok-ty.ty, c.in_ok-ty.vector)) (left c.args.tokens) behind c.in_ok-ty.ensures.reads (by_definitions index_behind defs (definitions a) behind c.in_ok-ty.ensures.grows.definitions ∙ e))
    c.in_err-width.ensures.reads)

pub returns-clause-reads : goal.returns-clause-reads
returns-clause-reads c =
    let a = c.typed_value.new.scope in
    let n = c.comma_index.new.scope in
    let defs = definitions c.args.scope.now in
    let behind = left c.in_ok-ty.rest in
    let grows = c.in_ok-width.ensures.grows in
    let vector : operand_seen n c.in_ok-ty.vector ≡ operand_seen a c.in_ok-ty.vector = ap (λ x. x.1) (c.in_ok-ty.ensures.stays n grows) in
    rw (c.applied.ensures, c.in_ok-args.ensures, c.element_of.ensures, vector)
    (extract_reads defs (typed_in a (c.in_ok-ty.ty, c.in_ok-ty.vector)) (typed_in n (c.in_ok-width.width, c.in_ok-width.index)) (left c.args.tokens) behind (left c.in_ok-width.rest)
    c.in_ok-ty.ensures.reads (by_definitions index_behind defs (definitions a) behind c.in_ok-ty.ensures.grows.definitions ∙ c.in_ok-width.ensures.reads))

pub returns-clause-stays : goal.returns-clause-stays
returns-clause-stays c = λ later e.
    let a = c.typed_value.new.scope in
    let n = c.comma_index.new.scope in
    let typed = steady_behind typed_in a n (c.in_ok-ty.ty, c.in_ok-ty.vector) c.in_ok-width.ensures.grows c.in_ok-ty.ensures.stays later e in
    let vector : operand_seen later c.in_ok-ty.vector ≡ operand_seen n c.in_ok-ty.vector = ap (λ x. x.1) typed in
    let index : operand_seen later c.in_ok-width.index ≡ operand_seen n c.in_ok-width.index = ap (λ x. x.1) (c.in_ok-width.ensures.stays later e) in
    rw (c.applied.ensures, c.in_ok-args.ensures, vector, index) refl

pub returns-clause-uses : goal.returns-clause-uses
returns-clause-uses c =
    let a = c.typed_value.new.scope in
    let n = c.comma_index.new.scope in
    let vector : operand_seen n c.in_ok-ty.vector ≡ operand_seen a c.in_ok-ty.vector = ap (λ x. x.1) (c.in_ok-ty.ensures.stays n c.in_ok-width.ensures.grows) in
    rw (c.applied.ensures, c.in_ok-args.ensures, vector)
    (uses_behind c.args.scope.now a n (operand_seen a c.in_ok-ty.vector ∷ []) (operand_seen n c.in_ok-width.index ∷ []) c.in_ok-ty.ensures.uses c.in_ok-width.ensures.uses)

pub returns-in_err-width-clause-grows : goal.returns-in_err-width-clause-grows
returns-in_err-width-clause-grows c = widens_trans c.args.scope.now c.typed_value.new.scope c.comma_index.new.scope c.in_ok-ty.ensures.grows c.in_err-width.ensures.grows

pub returns-in_err-args-clause-grows : goal.returns-in_err-args-clause-grows
returns-in_err-args-clause-grows c = widens_trans c.args.scope.now c.typed_value.new.scope c.comma_index.new.scope c.in_ok-ty.ensures.grows c.in_ok-width.ensures.grows

pub returns-clause-grows : goal.returns-clause-grows
returns-clause-grows c = widens_trans c.args.scope.now c.typed_value.new.scope c.comma_index.new.scope c.in_ok-ty.ensures.grows c.in_ok-width.ensures.grows
