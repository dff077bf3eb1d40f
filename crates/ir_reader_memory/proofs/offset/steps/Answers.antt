use Rattle.std.proofs.Common.{◌≡◌, ℕ, [], ◌∷◌, Vec, Global, map, refl, ◌∙◌}
use Rattle.std.proofs.lemmas.Result.{err_from_is_err_and}
use Rattle.text_forms.specs.declared.cursor.Cursor.{Cursor}
use Rattle.text_forms.specs.Gives.{left}
use Rattle.ir_types.specs.declared.inst.Operand.{Operand}
use Rattle.lists.specs.declared.few.Few.{Few}
use Rattle.ir_reader_values.specs.Seen.{operand_seen, definitions}
use Rattle.ir_reader_memory.specs.Offsets.{steps_in, indexes_read}
use Rattle.ir_reader_values.proofs.Refusals.{fails}
use Rattle.ir_reader_memory.proofs.Offsets.{steps_behind}
use Rattle.ir_reader_values.proofs.Widening.{widens_trans}
use Rattle.ir_reader_memory.proofs.offset.steps.Goals as goal

pub returns-in_err-widths-clause-reads : goal.returns-in_err-widths-clause-reads
returns-in_err-widths-clause-reads c =
    let a = c.comma_pointer.new.scope in
    let defs = definitions c.args.scope.now in
    let pointer = c.in_ok-pointer.pointer in
    let p = err_from_is_err_and c.from_residual-in_err-widths.result c.from_residual-in_err-widths.ensures.1 in
    let same : indexes_read defs (operand_seen a pointer ∷ []) (left c.in_ok-pointer.rest) ≡ indexes_read (definitions a) (map (operand_seen a) c.in_ok-before.before) (left c.in_ok-pointer.rest) = rw (c.in_ok-pointer.ensures.grows.definitions, c.in_ok-before.ensures) refl in
    rw (p.1, p.2) (fails (λ (x : (Vec ℕ Global × Few Operand 4) × Cursor). (steps_in c.indexes.new.scope (x.0.0.items, x.0.1), left x.1)) c.in_err-widths.field-0.0 _ _
    (λ e. steps_behind defs (operand_seen a pointer) (left c.args.tokens) (left c.in_ok-pointer.rest) c.in_ok-pointer.ensures.reads ∙ same ∙ e)
    c.in_err-widths.ensures.reads)

pub returns-clause-reads : goal.returns-clause-reads
returns-clause-reads c =
    let a = c.comma_pointer.new.scope in
    let defs = definitions c.args.scope.now in
    let pointer = c.in_ok-pointer.pointer in
    let same : indexes_read defs (operand_seen a pointer ∷ []) (left c.in_ok-pointer.rest) ≡ indexes_read (definitions a) (map (operand_seen a) c.in_ok-before.before) (left c.in_ok-pointer.rest) = rw (c.in_ok-pointer.ensures.grows.definitions, c.in_ok-before.ensures) refl in
    rw c.from_vec.ensures (steps_behind defs (operand_seen a pointer) (left c.args.tokens) (left c.in_ok-pointer.rest) c.in_ok-pointer.ensures.reads ∙ same ∙ c.in_ok-widths.ensures.reads)

pub returns-clause-uses : goal.returns-clause-uses
returns-clause-uses c = c.in_ok-widths.ensures.uses c.args.scope.now (rw c.in_ok-before.ensures c.in_ok-pointer.ensures.uses)

pub returns-in_err-widths-clause-grows : goal.returns-in_err-widths-clause-grows
returns-in_err-widths-clause-grows c = widens_trans c.args.scope.now c.comma_pointer.new.scope c.indexes.new.scope c.in_ok-pointer.ensures.grows c.in_err-widths.ensures.grows

pub returns-clause-grows : goal.returns-clause-grows
returns-clause-grows c = widens_trans c.args.scope.now c.comma_pointer.new.scope c.indexes.new.scope c.in_ok-pointer.ensures.grows c.in_ok-widths.ensures.grows
