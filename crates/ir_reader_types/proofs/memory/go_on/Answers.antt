use Rattle.std.proofs.Common.{◌≡◌, Bool, Some, sym, subst}
use Rattle.std.proofs.lemmas.Result.{err_from_is_err_and}
use Rattle.text_forms.specs.declared.cursor.Cursor.{Cursor}
use Rattle.text_forms.specs.Reading.{read}
use Rattle.text_forms.specs.Machine.{next}
use Rattle.text_forms.specs.Gives.{left}
use Rattle.ir_types.specs.TypeForms.{type_parts}
use Rattle.ir_reader_types.specs.Heads.{next_nodes}
use Rattle.ir_reader_types.proofs.Looking.{looked_more, looked_closed}
use Rattle.ir_reader_types.proofs.Holding.{refuses, nothing_goes, another_goes, closing_goes, closing_holds}
use Rattle.ir_reader_types.proofs.memory.go_on.Goals as goal

pub returns-in_err-more-clause-goes : goal.returns-in_err-more-clause-goes
returns-in_err-more-clause-goes c = λ d names h.
    let p = err_from_is_err_and c.from_residual.result c.from_residual.ensures.1 in
    rw (p.1, p.2) (refuses (λ (x : Bool × Cursor). (next_nodes c.args.around x.0, left x.1)) c.in_err-more.field-0.0 _ _ (nothing_goes d names c.args.types.now.items c.args.stack.now c.args.around c.args.id (left c.args.tokens) c.requires) c.in_err-more.ensures)

pub returns-then-more-clause-goes : goal.returns-then-more-clause-goes
returns-then-more-clause-goes c = λ d names h.
    sym (another_goes d names c.args.types.now.items c.args.stack.now c.add.new.self c.args.around c.args.id (left c.args.tokens) (left c.in_ok-more.rest) c.requires c.in_ok-add.ensures.ok
    (subst (λ (b : Bool). read (next type_parts c.args.around) (left c.args.tokens) ≡ Some (next_nodes c.args.around b, left c.in_ok-more.rest)) c.if-more.true c.in_ok-more.ensures))

pub returns-clause-goes : goal.returns-clause-goes
returns-clause-goes c = λ d names h.
    sym (closing_goes d names c.args.types.now.items c.add_type.new.types.items c.args.stack.now c.close.new.self c.args.around c.args.id c.in_ok-closed.closed c.in_ok-ty.ty (left c.args.tokens) (left c.in_ok-more.rest) c.requires c.in_ok-ty.ensures.ok h c.in_ok-closed.ensures.ok c.in_ok-closed.ensures.place
    (subst (λ (b : Bool). read (next type_parts c.args.around) (left c.args.tokens) ≡ Some (next_nodes c.args.around b, left c.in_ok-more.rest)) c.if-more.false c.in_ok-more.ensures))

pub returns-clause-holds : goal.returns-clause-holds
returns-clause-holds c = λ names h. closing_holds names c.args.types.now.items c.add_type.new.types.items c.args.stack.now c.close.new.self c.args.id c.in_ok-closed.closed c.in_ok-ty.ty c.in_ok-ty.ensures.ok h c.in_ok-closed.ensures.ok c.in_ok-closed.ensures.place

pub returns-then-more-clause-names : goal.returns-then-more-clause-names
returns-then-more-clause-names c = λ base names h k.
    looked_more base names c.args.types.now.items c.args.stack.now c.add.new.self c.args.around c.args.id (left c.args.tokens) (left c.in_ok-more.rest) c.requires c.in_ok-add.ensures.ok
    (subst (λ (b : Bool). read (next type_parts c.args.around) (left c.args.tokens) ≡ Some (next_nodes c.args.around b, left c.in_ok-more.rest)) c.if-more.true c.in_ok-more.ensures) k

pub returns-clause-names : goal.returns-clause-names
returns-clause-names c = λ base names h k.
    looked_closed base names c.args.types.now.items c.add_type.new.types.items c.args.stack.now c.close.new.self c.args.id c.in_ok-closed.closed c.in_ok-ty.ty c.in_ok-ty.ensures.ok h c.in_ok-closed.ensures.ok c.in_ok-closed.ensures.place k
