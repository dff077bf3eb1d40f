use Rattle.std.proofs.Common.{◌≡◌, Some, sym, ap, ◌∙◌}
use Rattle.ir_types.specs.FunctionForms.{named_by}
use Rattle.ir_types.specs.Tree.{InstTree}
use Rattle.ir_reader_values.specs.Seen.{name_seen, inst_seen}
use Rattle.ir_reader_values.proofs.Widening.{widens_trans}
use Rattle.ir_reader_functions.proofs.line.named.Goals as goal

pub returns-clause-stays : goal.returns-clause-stays
returns-clause-stays c = λ later e.
    let n = c.inst_at.new.scope in
    let grows = c.in_ok-inst.ensures.grows in
    let stays = c.in_ok-id.ensures.stays in
    let id : name_seen later c.in_ok-id.id ≡ name_seen n c.in_ok-id.id = stays later (widens_trans c.scoped_id.new.scope n later grows e) ∙ sym (stays n grows) in
    let inst : inst_seen later c.in_ok-inst.inst ≡ inst_seen n c.in_ok-inst.inst = c.in_ok-inst.ensures.stays later e in
    rw (c.with_result.ensures, id) (ap (λ (t : InstTree). named_by t (Some (name_seen n c.in_ok-id.id))) inst)
