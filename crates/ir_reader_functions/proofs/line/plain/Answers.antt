use Rattle.std.proofs.Common.{◌≡◌, sym, ap, ◌∙◌}
use Rattle.ir_types.specs.FunctionForms.{named_by}
use Rattle.ir_types.specs.Tree.{InstTree}
use Rattle.ir_reader_values.specs.Seen.{inst_seen}
use Rattle.ir_reader_values.proofs.Widening.{widens_trans}
use Rattle.ir_reader_functions.specs.Lines.{result_seen}
use Rattle.ir_reader_functions.proofs.line.plain.Goals as goal

pub returns-clause-stays : goal.returns-clause-stays
returns-clause-stays c = λ later e.
    let n = c.result_id.new.scope in
    let grows = c.in_ok-id.ensures.grows in
    let stays = c.in_ok-inst.ensures.stays in
    let inst : inst_seen later c.in_ok-inst.inst ≡ inst_seen n c.in_ok-inst.inst = stays later (widens_trans c.inst_at.new.scope n later grows e) ∙ sym (stays n grows) in
    let id : result_seen later c.in_ok-id.id ≡ result_seen n c.in_ok-id.id = c.in_ok-id.ensures.stays later e in
    rw (c.with_result.ensures, id) (ap (λ (t : InstTree). named_by t (result_seen n c.in_ok-id.id)) inst)
