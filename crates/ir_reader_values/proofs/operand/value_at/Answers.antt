use Rattle.ir_reader_values.proofs.Using.{operand_uses}
use Rattle.ir_reader_values.specs.View.{written_in}
use Rattle.ir_reader_values.specs.Seen.{definitions, operand_seen}
use Rattle.ir_types.specs.ValueForms.{operand_at}
use Rattle.ir_types.specs.Offsets.{Definitions}
use Rattle.std.proofs.Common.{sym, ap, ◌∙◌}
use Rattle.ir_reader_values.proofs.operand.value_at.Goals as goal

pub returns-clause-uses : goal.returns-clause-uses
unfolding definitions
returns-clause-uses c =
    let old = c.args.scope.now.tables in
    let n = c.written_value.new.scope in
    let written = written_in n c.in_ok-written.written in
    let same = ap (λ (d : Definitions). operand_at d c.args.ty written) (sym c.in_ok-written.ensures.grows.tables.definitions) in
    operand_uses old n.tables c.args.ty written (operand_seen n c.in_ok-operand.operand) (same ∙ c.in_ok-operand.ensures.reads) c.in_ok-written.ensures.uses
