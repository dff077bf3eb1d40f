use Rattle.std.proofs.Common.{Some, ap, ◌∙◌, arith}
use Rattle.ir_check_names.proofs.Marked.{got_at}
use Rattle.ir_check_names.proofs.definitions.name_at.Goals as goal

pub returns-then-id-len : goal.returns-then-id-len
returns-then-id-len c = got_at c.args.names.now c.args.id.0 (omega arith) ∙ ap Some c.get.ensures
