use Rattle.std.proofs.Common.{sym, ap, ◌∙◌}
use Rattle.ir_types.specs.Denotes.{tree_of}
use Rattle.ir_rules.specs.Breaches.{first}
use Rattle.ir_rules.specs.Edges.{wrong_phis, wrong_edges}
use Rattle.ir_check_edges.specs.Targets.{first_of}
use Rattle.ir_check_edges.specs.Phis.{wrong_in}
use Rattle.ir_check_edges.proofs.Firsts.{in_module, same_answer}
use Rattle.ir_check_edges.proofs.phis.wrong_phi.Goals as goal

pub returns : goal.returns
returns c = same_answer c.first_wrong.result (first_of (wrong_in c.args.m.now) c.as_slice.result.now) (first (wrong_edges (tree_of c.args.m.now))) (ap (first_of (wrong_in c.args.m.now)) c.as_slice.ensures ∙ sym (in_module c.args.m.now wrong_phis)) c.first_wrong.ensures
