use Rattle.std.proofs.Common.{sym, ap, ◌∙◌}
use Rattle.ir_types.specs.Denotes.{tree_of}
use Rattle.ir_rules.specs.Breaches.{first}
use Rattle.ir_rules.specs.Edges.{entered_again, entries_with_predecessors}
use Rattle.ir_check_edges.specs.Targets.{first_of, entered_in}
use Rattle.ir_check_edges.proofs.Firsts.{in_module, same_answer}
use Rattle.ir_check_edges.proofs.entered.entry_entered.Goals as goal

pub returns : goal.returns
returns c = same_answer c.first_entered.result (first_of (entered_in c.args.m.now) c.as_slice.result.now) (first (entries_with_predecessors (tree_of c.args.m.now))) (ap (first_of (entered_in c.args.m.now)) c.as_slice.ensures ∙ sym (in_module c.args.m.now entered_again)) c.first_entered.ensures
