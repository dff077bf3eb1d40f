use Rattle.std.proofs.Common.{◌≡◌, drop}
use Rattle.ir_rules.specs.Breaches.{first}
use Rattle.ir_check_edges.specs.Targets.{to_label}
use Rattle.ir_check_edges.proofs.entered.first_equal.Given as goal

abbrev pub invariant-loop-label : goal.invariant-loop-label
invariant-loop-label l = first (to_label l.names l.entry (drop l.label-index l.labels)) ≡ first (to_label l.names l.entry l.labels)
