use Rattle.std.proofs.Common.{◌≡◌, drop}
use Rattle.ir_types.specs.Denotes.{name_in}
use Rattle.ir_limits.specs.Limits.{long_name}
use Rattle.ir_limits.proofs.Firsts.{first_of}
use Rattle.ir_limits.proofs.names.long_labels.Given as goal

abbrev pub invariant-loop-label : goal.invariant-loop-label
invariant-loop-label l = first_of (λ i. long_name (name_in l.names i)) (drop l.label-index l.labels) ≡ first_of (λ i. long_name (name_in l.names i)) l.labels
