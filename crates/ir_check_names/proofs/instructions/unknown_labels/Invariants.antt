use Rattle.std.proofs.Common.{◌≡◌, drop}
use Rattle.ir_check_names.specs.Choice.{first_of}
use Rattle.ir_check_names.specs.Uses.{unknown_local}
use Rattle.ir_check_names.proofs.instructions.unknown_labels.Given as goal

abbrev pub invariant-loop-label : goal.invariant-loop-label
invariant-loop-label l = first_of (unknown_local l.known.locals.now) (drop l.label-index l.labels) ≡ first_of (unknown_local l.known.locals.now) l.labels
