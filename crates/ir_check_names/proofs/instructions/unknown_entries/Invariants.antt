use Rattle.std.proofs.Common.{◌≡◌, length}
use Rattle.ir_check_names.specs.Uses.{unknown_entries}
use Rattle.ir_check_names.proofs.instructions.unknown_entries.Given as goal

abbrev pub invariant-more : goal.invariant-more
invariant-more l = unknown_entries l.known.locals.now l.known.symbols.now l.operands_left l.labels_left ≡ unknown_entries l.fn.known.locals.now l.fn.known.symbols.now l.fn.operands l.fn.labels

abbrev pub decreases-more : goal.decreases-more
decreases-more l = length l.operands_left
