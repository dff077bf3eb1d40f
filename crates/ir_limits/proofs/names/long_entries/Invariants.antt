use Rattle.std.proofs.Common.{◌≡◌, length, map}
use Rattle.ir_types.specs.Denotes.{name_in, operand_in}
use Rattle.ir_limits.specs.Mentioned.{in_entries}
use Rattle.ir_limits.specs.Limits.{first_long}
use Rattle.ir_limits.proofs.names.long_entries.Given as goal

abbrev pub invariant-more : goal.invariant-more
invariant-more l = first_long (in_entries (map (operand_in l.tables l.names) l.operands_left) (map (name_in l.names) l.labels_left)) ≡ first_long (in_entries (map (operand_in l.fn.tables l.fn.names) l.fn.operands) (map (name_in l.fn.names) l.fn.labels))

abbrev pub decreases-more : goal.decreases-more
decreases-more l = length l.operands_left
