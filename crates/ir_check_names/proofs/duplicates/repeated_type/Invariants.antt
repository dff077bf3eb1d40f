use Rattle.std.proofs.Common.{◌≡◌, [], drop}
use Rattle.ir_check_names.specs.Repeated.{repeated_type}
use Rattle.ir_check_names.proofs.duplicates.repeated_type.Given as goal

abbrev pub invariant-loop-entry : goal.invariant-loop-entry
invariant-loop-entry l = repeated_type l.seen (drop l.entry-index l.entries) ≡ repeated_type [] l.entries
