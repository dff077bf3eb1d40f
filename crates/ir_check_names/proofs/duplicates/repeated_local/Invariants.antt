use Rattle.std.proofs.Common.{◌≡◌, false, length, replicate, drop}
use Rattle.ir_check_names.specs.Repeated.{repeated_from}
use Rattle.ir_check_names.proofs.duplicates.repeated_local.Given as goal

abbrev pub invariant-loop-definition : goal.invariant-loop-definition
invariant-loop-definition l = repeated_from l.names l.given.items (drop l.definition-index l.definitions) ≡ repeated_from l.names (replicate (length l.names) false) l.definitions
