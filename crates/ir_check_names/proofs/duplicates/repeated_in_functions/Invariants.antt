use Rattle.std.proofs.Common.{◌≡◌, drop}
use Rattle.ir_check_names.specs.Choice.{first_of}
use Rattle.ir_check_names.specs.Repeated.{repeated_in}
use Rattle.ir_check_names.proofs.duplicates.repeated_in_functions.Given as goal

abbrev pub invariant-loop-function : goal.invariant-loop-function
invariant-loop-function l = first_of repeated_in (drop l.function-index l.functions) ≡ first_of repeated_in l.functions
