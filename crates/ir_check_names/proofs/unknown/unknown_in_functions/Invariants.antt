use Rattle.std.proofs.Common.{◌≡◌, drop}
use Rattle.ir_check_names.specs.Choice.{first_of}
use Rattle.ir_check_names.specs.FirstUnknown.{unknown_in}
use Rattle.ir_check_names.proofs.unknown.unknown_in_functions.Given as goal

abbrev pub invariant-loop-function : goal.invariant-loop-function
invariant-loop-function l = first_of (unknown_in l.m l.symbols l.missing) (drop l.function-index l.m.functions) ≡ first_of (unknown_in l.m l.symbols l.missing) l.m.functions
