use Rattle.std.proofs.Common.{◌≡◌, take}
use Rattle.ir_check_calls.specs.Heads.{function_names}
use Rattle.ir_check_calls.proofs.called.places_of.Given as goal

abbrev pub invariant-loop-function : goal.invariant-loop-function
invariant-loop-function l = l.places.keys ≡ function_names (take l.function-index l.functions)
