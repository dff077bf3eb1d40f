use Rattle.std.proofs.Common.{IfSome}
use Rattle.ir_check_paths.specs.Uses.{ArePassedIn}
use Rattle.ir_check_paths.proofs.FunctionLemmas.{FunctionRest}
use Rattle.ir_check_paths.proofs.uses.unavailable_in.Given as goal

abbrev pub invariant-loop-number : goal.invariant-loop-number
invariant-loop-number l = record {
  passed : IfSome l.passed (ArePassedIn l.function);
  blocks : FunctionRest l.function l.number l.start;
}
