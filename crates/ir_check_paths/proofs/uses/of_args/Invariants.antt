use Rattle.std.proofs.Common.{IfSome}
use Rattle.ir_check_paths.specs.Uses.{ArePassedIn}
use Rattle.ir_check_paths.proofs.FindsLemmas.{ArgsRest}
use Rattle.ir_check_paths.proofs.uses.of_args.Given as goal

abbrev pub invariant-loop-arg : goal.invariant-loop-arg
invariant-loop-arg l = record {
  passed : IfSome l.passed (ArePassedIn l.function);
  args : ArgsRest l.function l.number l.before l.arg-index l.args;
}
