use Rattle.std.proofs.Common.{IfSome}
use Rattle.ir_check_paths.specs.Uses.{ArePassedIn}
use Rattle.ir_check_paths.proofs.BlockLemmas.{BlockRest}
use Rattle.ir_check_paths.proofs.uses.in_block.Given as goal

abbrev pub invariant-loop-before : goal.invariant-loop-before
invariant-loop-before l = record {
  passed : IfSome l.passed (ArePassedIn l.function);
  insts : BlockRest l.function l.number l.start l.before;
}
