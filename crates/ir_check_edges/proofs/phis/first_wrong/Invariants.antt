use Rattle.std.proofs.Common.{◌≡◌, drop}
use Rattle.ir_check_edges.specs.Targets.{first_of}
use Rattle.ir_check_edges.specs.Phis.{wrong_in}
use Rattle.ir_check_edges.proofs.phis.first_wrong.Given as goal

abbrev pub invariant-loop-function : goal.invariant-loop-function
invariant-loop-function l = first_of (wrong_in l.m) (drop l.function-index l.functions) ≡ first_of (wrong_in l.m) l.functions
