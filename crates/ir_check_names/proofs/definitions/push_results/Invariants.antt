use Rattle.std.proofs.Common.{◌≡◌, ◌++◌, drop}
use Rattle.ir_check_names.specs.Definitions.{of_results}
use Rattle.ir_check_names.proofs.definitions.push_results.Given as goal

abbrev pub invariant-loop-inst : goal.invariant-loop-inst
invariant-loop-inst l = l.definitions.items ++ of_results l.place (drop l.inst-index l.insts) ≡ l.initial.definitions.items ++ of_results l.fn.first l.insts
