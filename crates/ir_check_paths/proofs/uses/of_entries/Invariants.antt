use Rattle.std.proofs.Common.{IfSome}
use Rattle.ir_check_paths.specs.Uses.{ArePassedIn}
use Rattle.ir_check_paths.proofs.EntriesLemmas.{EntriesRest}
use Rattle.ir_check_paths.proofs.uses.of_entries.Given as goal

abbrev pub invariant-loop-entry : goal.invariant-loop-entry
invariant-loop-entry l = record {
  passed : IfSome l.passed (ArePassedIn l.function);
  entries : EntriesRest l.function l.entry l.args l.labels;
}
