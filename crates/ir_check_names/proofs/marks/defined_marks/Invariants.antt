use Rattle.std.proofs.Common.{◌≡◌, false, replicate, drop}
use Rattle.ir_check_names.specs.Definitions.{all_marked}
use Rattle.ir_check_names.proofs.marks.defined_marks.Given as goal

abbrev pub invariant-loop-definition : goal.invariant-loop-definition
invariant-loop-definition l = all_marked l.marks.items (drop l.definition-index l.definitions) ≡ all_marked (replicate l.count false) l.definitions
