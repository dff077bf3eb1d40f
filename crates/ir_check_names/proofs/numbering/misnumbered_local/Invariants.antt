use Rattle.std.proofs.Common.{◌≡◌, drop, None}
use Rattle.ir_check_names.specs.Misnumbered.{misnumbered_from}
use Rattle.ir_check_names.proofs.numbering.misnumbered_local.Given as goal

abbrev pub invariant-loop-definition : goal.invariant-loop-definition
invariant-loop-definition l = misnumbered_from l.names l.highest (drop l.definition-index l.definitions) ≡ misnumbered_from l.names None l.definitions
