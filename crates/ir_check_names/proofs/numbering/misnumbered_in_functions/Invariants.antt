use Rattle.std.proofs.Common.{◌≡◌, drop}
use Rattle.ir_check_names.specs.Choice.{first_of}
use Rattle.ir_check_names.specs.Misnumbered.{misnumbered_in}
use Rattle.ir_check_names.proofs.numbering.misnumbered_in_functions.Given as goal

abbrev pub invariant-loop-function : goal.invariant-loop-function
invariant-loop-function l = first_of misnumbered_in (drop l.function-index l.functions) ≡ first_of misnumbered_in l.functions
