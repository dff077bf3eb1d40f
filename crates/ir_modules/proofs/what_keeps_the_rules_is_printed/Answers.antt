use Rattle.ir_types.specs.Denotes.{tree_of}
use Rattle.ir_check.proofs.Narrowed.{narrow}
use Rattle.ir_printer.proofs.Printed.{module_reads}
use Rattle.ir_modules.proofs.what_keeps_the_rules_is_printed.Goals as goal

pub returns : goal.returns
returns c = λ m is keeps. module_reads m is (narrow (tree_of m) keeps)
