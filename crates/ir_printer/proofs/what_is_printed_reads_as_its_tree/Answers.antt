use Rattle.ir_printer.proofs.Printed.{printed_reads}
use Rattle.ir_printer.proofs.what_is_printed_reads_as_its_tree.Goals as goal

pub returns : goal.returns
returns c = printed_reads
