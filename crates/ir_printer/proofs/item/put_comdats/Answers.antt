use Rattle.std.proofs.Common.{arith}
use Rattle.ir_printer.specs.Print.{comdat_line_pieces}
use Rattle.ir_printer.proofs.Appended.{one_printed}
use Rattle.ir_printer.proofs.item.put_comdats.Goals as goal

pub loop-line-preserved : goal.loop-line-preserved
loop-line-preserved c = one_printed comdat_line_pieces c.args.lines.now c.loop-line.line-index c.line-item.result _ _ _ (omega arith) c.line-item.is c.in_ok-put_comdat.ensures c.loop-line.invariant
