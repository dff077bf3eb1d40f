use Rattle.ir_types.specs.Denotes.{tables_of, function_in}
use Rattle.ir_printer.proofs.Appended.{function_appended}
use Rattle.ir_printer.proofs.function.put_function.Goals as goal

pub returns : goal.returns
returns c = function_appended (function_in (tables_of c.args.m.now) c.args.function.now) c.args.out.now.items c.put_body.new.out.items c.put_body.result (c.in_ok-put_head.ensures (tables_of c.args.m.now)) (rw c.as_slice.ensures at c.put_body.ensures)
