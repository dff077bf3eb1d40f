use Rattle.ir_printer.proofs.Printed.{module_functions}
use Rattle.ir_printer.proofs.print_module.Goals as goal

pub put_functions-requires-clause-known : goal.put_functions-requires-clause-known
put_functions-requires-clause-known c = rw c.as_slice.ensures (module_functions c.args.m.now c.requires.known c.requires.narrow)
