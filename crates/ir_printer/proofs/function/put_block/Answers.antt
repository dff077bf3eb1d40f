use Rattle.std.proofs.Common.{arith}
use Rattle.ir_shape.proofs.Names.{within_names}
use Rattle.ir_printer.proofs.function.put_block.Goals as goal

pub get-requires : goal.get-requires
get-requires c = omega (arith, within_names c.args.names.now c.args.block.now.name.0 c.requires.known.name)
