use Rattle.ir_types.specs.Denotes.{tables_of}
use Rattle.ir_shape.proofs.Placing.{kind_placed}
use Rattle.ir_printer.proofs.line.put_operands_of.Goals as goal

pub put_stepped_type-requires-clause-place : goal.put_stepped_type-requires-clause-place
put_stepped_type-requires-clause-place c = rw c.in-Offset.is at (kind_placed (tables_of c.args.m.now) c.args.inst.now.kind _ c.requires.known.parts)
