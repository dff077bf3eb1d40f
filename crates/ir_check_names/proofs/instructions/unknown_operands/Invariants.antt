use Rattle.std.proofs.Common.{◌≡◌, drop}
use Rattle.ir_check_names.specs.Choice.{first_of}
use Rattle.ir_check_names.specs.Uses.{unknown_operand}
use Rattle.ir_check_names.proofs.instructions.unknown_operands.Given as goal

abbrev pub invariant-loop-operand : goal.invariant-loop-operand
invariant-loop-operand l = first_of (unknown_operand l.known.locals.now l.known.symbols.now) (drop l.operand-index l.operands) ≡ first_of (unknown_operand l.known.locals.now l.known.symbols.now) l.operands
