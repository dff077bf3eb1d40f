use Rattle.std.proofs.Common.{◌≡◌, drop}
use Rattle.ir_types.specs.Denotes.{operand_in}
use Rattle.ir_limits.specs.Mentioned.{in_operand}
use Rattle.ir_limits.specs.Limits.{first_long}
use Rattle.ir_limits.proofs.Firsts.{first_of}
use Rattle.ir_limits.proofs.names.long_operands.Given as goal

abbrev pub invariant-loop-operand : goal.invariant-loop-operand
invariant-loop-operand l = first_of (λ o. first_long (in_operand (operand_in l.tables l.names o))) (drop l.operand-index l.operands) ≡ first_of (λ o. first_long (in_operand (operand_in l.tables l.names o))) l.operands
