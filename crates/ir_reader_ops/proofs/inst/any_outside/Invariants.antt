use Rattle.std.proofs.Common.{◌≡◌, false, take}
use Rattle.std.specs.List.{list_any}
use Rattle.ir_reader_ops.specs.Words.{is_outside}
use Rattle.ir_reader_ops.proofs.inst.any_outside.Given as goal

abbrev pub invariant-loop-operand : goal.invariant-loop-operand
invariant-loop-operand l = list_any is_outside (take l.operand-index l.operands) ≡ false
