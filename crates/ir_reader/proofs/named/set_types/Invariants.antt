use Rattle.std.proofs.Common.{◌≡◌, take}
use Rattle.ir_reader.specs.Typed.{with_types}
use Rattle.ir_reader.proofs.named.set_types.Given as goal

abbrev pub invariant-loop-place : goal.invariant-loop-place
invariant-loop-place l = l.names ≡ with_types l.fn.names (take l.place l.named)
