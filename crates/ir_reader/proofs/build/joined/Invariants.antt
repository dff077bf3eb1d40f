use Rattle.std.proofs.Common.{◌≡◌, ◌++◌}
use Rattle.ir_reader.proofs.build.joined.Given as goal

abbrev pub invariant-loop-kept : goal.invariant-loop-kept
invariant-loop-kept l = l.first.items ≡ l.fn.first.items ++ l.yielded
