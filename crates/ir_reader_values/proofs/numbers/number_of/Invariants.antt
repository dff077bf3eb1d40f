use Rattle.std.proofs.Common.{◌≡◌, ◌%◌, ◌^◌, drop}
use Rattle.ir_types.specs.Written.{number_of, number_from}
use Rattle.ir_reader_values.proofs.numbers.number_of.Given as goal

abbrev pub invariant-loop-digit : goal.invariant-loop-digit
invariant-loop-digit l = number_from l.number (drop l.digit-index l.digits) % 2 ^ 64 ≡ number_of l.digits % 2 ^ 64
