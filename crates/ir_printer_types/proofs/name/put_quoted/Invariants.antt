use Rattle.std.proofs.Common.{◌≡◌, ◌++◌, drop}
use Rattle.ir_printer_types.specs.Texts.{escaped}
use Rattle.ir_printer_types.proofs.name.put_quoted.Given as goal

abbrev pub invariant-loop-byte : goal.invariant-loop-byte
invariant-loop-byte l = l.out.items ++ escaped (drop l.byte-index l.text) ≡ l.initial.out.items ++ escaped l.text
