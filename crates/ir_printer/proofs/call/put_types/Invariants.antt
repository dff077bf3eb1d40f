use Rattle.std.proofs.Common.{◌≡◌, ◌++◌, take}
use Rattle.std.specs.Prelude.{map}
use Rattle.text_lex.specs.Layout.{text_of}
use Rattle.ir_printer_types.specs.Pieces.{with_commas, type_pieces}
use Rattle.ir_printer.proofs.call.put_types.Given as goal

abbrev pub invariant-loop-place : goal.invariant-loop-place
invariant-loop-place l = l.out.items ≡ l.initial.out.items ++ text_of (with_commas (take l.place (map type_pieces l.types)))
