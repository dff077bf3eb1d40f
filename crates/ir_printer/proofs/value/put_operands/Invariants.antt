use Rattle.std.proofs.Common.{◌≡◌, ◌++◌, take}
use Rattle.std.specs.Prelude.{map}
use Rattle.text_lex.specs.Layout.{text_of}
use Rattle.ir_types.specs.Denotes.{tables_of, operand_in}
use Rattle.ir_printer_types.specs.Pieces.{with_commas}
use Rattle.ir_printer.specs.Print.{operand_pieces}
use Rattle.ir_printer.proofs.value.put_operands.Given as goal

abbrev pub invariant-loop-place : goal.invariant-loop-place
invariant-loop-place l = l.out.items ≡ l.initial.out.items ++ text_of (with_commas (take l.place (map (operand_pieces l.ty) (map (operand_in (tables_of l.m) l.names) l.operands))))
