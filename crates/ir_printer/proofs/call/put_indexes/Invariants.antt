use Rattle.std.proofs.Common.{◌≡◌, ◌++◌, ◌∷◌, [], take}
use Rattle.std.specs.Prelude.{map}
use Rattle.text_lex.specs.Layout.{text_of}
use Rattle.ir_types.specs.declared.inst.Ty.TheVariants.{Int}
use Rattle.ir_types.specs.Denotes.{tables_of, operand_in}
use Rattle.ir_printer_types.specs.Pieces.{comma, blank, each_behind}
use Rattle.ir_printer.specs.Print.{each_typed}
use Rattle.ir_printer.proofs.call.put_indexes.Given as goal

abbrev pub invariant-loop-place : goal.invariant-loop-place
invariant-loop-place l = l.out.items ≡ l.initial.out.items ++ text_of (each_behind (comma ∷ blank ∷ []) (take l.place (each_typed (map Int l.widths) (map (operand_in (tables_of l.m) l.names) l.operands))))
