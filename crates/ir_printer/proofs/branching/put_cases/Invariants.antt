use Rattle.std.proofs.Common.{◌≡◌, ◌++◌, ◌∷◌, [], take}
use Rattle.std.specs.Prelude.{map}
use Rattle.text_lex.specs.Layout.{text_of}
use Rattle.ir_types.specs.Denotes.{name_in}
use Rattle.ir_printer_types.specs.Pieces.{each_behind}
use Rattle.ir_printer.specs.Print.{before_case, cases_of}
use Rattle.ir_printer.proofs.branching.put_cases.Given as goal

abbrev pub invariant-loop-place : goal.invariant-loop-place
invariant-loop-place l = l.out.items ≡ l.initial.out.items ++ text_of (each_behind (before_case ∷ []) (take l.place (cases_of l.width l.numbers (map (name_in l.names) l.labels))))
