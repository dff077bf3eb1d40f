use Rattle.std.proofs.Common.{◌≡◌, ◌++◌, take}
use Rattle.std.specs.Prelude.{map}
use Rattle.text_lex.specs.Layout.{text_of}
use Rattle.ir_types.specs.Denotes.{name_in}
use Rattle.ir_printer_types.specs.Pieces.{with_commas}
use Rattle.ir_printer.specs.Print.{target_pieces}
use Rattle.ir_printer.proofs.branching.put_targets.Given as goal

abbrev pub invariant-loop-place : goal.invariant-loop-place
invariant-loop-place l = l.out.items ≡ l.initial.out.items ++ text_of (with_commas (take l.place (map target_pieces (map (name_in l.names) l.labels))))
