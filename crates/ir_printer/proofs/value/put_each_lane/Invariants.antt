use Rattle.std.proofs.Common.{◌≡◌, ◌++◌, take}
use Rattle.std.specs.Prelude.{map}
use Rattle.text_lex.specs.Layout.{text_of}
use Rattle.ir_printer_types.specs.Pieces.{with_commas}
use Rattle.ir_printer.specs.Print.{lane_pieces}
use Rattle.ir_printer.proofs.value.put_each_lane.Given as goal

abbrev pub invariant-loop-place : goal.invariant-loop-place
invariant-loop-place l = l.out.items ≡ l.initial.out.items ++ text_of (with_commas (take l.place (map (lane_pieces l.ty) l.lanes)))
