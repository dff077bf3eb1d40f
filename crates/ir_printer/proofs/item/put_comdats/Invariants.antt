use Rattle.std.proofs.Common.{◌≡◌, ◌++◌, drop}
use Rattle.std.specs.Prelude.{flat_map}
use Rattle.text_lex.specs.Layout.{text_of}
use Rattle.ir_printer.specs.Print.{comdat_line_pieces}
use Rattle.ir_printer.proofs.item.put_comdats.Given as goal

abbrev pub invariant-loop-line : goal.invariant-loop-line
invariant-loop-line l = l.out.items ++ text_of (flat_map comdat_line_pieces (drop l.line-index l.lines)) ≡ l.initial.out.items ++ text_of (flat_map comdat_line_pieces l.lines)
