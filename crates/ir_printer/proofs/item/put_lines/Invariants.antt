use Rattle.std.proofs.Common.{◌≡◌, ◌++◌, drop}
use Rattle.std.specs.Prelude.{flat_map}
use Rattle.text_lex.specs.Layout.{text_of}
use Rattle.ir_printer.specs.Print.{whole_line}
use Rattle.ir_printer.proofs.item.put_lines.Given as goal

abbrev pub invariant-loop-line : goal.invariant-loop-line
invariant-loop-line l = l.out.items ++ text_of (flat_map whole_line (drop l.line-index l.lines)) ≡ l.initial.out.items ++ text_of (flat_map whole_line l.lines)
