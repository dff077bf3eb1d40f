use Rattle.std.proofs.Common.{◌≡◌, ◌++◌, drop}
use Rattle.text_lex.specs.Layout.{text_of}
use Rattle.text_lex.specs.KeptText.{line_pieces}
use Rattle.ir_printer.proofs.kept.put_to_equal.Given as goal

abbrev pub invariant-loop-place : goal.invariant-loop-place
invariant-loop-place l = l.out.items ++ text_of (line_pieces (drop l.place l.line)) ≡ l.fn.out.items ++ text_of (line_pieces l.line)
