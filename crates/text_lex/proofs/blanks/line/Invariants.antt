use Rattle.std.proofs.Common.{◌≡◌, ◌+◌, drop}
use Rattle.text_lex.specs.Scan.{line}
use Rattle.text_lex.proofs.blanks.line.Given as goal

abbrev pub invariant-loop-byte : goal.invariant-loop-byte
invariant-loop-byte l = (l.length ≡ l.byte-index) × (line l.text ≡ l.length + line (drop l.byte-index l.text))
