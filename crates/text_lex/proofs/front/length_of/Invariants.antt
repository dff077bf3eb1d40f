use Rattle.std.proofs.Common.{◌≡◌, drop}
use Rattle.text_lex.specs.Scan.{far, front}
use Rattle.text_lex.proofs.front.length_of.Given as goal

abbrev pub invariant-loop-byte : goal.invariant-loop-byte
invariant-loop-byte l = (l.length ≡ l.byte-index) × (far l.left (drop l.byte-index l.text) l.length l.best ≡ front l.parts l.text)
