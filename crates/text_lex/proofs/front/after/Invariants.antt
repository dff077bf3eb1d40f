use Rattle.std.proofs.Common.{◌≡◌, length}
use Rattle.text_forms.specs.Lexical.{after}
use Rattle.text_lex.proofs.front.after.Given as goal

abbrev pub invariant-loop-first : goal.invariant-loop-first
invariant-loop-first l = after l.left l.byte ≡ after l.parts l.byte

abbrev pub decreases-loop-first : goal.decreases-loop-first
decreases-loop-first l = length l.left
