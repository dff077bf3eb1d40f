use Rattle.std.proofs.Common.{◌≡◌, drop}
use Rattle.text_forms.specs.Lexical.{may_end}
use Rattle.text_lex.proofs.front.may_end.Given as goal

abbrev pub invariant-loop-part : goal.invariant-loop-part
invariant-loop-part l = may_end (drop l.part-index l.parts) ≡ may_end l.parts
