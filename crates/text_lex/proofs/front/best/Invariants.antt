use Rattle.std.proofs.Common.{◌≡◌, drop, map}
use Rattle.text_lex.specs.Scan.{best}
use Rattle.text_lex.proofs.front.best.Given as goal

abbrev pub invariant-loop-i : goal.invariant-loop-i
invariant-loop-i l = l.best ≡ best (map (λ r. (r.0, r.1.now)) (drop l.i l.rows)) l.text
