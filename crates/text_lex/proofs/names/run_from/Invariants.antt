use Rattle.std.proofs.Common.{◌≡◌, ◌≤◌, ◌<◌, ℕ, drop}
use Rattle.text_lex.specs.Scan.{colon_behind}
use Rattle.text_lex.proofs.names.run_from.Given as goal

abbrev pub invariant-loop-i : goal.invariant-loop-i
invariant-loop-i l = (q : ℕ) → l.place ≤ q → q < l.i → colon_behind (drop q l.text) ≡ colon_behind (drop l.i l.text)
