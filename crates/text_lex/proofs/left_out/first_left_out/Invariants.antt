use Rattle.std.proofs.Common.{◌≡◌, ◌<◌, ℕ, false}
use Rattle.text_forms.specs.LeftOut.{is_left_out_at}
use Rattle.text_forms.specs.View.{lexemes}
use Rattle.text_lex.proofs.left_out.first_left_out.Given as goal

abbrev pub invariant-loop-place : goal.invariant-loop-place
invariant-loop-place l = (j : ℕ) → j < l.place → is_left_out_at (lexemes l.text l.tokens) j ≡ false
