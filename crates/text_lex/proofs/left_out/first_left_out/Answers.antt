use Rattle.std.proofs.Common.{below_more, sym, ◌∙◌, arith}
use Rattle.text_lex.proofs.Omitted.{none_to_end}
use Rattle.text_lex.proofs.left_out.first_left_out.Goals as goal

pub loop-place-preserved : goal.loop-place-preserved
loop-place-preserved c = below_more _ _ c.loop-place.invariant (sym c.in_ok-is_left_out_at.ensures ∙ c.if-branch.false)

pub returns-clause-first : goal.returns-clause-first
returns-clause-first c = none_to_end c.args.text.now c.args.tokens.now c.loop-place.place (omega arith) c.loop-place.invariant
