use Rattle.std.proofs.Common.{sym, ◌∙◌}
use Rattle.ir_intrinsics.specs.Means.{vector_in}
use Rattle.ir_intrinsics.proofs.Firsts.{first_here, first_next, first_end}
use Rattle.ir_intrinsics.proofs.written.first_vector.Goals as goal

pub returns-in-Some : goal.returns-in-Some
returns-in-Some c = sym (first_here (λ e. (e.0.now, e.1)) (vector_in c.args.end.now c.args.text.now) c.args.lanes.now c.loop-front.front-index _ c.in-Some.vector c.loop-front-test.true (sym c.vector_of.ensures ∙ c.in-Some.is)) ∙ c.loop-front.invariant

pub loop-front-preserved : goal.loop-front-preserved
loop-front-preserved c = sym (first_next (λ e. (e.0.now, e.1)) (vector_in c.args.end.now c.args.text.now) c.args.lanes.now c.loop-front.front-index _ c.loop-front-test.true (sym c.vector_of.ensures ∙ c.in_default.is)) ∙ c.loop-front.invariant

pub returns : goal.returns
returns c = sym (first_end (λ e. (e.0.now, e.1)) (vector_in c.args.end.now c.args.text.now) c.args.lanes.now c.loop-front.front-index c.loop-front-test.false) ∙ c.loop-front.invariant
