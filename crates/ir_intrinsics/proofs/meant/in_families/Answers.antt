use Rattle.std.proofs.Common.{sym, ap, ◌∙◌}
use Rattle.std.specs.Option.{option_map}
use Rattle.ir_intrinsics.specs.Means.{meant_in, family_in, in_one}
use Rattle.ir_intrinsics.proofs.Firsts.{first_here, first_next, first_end}
use Rattle.ir_intrinsics.proofs.meant.in_families.Goals as goal

pub returns-in-Some : goal.returns-in-Some
returns-in-Some c = sym (first_here (λ e. (e.0.now, family_in e.1)) (in_one c.args.text.now) c.args.families.now c.loop-front.front-index _ (meant_in c.in-Some.intrinsic) c.loop-front-test.true (sym c.begun.ensures ∙ ap (option_map meant_in) c.in-Some.is)) ∙ c.loop-front.invariant

pub loop-front-preserved : goal.loop-front-preserved
loop-front-preserved c = sym (first_next (λ e. (e.0.now, family_in e.1)) (in_one c.args.text.now) c.args.families.now c.loop-front.front-index _ c.loop-front-test.true (sym c.begun.ensures ∙ ap (option_map meant_in) c.in_default.is)) ∙ c.loop-front.invariant

pub returns : goal.returns
returns c = sym (first_end (λ e. (e.0.now, family_in e.1)) (in_one c.args.text.now) c.args.families.now c.loop-front.front-index c.loop-front-test.false) ∙ c.loop-front.invariant
