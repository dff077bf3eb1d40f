use Rattle.std.proofs.Common.{sym}
use Rattle.text_forms.specs.Gives.{left}
use Rattle.kept_runs.proofs.Balanced.{inside_next, inside_ends}
use Rattle.kept_runs.proofs.Stack.{fits_here}
use Rattle.kept_runs.proofs.enclosed.keep_inside.Goals as goal

pub returns-then-ends : goal.returns-then-ends
returns-then-ends c =
    rw c.in_ok-push.ensures.ok (inside_ends c.args.close c.each.awaited c.each.texts c.in-Some.kind c.in-Some.text.now (left c.each.rest) (left c.in-Some.after) _ c.in-Some.ensures (sym c.if-ends.ensures) c.each.invariant)

pub each-preserved : goal.each-preserved
each-preserved c =
    let goes_on = fits_here _ c.step.new.self c.in_ok-step.field-0 c.in_ok-step.ensures c.if-not-branch.false in
    rw c.in_ok-push-2.ensures.ok (inside_next c.args.close c.each.awaited c.step.new.self c.each.texts c.in-Some.kind c.in-Some.text.now (left c.each.rest) (left c.in-Some.after) _ c.in-Some.ensures (sym c.if-ends.ensures) goes_on c.each.invariant)
