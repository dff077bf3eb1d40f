use Rattle.std.proofs.Common.{◌≡◌, false, ◌&&◌, sym, refl, ◌∙◌}
use Rattle.std.proofs.lemmas.Bool.{and_right}
use Rattle.text_forms.specs.Form.{is_empty, stops_at}
use Rattle.text_forms.specs.Gives.{left}
use Rattle.kept_runs.specs.Stopping.{stops_of}
use Rattle.kept_runs.proofs.Balanced.{up_to_next}
use Rattle.kept_runs.proofs.Stack.{fits_here}
use Rattle.kept_runs.proofs.up_to.keep_up_to.Goals as goal
use Rattle.kept_runs.proofs.up_to.keep_up_to.Goals.{else-is_empty-via-then-is_empty+else-stops_at, else-is_empty-via-else-is_empty}

pub each-preserved : goal.each-preserved
each-preserved c =
    let goes_on = fits_here _ c.step.new.self c.in_ok-step.field-0 c.in_ok-step.ensures c.if-not-branch.false in
    let no_stop : (is_empty c.each.awaited && stops_at (stops_of c.args.stops) (left c.each.rest)) ≡ false =
    elim c.else-is_empty.branch [
      | else-is_empty-via-then-is_empty+else-stops_at w ↦ and_right (is_empty c.each.awaited) (stops_at (stops_of c.args.stops) (left c.each.rest)) (sym w.stops_at.ensures ∙ w.if-stops_at.false)
      | else-is_empty-via-else-is_empty w ↦ rw (sym c.is_empty.ensures ∙ w.if-is_empty.false) refl
    ] in
    rw c.in_ok-push.ensures.ok (up_to_next (stops_of c.args.stops) c.each.awaited c.step.new.self c.each.texts c.in-Some.kind c.in-Some.text.now (left c.each.rest) (left c.in-Some.after) _ c.in-Some.ensures no_stop goes_on c.each.invariant)
