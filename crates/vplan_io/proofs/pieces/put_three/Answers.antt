use Rattle.std.proofs.Common.{◌≡◌, ◌++◌, [], ◌∙◌}
use Rattle.vplan_io.proofs.Joined.{refused-takes, front-of-both, front-behind, takes-behind, both-taken, no-front, no-back}
use Rattle.vplan_io.proofs.pieces.put_three.Goals as goal

pub returns-in_err-put_text-clause-bytes : goal.returns-in_err-put_text-clause-bytes
returns-in_err-put_text-clause-bytes g c =
    refused-takes _ _ _ _ c.from_residual.ensures.0 (front-of-both _ _ (c.args.first.now ++ c.args.middle.now) c.args.last.now (front-of-both _ _ c.args.first.now c.args.middle.now c.in_err-put_text.ensures.bytes))

pub returns-in_err-put_text-2-clause-bytes : goal.returns-in_err-put_text-2-clause-bytes
returns-in_err-put_text-2-clause-bytes g c =
    refused-takes _ _ _ _ c.from_residual-in_err-put_text-2.ensures.0 (front-of-both _ _ (c.args.first.now ++ c.args.middle.now) c.args.last.now (front-behind _ _ _ c.args.first.now c.args.middle.now c.in_ok-put_text.ensures.bytes c.in_err-put_text-2.ensures.bytes))

pub returns-in_err-put_text-2-clause-none : goal.returns-in_err-put_text-2-clause-none
returns-in_err-put_text-2-clause-none g c e =
    let both = no-front (c.args.first.now ++ c.args.middle.now) c.args.last.now e in
    c.put_text-2.ensures.none (no-back c.args.first.now c.args.middle.now both) ∙ c.put_text.ensures.none (no-front c.args.first.now c.args.middle.now both)

pub returns-clause-bytes : goal.returns-clause-bytes
returns-clause-bytes g c =
    takes-behind _ _ _ (c.args.first.now ++ c.args.middle.now) c.args.last.now c.put_text-3.result (both-taken _ _ _ c.args.first.now c.args.middle.now c.in_ok-put_text.ensures.bytes c.in_ok-put_text-2.ensures.bytes) c.put_text-3.ensures.bytes

pub returns-clause-none : goal.returns-clause-none
returns-clause-none g c e =
    let both = no-front (c.args.first.now ++ c.args.middle.now) c.args.last.now e in
    c.put_text-3.ensures.none (no-back (c.args.first.now ++ c.args.middle.now) c.args.last.now e) ∙ c.put_text-2.ensures.none (no-back c.args.first.now c.args.middle.now both) ∙ c.put_text.ensures.none (no-front c.args.first.now c.args.middle.now both)
