use Rattle.std.proofs.Common.{ℕ, List, ◌++◌, map, sym, ◌∙◌}
use Rattle.text_forms.specs.Gives.{left}
use Rattle.text_forms.specs.Kept.{kept_piece, kept_run}
use Rattle.kept_runs.proofs.Behind.{each_next, kept_takes}
use Rattle.kept_runs.proofs.Takes.{piece_takes}
use Rattle.kept_runs.proofs.pieces.keep_run.Goals as goal

pub more-smaller : goal.more-smaller
more-smaller c =
    let words : List (List ℕ) = map (λ w. w.now) c.args.excluded.now ++ map (λ w. w.now) c.args.others.now in
    kept_takes (kept_piece words) c.more.texts c.keep_piece.new.texts c.more.rest c.in_ok-rest.rest (piece_takes words) c.in_ok-rest.ensures

pub more-preserved : goal.more-preserved
unfolding kept_run
more-preserved c =
    let words : List (List ℕ) = map (λ w. w.now) c.args.excluded.now ++ map (λ w. w.now) c.args.others.now in
    sym (each_next (kept_piece words) c.more.texts c.keep_piece.new.texts (left c.more.rest) (left c.in_ok-rest.rest) (piece_takes words) (sym c.begins_run.ensures ∙ c.more-test.true) c.in_ok-rest.ensures) ∙ c.more.invariant
