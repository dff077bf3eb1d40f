use Rattle.std.proofs.Common.{◌≡◌, ◌++◌, length, map}
use Rattle.text_forms.specs.Gives.{left}
use Rattle.text_forms.specs.Kept.{kept_run}
use Rattle.text_forms.specs.Machine.{behind}
use Rattle.text_forms.specs.Reading.{read}
use Rattle.kept_runs.proofs.pieces.keep_run.Given as goal

abbrev pub decreases-more : goal.decreases-more
decreases-more l = length l.rest.rest.now

abbrev pub invariant-more : goal.invariant-more
invariant-more l = behind l.texts (read (kept_run (map (λ w. w.now) l.excluded ++ map (λ w. w.now) l.others)) (left l.rest)) ≡ behind l.fn.texts (read (kept_run (map (λ w. w.now) l.fn.excluded ++ map (λ w. w.now) l.fn.others)) (left l.fn.tokens))
