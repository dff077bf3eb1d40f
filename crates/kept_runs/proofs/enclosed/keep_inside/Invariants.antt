use Rattle.std.proofs.Common.{◌≡◌, [], length}
use Rattle.text_forms.specs.Gives.{left}
use Rattle.text_forms.specs.Machine.{behind}
use Rattle.text_forms.specs.Reading.{read_inside}
use Rattle.kept_runs.specs.Texts.{with_texts}
use Rattle.kept_runs.proofs.enclosed.keep_inside.Given as goal

abbrev pub decreases-each : goal.decreases-each
decreases-each l = length l.rest.rest.now

abbrev pub invariant-each : goal.invariant-each
invariant-each l = behind l.texts (with_texts (read_inside l.close l.awaited (left l.rest))) ≡ behind l.fn.texts (with_texts (read_inside l.fn.close [] (left l.fn.tokens)))
