use Rattle.std.proofs.Common.{◌≡◌, length}
use Rattle.text_forms.specs.Gives.{left}
use Rattle.text_forms.specs.Kept.{attachment, kept_behind_comma}
use Rattle.text_forms.specs.Machine.{behind}
use Rattle.text_forms.specs.Reading.{read}
use Rattle.kept_runs.proofs.Behind.{each}
use Rattle.kept_runs.proofs.attachments.keep_comma_attachments.Given as goal

abbrev pub decreases-more : goal.decreases-more
decreases-more l = length l.rest.rest.now

abbrev pub invariant-more : goal.invariant-more
invariant-more l = behind l.texts (read (each (kept_behind_comma attachment)) (left l.rest)) ≡ behind l.fn.texts (read (each (kept_behind_comma attachment)) (left l.fn.tokens))
