use Rattle.std.proofs.Common.{◌≡◌, length}
use Rattle.text_forms.specs.Gives.{left}
use Rattle.text_forms.specs.Kept.{attachments}
use Rattle.text_forms.specs.Machine.{behind}
use Rattle.text_forms.specs.Reading.{read}
use Rattle.kept_runs.proofs.attachments.keep_attachments.Given as goal

abbrev pub decreases-more : goal.decreases-more
decreases-more l = length l.rest.rest.now

abbrev pub invariant-more : goal.invariant-more
invariant-more l = behind l.texts (read attachments (left l.rest)) ≡ behind l.fn.texts (read attachments (left l.fn.tokens))
