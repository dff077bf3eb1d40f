use Rattle.std.proofs.Common.{sym, ◌∙◌}
use Rattle.text_forms.specs.Gives.{left}
use Rattle.text_forms.specs.Kept.{attachment, attachments}
use Rattle.kept_runs.proofs.Behind.{each_next, kept_takes}
use Rattle.kept_runs.proofs.Takes.{attachment_takes}
use Rattle.kept_runs.proofs.attachments.keep_attachments.Goals as goal

pub more-smaller : goal.more-smaller
more-smaller c = kept_takes attachment c.more.texts c.keep_attachment.new.texts c.more.rest c.in_ok-rest.rest attachment_takes c.in_ok-rest.ensures

pub more-preserved : goal.more-preserved
unfolding attachments
more-preserved c =
    sym (each_next attachment c.more.texts c.keep_attachment.new.texts (left c.more.rest) (left c.in_ok-rest.rest) attachment_takes (sym c.begins_attachment.ensures ∙ c.more-test.true) c.in_ok-rest.ensures) ∙ c.more.invariant
