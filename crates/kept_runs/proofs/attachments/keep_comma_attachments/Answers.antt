use Rattle.std.proofs.Common.{refl, sym, ◌∙◌}
use Rattle.text_forms.specs.Gives.{left}
use Rattle.text_forms.specs.Kept.{attachment, kept_behind_comma}
use Rattle.kept_runs.proofs.Behind.{each_next, kept_takes}
use Rattle.kept_runs.proofs.attachments.keep_comma_attachments.Goals as goal

pub more-smaller : goal.more-smaller
more-smaller c = kept_takes (kept_behind_comma attachment) c.more.texts c.keep_comma_attachment.new.texts c.more.rest c.in_ok-rest.rest refl c.in_ok-rest.ensures

pub more-preserved : goal.more-preserved
more-preserved c =
    sym (each_next (kept_behind_comma attachment) c.more.texts c.keep_comma_attachment.new.texts (left c.more.rest) (left c.in_ok-rest.rest) refl (sym c.begins_comma_attachment.ensures ∙ c.more-test.true) c.in_ok-rest.ensures) ∙ c.more.invariant
