use Rattle.std.proofs.Common.{◌∙◌}
use Rattle.text_forms.proofs.Tables.{tested_each}
use Rattle.text_forms.proofs.words.is_one_of.Goals as goal

pub returns : goal.returns
returns c = c.contains.ensures.value ∙ tested_each (λ w. w.now) c.args.words.now c.args.word.now
