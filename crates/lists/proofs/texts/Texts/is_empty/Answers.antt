use Rattle.lists.proofs.EndsLemmas.{length-texts_between}
use Rattle.std.proofs.Common.{rules}
use Rattle.lists.proofs.texts.Texts.is_empty.Goals as goal

pub returns : goal.returns
returns c = rw (← c.self.view_is, length-texts_between) (search rules)
