use Rattle.std.proofs.Common.{length}
use Rattle.text_forms.specs.Gives.{left}
use Rattle.ir_reader_items.proofs.Loops.{ExtrasSoFar}
use Rattle.ir_reader_items.proofs.extras.keep_extras.Given as goal

abbrev pub decreases-more : goal.decreases-more
decreases-more l = length l.rest.rest.now

abbrev pub invariant-more : goal.invariant-more
invariant-more l = ExtrasSoFar l.fn.texts (left l.fn.tokens) l.seen l.texts (left l.rest)
