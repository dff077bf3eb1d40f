use Rattle.std.proofs.Common.{length}
use Rattle.text_forms.specs.Gives.{left}
use Rattle.ir_reader.proofs.Gathering.{SoFar}
use Rattle.ir_reader.proofs.gather.gather.Given as goal

abbrev pub decreases-more : goal.decreases-more
decreases-more l = length l.tokens.rest.now

abbrev pub invariant-more : goal.invariant-more
invariant-more l = SoFar (left l.fn.tokens) l.gathered (left l.tokens)
