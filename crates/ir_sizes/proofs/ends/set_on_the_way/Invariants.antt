use Rattle.std.proofs.Common.{ℕ}
use Rattle.std.specs.Prelude.{IsSome}
use Rattle.ir_sizes.specs.Prepared.{LeadsTo, end_at, AreEnds}
use Rattle.ir_sizes.proofs.ends.set_on_the_way.Given as goal

abbrev pub invariant-loop : goal.invariant-loop
invariant-loop l = record {
  ends : AreEnds l.types l.names l.ends;
  leads : LeadsTo l.types l.names l.place l.last;
  stays : (k : ℕ) → IsSome (end_at l.fn.ends k) → IsSome (end_at l.ends k);
}
