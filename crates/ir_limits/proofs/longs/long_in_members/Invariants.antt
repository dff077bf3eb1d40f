use Rattle.std.proofs.Common.{◌≡◌, drop}
use Rattle.ir_limits.specs.Limits.{first_of}
use Rattle.ir_limits.specs.Longs.{long_at}
use Rattle.ir_limits.proofs.longs.long_in_members.Given as goal

abbrev pub invariant-loop-member : goal.invariant-loop-member
invariant-loop-member l = first_of (long_at l.longs) (drop l.member-index l.members) ≡ first_of (long_at l.longs) l.members
