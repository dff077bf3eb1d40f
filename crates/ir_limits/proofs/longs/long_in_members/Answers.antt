use Rattle.std.proofs.Common.{sym, ◌∙◌}
use Rattle.ir_limits.specs.Longs.{long_at}
use Rattle.ir_limits.proofs.Firsts.{found_here, none_at_all}
use Rattle.ir_limits.proofs.longs.long_in_members.Goals as goal

pub returns-in-Some : goal.returns-in-Some
returns-in-Some c = found_here (long_at c.args.longs.now) c.args.members.now c.loop-member.member-index _ c.in-Some.bytes c.loop-member-test.true c.loop-member.invariant (sym c.long_known.ensures ∙ c.in-Some.is)

pub returns : goal.returns
returns c = none_at_all (long_at c.args.longs.now) c.args.members.now c.loop-member.member-index c.loop-member-test.false c.loop-member.invariant
