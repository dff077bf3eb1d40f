use Rattle.std.proofs.Common.{◌≡◌, drop}
use Rattle.ir_check_names.specs.Choice.{first_of}
use Rattle.ir_check_names.specs.Missing.{missing_at}
use Rattle.ir_check_names.proofs.missing.missing_in_members.Given as goal

abbrev pub invariant-loop-member : goal.invariant-loop-member
invariant-loop-member l = first_of (missing_at l.missing) (drop l.member-index l.members) ≡ first_of (missing_at l.missing) l.members
