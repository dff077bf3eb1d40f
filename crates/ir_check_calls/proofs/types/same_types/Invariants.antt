use Rattle.std.proofs.Common.{◌≡◌, length, map}
use Rattle.ir_rules.specs.Callees.{same_types}
use Rattle.ir_check_calls.proofs.types.same_types.Given as goal

abbrev pub invariant-more : goal.invariant-more
invariant-more g l = same_types (map g.A.Typed.type_of l.some_left) (map g.B.Typed.type_of l.others_left) ≡ same_types (map g.A.Typed.type_of l.fn.some) (map g.B.Typed.type_of l.fn.others)

abbrev pub decreases-more : goal.decreases-more
decreases-more g l = length l.some_left
