use Rattle.std.proofs.Common.{◌≡◌, length, map}
use Rattle.std.specs.List.{AllByRecursion}
use Rattle.ir_rules.specs.Operands.{fit}
use Rattle.ir_check_fits.specs.Sites.{locals_at, operands_at, IsHere}
use Rattle.ir_check_fits.proofs.fitting.fit.Given as goal

abbrev pub invariant-more : goal.invariant-more
invariant-more g l = AllByRecursion (IsHere (length l.x.part.names)) l.args_left × (fit (locals_at l.x) (map g.T.Typed.type_of l.typed_left) (operands_at l.x l.args_left) ≡ fit (locals_at l.fn.x) (map g.T.Typed.type_of l.fn.typed) (operands_at l.fn.x l.fn.args))

abbrev pub decreases-more : goal.decreases-more
decreases-more g l = length l.typed_left
