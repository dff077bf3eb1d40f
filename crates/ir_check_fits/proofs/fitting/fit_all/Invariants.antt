use Rattle.std.proofs.Common.{◌≡◌, length, map, replicate}
use Rattle.std.specs.List.{AllByRecursion}
use Rattle.ir_rules.specs.Operands.{fit}
use Rattle.ir_check_fits.specs.Sites.{locals_at, operand_at, IsHere}
use Rattle.ir_check_fits.proofs.fitting.fit_all.Given as goal

abbrev pub invariant-more : goal.invariant-more
invariant-more l = AllByRecursion (IsHere (length l.x.part.names)) l.left × (fit (locals_at l.x) (replicate (length l.left) l.ty) (map (operand_at l.x) l.left) ≡ fit (locals_at l.fn.x) (replicate (length l.fn.args) l.fn.ty) (map (operand_at l.fn.x) l.fn.args))

abbrev pub decreases-more : goal.decreases-more
decreases-more l = length l.left
