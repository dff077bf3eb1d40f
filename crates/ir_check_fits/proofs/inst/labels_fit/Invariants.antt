use Rattle.std.proofs.Common.{◌≡◌, length, map}
use Rattle.std.specs.List.{AllByRecursion, list_all}
use Rattle.ir_types.specs.Denotes.{name_in}
use Rattle.ir_rules.specs.Operands.{is_label}
use Rattle.ir_check_fits.specs.Sites.{locals_at, IsNamed}
use Rattle.ir_check_fits.proofs.inst.labels_fit.Given as goal

abbrev pub invariant-more : goal.invariant-more
invariant-more l = AllByRecursion (IsNamed (length l.x.part.names)) l.left × (list_all (is_label (locals_at l.x)) (map (name_in l.x.part.names) l.left) ≡ list_all (is_label (locals_at l.fn.x)) (map (name_in l.fn.x.part.names) l.fn.labels))

abbrev pub decreases-more : goal.decreases-more
decreases-more l = length l.left
