use Rattle.std.proofs.Common.{◌≡◌, List, length, map}
use Rattle.std.specs.List.{list_all}
use Rattle.ir_types.specs.declared.name.Name.{Name}
use Rattle.ir_types.specs.Denotes.{Tables, operand_in}
use Rattle.ir_rules.specs.Mismatch.{is_constant}
use Rattle.ir_check_fits.proofs.numbers.are_constant.Given as goal

abbrev pub invariant-more : goal.invariant-more
invariant-more l = (t : Tables) (names : List Name) → list_all is_constant (map (operand_in t names) l.left) ≡ list_all is_constant (map (operand_in t names) l.fn.operands)

abbrev pub decreases-more : goal.decreases-more
decreases-more l = length l.left
