use Rattle.std.proofs.Common.{◌≡◌, List, length, map}
use Rattle.std.specs.Prelude.{zip}
use Rattle.ir_types.specs.declared.name.Name.{Name}
use Rattle.ir_types.specs.Denotes.{Tables, operand_in}
use Rattle.ir_check_fits.specs.Places.{leads_at}
use Rattle.ir_check_fits.proofs.steps.leads_at.Given as goal

abbrev pub invariant-more : goal.invariant-more
invariant-more l = (t : Tables) (names : List Name) → leads_at l.types l.steps.ends l.extents l.place (zip l.widths_left (map (operand_in t names) l.left)) ≡ leads_at l.fn.types l.fn.steps.ends l.fn.extents l.fn.id (zip l.fn.widths (map (operand_in t names) l.fn.indexes))

abbrev pub decreases-more : goal.decreases-more
decreases-more l = length l.widths_left
