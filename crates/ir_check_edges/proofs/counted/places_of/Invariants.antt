use Rattle.std.proofs.Common.{take}
use Rattle.ir_check_edges.specs.Counted.{ArePlacesOf}
use Rattle.ir_check_edges.proofs.counted.places_of.Given as goal

abbrev pub invariant-loop-label : goal.invariant-loop-label
invariant-loop-label l = ArePlacesOf l.names (take l.label-index l.labels) l.places.items
