use Rattle.std.proofs.Common.{◌≡◌, List, Some}
use Rattle.ir_types.specs.declared.memory_type.TypeId.{TypeId}
use Rattle.ir_types.specs.declared.memory_type.Extent.{Extent}
use Rattle.ir_types.specs.Sizes.{AreExtents}
use Rattle.ir_types.specs.TypeNodes.{TypeNode}
use Rattle.ir_types.specs.Offsets.{unnamed}
use Rattle.ir_sizes.specs.Known.{IsSizedAt}
use Rattle.ir_sizes.specs.Definitions.{nodes_in}
use Rattle.ir_sizes.specs.Prepared.{LeadsTo}
use Rattle.ir_sizes.proofs.Leading.{own}
use Rattle.ir_sizes.proofs.ends.end_from.Given as goal

abbrev pub invariant-loop-name : goal.invariant-loop-name
invariant-loop-name l = record {
  leads : (last : TypeId) → LeadsTo l.types l.names l.place last → LeadsTo l.types l.names l.fn.id last;
  more : (extents : List Extent) → AreExtents l.types l.names extents → IsSizedAt extents l.fn.id → (u : List TypeNode) × (unnamed l.left (own l.types l.names) (nodes_in l.types l.names l.place) ≡ Some u);
}

abbrev pub decreases-loop-name : goal.decreases-loop-name
decreases-loop-name l = l.left
