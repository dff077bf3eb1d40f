use Rattle.std.proofs.Common.{◌≡◌, List, map, drop}
use Rattle.ir_types.specs.declared.memory_type.TypeName.{TypeName}
use Rattle.ir_types.specs.Offsets.{Definitions, path_offset}
use Rattle.ir_sizes.specs.Known.{extent_at}
use Rattle.ir_sizes.specs.Definitions.{nodes_in, AreDefinitions}
use Rattle.ir_sizes.specs.Stepping.{index_pair, IsSteppable}
use Rattle.ir_sizes.specs.Prepared.{ArePrepared}
use Rattle.ir_sizes.proofs.Paths.{and_more}
use Rattle.ir_sizes.proofs.offsets.offset_into.Given as goal

abbrev pub invariant-loop-index : goal.invariant-loop-index
invariant-loop-index l =
    (names : List TypeName) (defs : Definitions) → ArePrepared l.types names l.extents l.steps → AreDefinitions l.types names defs → IsSteppable (extent_at l.extents l.fn.id.0)
    → IsSteppable (extent_at l.extents l.place.0) × (path_offset defs (nodes_in l.types names l.fn.id) (map index_pair l.indexes) ≡ and_more l.bytes (path_offset defs (nodes_in l.types names l.place) (map index_pair (drop l.index-index l.indexes))))
