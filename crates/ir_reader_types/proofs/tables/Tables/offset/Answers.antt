use Rattle.std.proofs.Common.{◌≡◌, ℕ, List, map, Option, refl, ◌∙◌}
use Rattle.ir_types.specs.declared.memory_type.TypeId.{TypeId}
use Rattle.ir_types.specs.declared.memory_type.TypeName.{TypeName}
use Rattle.ir_types.specs.declared.memory_type.MemTy.{MemTy}
use Rattle.ir_types.specs.declared.memory_type.Extent.{Extent}
use Rattle.ir_types.specs.Offsets.{Definitions, offset_of}
use Rattle.ir_sizes.specs.Definitions.{nodes_in, AreDefinitions}
use Rattle.ir_sizes.specs.Stepping.{index_pair}
use Rattle.ir_sizes.specs.Prepared.{StepLists, AreSteps, ArePrepared}
use Rattle.ir_reader_types.specs.Tables.{TableLists, nodes_there, definitions_of, AreTables}
use Rattle.ir_reader_types.proofs.Defining.{are_definitions}
use Rattle.ir_reader_types.proofs.tables.Tables.offset.Goals as goal

-- what is so for all definitions that fit is so for those of the tables
by_own : (t view : TableLists) (types : List MemTy) (extents : List Extent) (steps : StepLists) (id : TypeId) (indexes : List (ℕ × ℕ)) (r : Option ℕ) → t ≡ view → types ≡ t.types → extents ≡ t.extents → AreTables t → AreSteps t.types t.entries t.extents steps
    → ((names : List TypeName) (defs : Definitions) → ArePrepared types names extents steps → AreDefinitions types names defs → r ≡ offset_of defs (nodes_in types names id) indexes) → r ≡ offset_of (definitions_of view) (nodes_there view id) indexes
by_own t view types extents steps id indexes r v x y h s f =
    let prepared : ArePrepared t.types t.entries t.extents steps = record { types_are = h.types_are; extents_are = h.extents_are; steps_are = s } in
    f t.entries (definitions_of t) (rw (x, y) prepared) (rw x (are_definitions t.entries t.types h.entries_apart)) ∙ rw x (rw v refl)

pub returns : goal.returns
returns c =
    let s = c.self.inside in
    let t : TableLists = record { symbols = s.symbols; known = s.known; entries = s.names; types = s.types.items; extents = s.extents.items } in
    by_own t c.args.self.now c.as_slice.result.now c.as_slice-2.result.now s.steps c.args.id (map index_pair c.args.indexes.now) c.offset.result c.self.view_is c.as_slice.ensures.value c.as_slice-2.ensures.value c.self.invariant.0 c.self.invariant.1 c.offset.ensures
