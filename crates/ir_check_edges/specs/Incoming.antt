-- The edges into blocks, by the positions of their labels.
use Rattle.std.specs.Prelude.{◌≡◌, ℕ, ◌<◌, List, [], ◌∷◌, ◌++◌, length, map, slice_index_or, slice_set}
use Rattle.std.specs.Global.{Vec}
use Rattle.text_forms.specs.Nested.{concat}
use Rattle.ir_types.specs.declared.name.ValueId.{ValueId}
use Rattle.ir_types.specs.declared.inst.Inst.{Inst}
use Rattle.ir_types.specs.declared.module.Block.{Block}
use Rattle.ir_types.specs.declared.module.Function.{Function}
use Rattle.ir_types.specs.Names.{name_at}
use Rattle.ir_types.specs.Denotes.{Tables, name_in, function_in}
use Rattle.ir_graph.specs.Edges.{predecessors}
use Rattle.ir_graph.specs.EdgeLists.{goes_to}

-- lists of labels, as their items
abbrev pub rows_of : List (Vec ValueId) → List (List ValueId)
rows_of rows = map (λ (row : Vec ValueId). row.items) rows

-- what stands in one of some lists
abbrev pub row_at : List (List ValueId) → ℕ → List ValueId
row_at rows i = slice_index_or rows i []

-- a label put behind the list of another one, and behind those of some
abbrev pub put : ValueId → List (List ValueId) → ValueId → List (List ValueId)
put from rows to = slice_set rows to.0 (row_at rows to.0 ++ from ∷ [])

abbrev pub put_all : ValueId → List (List ValueId) → List ValueId → List (List ValueId)
put_all from rows [] = rows
put_all from rows (to ∷ tos) = put_all from (put from rows to) tos

-- the labels that instructions go to
abbrev pub labels_by : List Inst → List ValueId
labels_by insts = concat (map goes_to insts)

-- the labels of blocks, each put behind the lists of those that it goes to
abbrev pub put_blocks : List (List ValueId) → List Block → List (List ValueId)
put_blocks rows [] = rows
put_blocks rows (b ∷ bs) = put_blocks (put_all b.name rows (labels_by b.insts)) bs

-- for each name of a function the labels of the predecessors of the block of that name, one for each edge
abbrev pub AreIncoming : Function → List (Vec ValueId) → Type 0
AreIncoming f rows = (t : Tables) (i : ℕ) → i < length rows → map (name_in f.names) (row_at (rows_of rows) i) ≡ predecessors (function_in t f) (name_at f.names i)
