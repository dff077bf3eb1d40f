-- The edges of a function, block by block.
use Rattle.std.specs.Prelude.{ℕ, suc, List, [], ◌∷◌, ◌++◌, map, filter_map, slice_index_or, Option, None}
use Rattle.std.specs.Option.{option_map}
use Rattle.text_forms.specs.Nested.{concat}
use Rattle.ir_types.specs.declared.name.ValueId.{ValueId}
use Rattle.ir_types.specs.declared.inst.InstKind.{InstKind}
use Rattle.ir_types.specs.declared.inst.InstKind.TheVariants.{Jump, Branch, Switch}
use Rattle.ir_types.specs.declared.inst.Inst.{Inst}
use Rattle.ir_types.specs.declared.module.Block.{Block}
use Rattle.ir_graph.specs.declared.edges.Edge.{Edge}

-- the labels that an instruction goes to
abbrev pub goes_by : InstKind → List ValueId → List ValueId
goes_by Jump labels = labels
goes_by Branch labels = labels
goes_by (Switch width cases) labels = labels
goes_by kind labels = []

abbrev pub goes_to : Inst → List ValueId
goes_to i = goes_by i.kind i.labels

-- the edge from a block to the one of a label
abbrev pub edge_to : List (Option ℕ) → ℕ → ValueId → Option Edge
edge_to places from label = option_map (λ to. record { from = from; to = to }) (slice_index_or places label.0 None)

-- from a block to those of labels
abbrev pub edges_to : List (Option ℕ) → ℕ → List ValueId → List Edge
edges_to places from labels = filter_map (edge_to places from) labels

-- from a block by its instructions
abbrev pub edges_by : List (Option ℕ) → ℕ → List Inst → List Edge
edges_by places from insts = concat (map (λ (i : Inst). edges_to places from (goes_to i)) insts)

-- from blocks, the first of this number
abbrev pub edges_from : List (Option ℕ) → ℕ → List Block → List Edge
edges_from places n [] = []
edges_from places n (b ∷ bs) = edges_by places n b.insts ++ edges_from places (suc n) bs
