-- The edges between the blocks of a function, by the blocks' labels, each as often as it stands there.
use Rattle.std.specs.Prelude.{List, [], map, filter}
use Rattle.text_forms.specs.Nested.{concat}
use Rattle.ir_types.specs.declared.name.Name.{Name}
use Rattle.ir_types.specs.Names.{same_name}
use Rattle.ir_types.specs.Kinds.{Kind, Jump, Branch, Switch}
use Rattle.ir_types.specs.Tree.{InstTree, BlockTree, FunctionTree}

-- the labels of the blocks to which an instruction goes
abbrev pub targets_by : Kind → List Name → List Name
targets_by Jump labels = labels
targets_by Branch labels = labels
targets_by (Switch width cases) labels = labels
targets_by kind labels = []

abbrev pub targets_of : InstTree → List Name
targets_of i = targets_by i.kind i.labels

-- the labels of a block's successors, one for each edge
abbrev pub successors : BlockTree → List Name
successors b = concat (map targets_of b.insts)

-- the labels of the predecessors of the block of a name, one for each edge
abbrev pub predecessors : FunctionTree → Name → List Name
predecessors f n = concat (map (λ (b : BlockTree). map (λ _. b.name) (filter (same_name n) (successors b))) f.body)
