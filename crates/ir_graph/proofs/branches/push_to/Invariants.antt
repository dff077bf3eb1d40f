use Rattle.std.proofs.Common.{◌≡◌, ◌++◌, drop}
use Rattle.ir_graph.specs.EdgeLists.{edges_to}
use Rattle.ir_graph.proofs.branches.push_to.Given as goal

abbrev pub invariant-loop-label : goal.invariant-loop-label
invariant-loop-label l = l.edges.items ++ edges_to l.places l.from (drop l.label-index l.labels) ≡ l.initial.edges.items ++ edges_to l.places l.from l.labels
