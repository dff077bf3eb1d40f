use Rattle.std.proofs.Common.{◌≡◌, ◌++◌, drop}
use Rattle.ir_graph.specs.EdgeLists.{edges_from}
use Rattle.ir_graph.proofs.branches.edges_from.Given as goal

abbrev pub invariant-loop-from : goal.invariant-loop-from
invariant-loop-from l = l.edges.items ++ edges_from l.places l.from (drop l.from l.body) ≡ edges_from l.places 0 l.body
