use Rattle.std.proofs.Common.{◌≡◌, ◌++◌, drop}
use Rattle.ir_graph.specs.EdgeLists.{edges_by}
use Rattle.ir_graph.proofs.branches.push_by.Given as goal

abbrev pub invariant-loop-inst : goal.invariant-loop-inst
invariant-loop-inst l = l.edges.items ++ edges_by l.places l.from (drop l.inst-index l.insts) ≡ l.initial.edges.items ++ edges_by l.places l.from l.insts
