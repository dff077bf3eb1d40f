-- The edges of a function by the numbers of its blocks.
use Rattle.std.specs.Prelude.{◌≡◌, ℕ, ◌<◌, List, length, slice_get, Contains, Some}
use Rattle.std.specs.List.{All}
use Rattle.ir_types.specs.Tree.{BlockTree, FunctionTree}
use Rattle.ir_graph.specs.declared.edges.Edge.{Edge}
use Rattle.ir_graph.specs.Edges.{successors}

-- an edge leads from one of so many blocks to one of them
pub record IsWithin (count : ℕ) (e : Edge) : Type 0 where
  pub from : e.from < count
  pub to : e.to < count

-- each does
abbrev pub AreWithin : ℕ → List Edge → Type 0
AreWithin count edges = All (IsWithin count) edges

-- a branch of one block goes to another one
pub record IsEdge (f : FunctionTree) (from to : ℕ) : Type 0 where
  pub source : BlockTree
  pub target : BlockTree
  pub at_source : slice_get f.body from ≡ Some source
  pub at_target : slice_get f.body to ≡ Some target
  pub goes : Contains (successors source) target.name

-- these are the edges of a function
pub record AreEdgesOf (f : FunctionTree) (edges : List Edge) : Type 0 where
  pub within : AreWithin (length f.body) edges
  pub real : All (λ (e : Edge). IsEdge f e.from e.to) edges
  pub all : (e : Edge) → IsEdge f e.from e.to → Contains edges e

-- no two blocks have one label
abbrev pub HasLabelsOnce : FunctionTree → Type 0
HasLabelsOnce f = (j k : ℕ) (b c : BlockTree) → slice_get f.body j ≡ Some b → slice_get f.body k ≡ Some c → b.name ≡ c.name → j ≡ k
