-- Phis that don't have an entry for each edge, block by block.
use Rattle.std.specs.Prelude.{ℕ, suc, ◌+◌, Bool, true, not, ◌&&◌, List, [], ◌∷◌, map, zip, length, Option, Some, None, if◌then◌else◌}
use Rattle.ir_types.specs.declared.name.Name.{Name}
use Rattle.ir_types.specs.declared.module.Function.{Function}
use Rattle.ir_types.specs.declared.module.Module.{Module}
use Rattle.ir_types.specs.Tree.{InstTree, BlockTree, FunctionTree}
use Rattle.ir_types.specs.Denotes.{tables_of, function_in}
use Rattle.ir_rules.specs.declared.fault.Breach.{Breach}
use Rattle.ir_rules.specs.Breaches.{Found, first, inside, result_of}
use Rattle.ir_graph.specs.Edges.{predecessors}
use Rattle.ir_rules.specs.Edges.{is_phi, same_counts, entries_agree, wrong_phis}
use Rattle.ir_check_edges.specs.Targets.{or_else}

-- a phi has an entry for each edge into its block, from blocks of these names, and equal ones for equal predecessors
abbrev pub edges_fit : List Name → InstTree → Bool
edges_fit preds i = same_counts i.labels preds && entries_agree (zip i.args i.labels)

-- the first phi of some instructions that doesn't, or before which stands what is no phi; the first instruction has this number
abbrev pub wrong_behind : List Name → Bool → ℕ → List InstTree → Option Found
wrong_behind preds phis n [] = None
wrong_behind preds phis n (i ∷ is) = if is_phi i && not (phis && edges_fit preds i) then Some (result_of i, n) else wrong_behind preds (phis && is_phi i) (suc n) is

-- the same in blocks of a function
abbrev pub wrong_among : FunctionTree → ℕ → List BlockTree → Option Found
wrong_among f n [] = None
wrong_among f n (b ∷ bs) = or_else (wrong_behind (predecessors f b.name) true n b.insts) (wrong_among f (n + length b.insts) bs)

-- the first of a function's phis that don't fit
abbrev pub wrong_in : Module → Function → Option Breach
wrong_in m f = first (map (inside f.name) (wrong_phis (function_in (tables_of m) f)))
