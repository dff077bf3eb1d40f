-- Rules about the edges between blocks: no branch goes to an entry block; phis stand first in their block, and have an entry for each edge into it.
use Rattle.std.specs.Prelude.{ℕ, suc, ◌+◌, Bool, true, false, not, ◌&&◌, nat_eq, List, [], ◌∷◌, ◌++◌, map, filter, length, zip, count_by, Option, Some, None, if◌then◌else◌}
use Rattle.std.specs.List.{list_all}
use Rattle.ir_types.specs.declared.name.Name.{Name}
use Rattle.ir_types.specs.Names.{same_name}
use Rattle.ir_types.specs.Kinds.{is_phi_kind}
use Rattle.ir_types.specs.Tree.{OperandTree, local, number, null, poison, lanes, global, InstTree, BlockTree, FunctionTree, ModuleTree}
use Rattle.ir_graph.specs.Edges.{targets_of, predecessors}
use Rattle.ir_rules.specs.declared.fault.Subject.{Subject}
use Rattle.ir_rules.specs.declared.fault.Subject.TheVariants.{Local}
use Rattle.ir_rules.specs.declared.fault.Breach.{Breach}
use Rattle.ir_rules.specs.Breaches.{Found, in_functions, in_insts, result_of}

-- ---- the entry

-- the label of the entry, where a branch goes to it
abbrev pub to_entry : List BlockTree → InstTree → List Subject
to_entry [] i = []
to_entry (entry ∷ blocks) i = map Local (filter (same_name entry.name) (targets_of i))

-- branches to a function's entry
abbrev pub entered_again : FunctionTree → List Found
entered_again f = in_insts (to_entry f.body) f

abbrev pub entries_with_predecessors : ModuleTree → List Breach
entries_with_predecessors m = in_functions entered_again m

-- ---- phis

-- an instruction in its block: its number in the function's text, the block, and the instructions of it that stand before
pub record Placed : Type 0 where
  pub place : ℕ
  pub block : BlockTree
  pub before : List InstTree
  pub inst : InstTree

-- the instructions of a block, behind those before them, where the first has this number
abbrev pub placed_behind : BlockTree → ℕ → (before insts : List InstTree) → List Placed
placed_behind b n before [] = []
placed_behind b n before (i ∷ is) = record { place = n; block = b; before = before; inst = i } ∷ placed_behind b (suc n) (before ++ i ∷ []) is

-- the instructions of blocks
abbrev pub placed_in : ℕ → List BlockTree → List Placed
placed_in n [] = []
placed_in n (b ∷ bs) = placed_behind b n [] b.insts ++ placed_in (n + length b.insts) bs

-- the instructions of a function, in the text's order
abbrev pub placed_insts : FunctionTree → List Placed
placed_insts f = placed_in 0 f.body

abbrev pub is_phi : InstTree → Bool
is_phi i = is_phi_kind i.kind

-- how often a name stands in a list
abbrev pub count_of : Name → List Name → ℕ
count_of n names = count_by (same_name n) names

-- two lists have each name equally often
abbrev pub same_counts : List Name → List Name → Bool
same_counts ns ms = list_all (λ n. nat_eq (count_of n ns) (count_of n ms)) (ns ++ ms)

-- whether two lanes are one
abbrev pub same_lane : Option ℕ → Option ℕ → Bool
same_lane (Some n) (Some m) = nat_eq n m
same_lane None None = true
same_lane x y = false

abbrev pub same_lanes : List (Option ℕ) → List (Option ℕ) → Bool
same_lanes [] [] = true
same_lanes (x ∷ xs) (y ∷ ys) = same_lane x y && same_lanes xs ys
same_lanes xs ys = false

-- whether two operands are one; one that is out of range is equal to none, not even to itself
abbrev pub same_operand : OperandTree → OperandTree → Bool
same_operand (local n) (local m) = same_name n m
same_operand (number n) (number m) = nat_eq n m
same_operand null null = true
same_operand poison poison = true
same_operand (lanes xs) (lanes ys) = same_lanes xs ys
same_operand (global n o) (global m p) = same_name n m && nat_eq o p
same_operand a b = false

-- entries of one predecessor are equal
abbrev pub entries_agree : List (OperandTree × Name) → Bool
entries_agree entries = list_all (λ x. list_all (λ y. if same_name x.1 y.1 then same_operand x.0 y.0 else true) entries) entries

-- a phi stands behind phis alone, has an entry for each edge into its block, and equal ones for equal predecessors
abbrev pub phi_fits : FunctionTree → Placed → Bool
phi_fits f p = list_all is_phi p.before && (same_counts p.inst.labels (predecessors f p.block.name) && entries_agree (zip p.inst.args p.inst.labels))

-- the phis of a function that don't
abbrev pub wrong_phis : FunctionTree → List Found
wrong_phis f = map (λ (p : Placed). (result_of p.inst, p.place)) (filter (λ (p : Placed). is_phi p.inst && not (phi_fits f p)) (placed_insts f))

abbrev pub wrong_edges : ModuleTree → List Breach
wrong_edges m = in_functions wrong_phis m
