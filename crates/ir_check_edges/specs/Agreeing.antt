-- Entries of phis by the positions of their labels, and whether those behind one another agree.
use Rattle.std.specs.Prelude.{◌≡◌, ℕ, ◌<◌, Bool, true, ◌&&◌, nat_eq, List, [], ◌∷◌, length, map, zip, if◌then◌else◌}
use Rattle.std.specs.List.{AllByRecursion}
use Rattle.ir_types.specs.declared.name.Name.{Name}
use Rattle.ir_types.specs.declared.name.ValueId.{ValueId}
use Rattle.ir_types.specs.declared.inst.Operand.{Operand}
use Rattle.ir_types.specs.Tree.{OperandTree}
use Rattle.ir_types.specs.Denotes.{Tables, operand_in}
use Rattle.ir_rules.specs.Edges.{same_operand}
use Rattle.ir_check_edges.specs.declared.entries.Entry.{Entry}

-- what an entry holds: the operand, and the place of the label
abbrev pub pair_of : Entry → Operand × ℕ
pair_of e = (e.arg.now, e.label)

-- entries of operands and labels, each label one of a table
pub record AreEntries (names : List Name) (args : List Operand) (labels : List ValueId) (entries : List Entry) : Type 0 where
  pub are : map pair_of entries ≡ zip args (map (λ (l : ValueId). l.0) labels)
  pub within : AllByRecursion (λ (e : Entry). e.label < length names) entries

-- an operand with the place of its label, as the tree has it
abbrev pub seen_in : Tables → List Name → Entry → OperandTree × ℕ
seen_in t names e = (operand_in t names e.arg.now, e.label)

-- each is equal to the one before it, where they have one label, and otherwise to itself
abbrev pub agree_behind : OperandTree × ℕ → List (OperandTree × ℕ) → Bool
agree_behind x [] = true
agree_behind x (y ∷ ys) = (if nat_eq x.1 y.1 then same_operand x.0 y.0 else same_operand y.0 y.0) && agree_behind y ys

abbrev pub runs_agree : List (OperandTree × ℕ) → Bool
runs_agree [] = true
runs_agree (x ∷ xs) = same_operand x.0 x.0 && agree_behind x xs
