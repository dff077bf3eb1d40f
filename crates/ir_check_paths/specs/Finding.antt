-- What is found of the uses of a function.
use Rattle.std.specs.Prelude.{◌≡◌, ℕ, ◌<◌, List, [], length, take, map, filter_map, zip, slice_get, Option, Some}
use Rattle.text_forms.specs.Nested.{concat}
use Rattle.ir_types.specs.declared.name.Name.{Name}
use Rattle.ir_types.specs.declared.name.ValueId.{ValueId}
use Rattle.ir_types.specs.declared.inst.Inst.{Inst}
use Rattle.ir_types.specs.declared.inst.Operand.{Operand}
use Rattle.ir_types.specs.declared.inst.Operand.TheVariants.{Local}
use Rattle.ir_types.specs.declared.module.Block.{Block}
use Rattle.ir_types.specs.declared.module.Function.{Function}
use Rattle.ir_types.specs.Denotes.{Tables, name_in, operand_in, kind_in, inst_in, block_in, function_in}
use Rattle.ir_types.specs.Tree.{FunctionTree}
use Rattle.ir_rules.specs.Edges.{Placed, placed_behind}
use Rattle.ir_rules.specs.Available.{LocalUse, used_at, used_from, uses_by, local_uses, IsUnavailable}
use Rattle.ir_check_paths.specs.Uses.{Finds}

-- a use is of this name, at this place
pub record IsUseOf (names : List Name) (place : ℕ) (u : LocalUse) (id : ValueId) : Type 0 where
  pub named : u.name ≡ name_in names id
  pub placed : u.place ≡ place
  pub within : id.0 < length names

pub record IsUseFound (names : List Name) (u : LocalUse) (x : ValueId × ℕ) : Type 0 where
  pub named : u.name ≡ name_in names x.0
  pub placed : u.place ≡ x.1
  pub within : x.0.0 < length names

-- the uses of placed instructions
abbrev pub uses_of : FunctionTree → List Placed → List LocalUse
uses_of f ps = concat (map (λ (p : Placed). uses_by f p p.inst.kind) ps)

-- an instruction at a place of a block, behind so many others of it
abbrev pub placed_at : Tables → List Name → Block → (before place : ℕ) → Inst → Placed
placed_at t ns b before place i = record { place = place; block = block_in t ns b; before = map (inst_in t ns) (take before b.insts); inst = inst_in t ns i }

-- an operand that is a local has a place in a table of names
abbrev pub IsLocalIn : List Name → Operand → Type 0
IsLocalIn names (Local id) = id.0 < length names
IsLocalIn names a = Unit {0}

-- the first of some operands that is not available in the block of a number behind so many of its instructions
abbrev pub FindsOfArgs : Function → ℕ → ℕ → List Operand → Option ValueId → Type 0
FindsOfArgs f number before args found = (t : Tables) (p : Placed) → slice_get (function_in t f).body number ≡ Some p.block → p.before ≡ take before p.block.insts
    → Finds (IsUnavailable (function_in t f)) (IsUseOf f.names p.place) (filter_map (used_at p) (map (operand_in t f.names) args)) found

-- the first of a phi's entries
abbrev pub FindsOfEntries : Function → List Operand → List ValueId → Option ValueId → Type 0
FindsOfEntries f args labels found = (t : Tables) (place : ℕ)
    → Finds (IsUnavailable (function_in t f)) (IsUseOf f.names place) (filter_map (used_from (function_in t f) place) (zip (map (operand_in t f.names) args) (map (name_in f.names) labels))) found

-- the first use of an instruction that is not available, wherever it stands
abbrev pub FindsAt : Function → Block → ℕ → Inst → Option ValueId → Type 0
FindsAt f b before i found = (t : Tables) (place : ℕ) → Finds (IsUnavailable (function_in t f)) (IsUseOf f.names place) (uses_by (function_in t f) (placed_at t f.names b before place i) (kind_in t i.kind)) found

-- the first of a block's, whose first instruction has this number
abbrev pub FindsIn : Function → Block → ℕ → Option (ValueId × ℕ) → Type 0
FindsIn f b start found = (t : Tables) → Finds (IsUnavailable (function_in t f)) (IsUseFound f.names) (uses_of (function_in t f) (placed_behind (block_in t f.names b) start [] (map (inst_in t f.names) b.insts))) found

-- the first of a function's
abbrev pub FindsFirst : Function → Option (ValueId × ℕ) → Type 0
FindsFirst f found = (t : Tables) → Finds (IsUnavailable (function_in t f)) (IsUseFound f.names) (local_uses (function_in t f)) found
