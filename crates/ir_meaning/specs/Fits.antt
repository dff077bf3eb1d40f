-- Which memories a run of a module may start from.
use Rattle.std.specs.Prelude.{◌≡◌, ◌≢◌, ℕ, ◌+◌, ◌<◌, ◌^◌, ◌⊎◌, Bool, false, IsTrue, List, [], length, AllPairs, Contains, Some, None}
use Rattle.std.specs.List.{AllByRecursion}
use Rattle.ir_types.specs.declared.name.Name.{Name}
use Rattle.ir_types.specs.Tree.{ModuleTree}
use Rattle.ir_meaning.specs.declared.value.Allocation.{Allocation}
use Rattle.ir_meaning.specs.Memory.{Memory, IsByte}

-- a variable of a module: its name, its size in bytes, and whether it is constant
pub record Variable : Type 0 where
  pub name : Name
  pub size : ℕ
  pub constant : Bool

-- The variables of a module to which a memory is fitted: none yet, as no instruction with a meaning touches memory. So what is said of memories
-- that fit, and of allowing, is said of modules without variables, or as if they had none.
abbrev pub variables_of : ModuleTree → List Variable
variables_of m = []

-- an allocation of bytes that touches neither 0 nor 2^64
pub record IsAllocation (a : Allocation) : Type 0 where
  pub above : 0 < a.base
  pub below : a.base + length a.bytes < 2 ^ 64
  pub bytes : AllByRecursion IsByte a.bytes

-- two allocations with different numbers that don't touch: between the last byte of one and the first of the other lies another byte
pub record AreApart (a b : Allocation) : Type 0 where
  pub numbers : a.number ≢ b.number
  pub apart : (a.base + length a.bytes < b.base) ⊎ (b.base + length b.bytes < a.base)

-- the variable's pointer is the base of an allocation of its size, which is not writable where the variable is constant
pub record HasVariable (memory : Memory) (v : Variable) : Type 0 where
  pub allocation : Allocation
  pub there : Contains memory.allocations allocation
  pub address : (memory.symbols v.name).address ≡ allocation.base
  pub number : (memory.symbols v.name).allocation ≡ Some allocation.number
  pub size : length allocation.bytes ≡ v.size
  pub constant : IsTrue v.constant → allocation.writable ≡ false

-- The memory fits the module. Of the module only the variables are to count, by name, size and whether they are constant; none does yet. So a memory that
-- fits a module fits one with more declared functions, whose names have pointers without an allocation like all others.
pub record Fits (m : ModuleTree) (memory : Memory) : Type 0 where
  pub allocations : AllByRecursion IsAllocation memory.allocations
  pub apart : AllPairs AreApart memory.allocations
  pub addresses : (name : Name) → (memory.symbols name).address < 2 ^ 64
  pub variables : AllByRecursion (HasVariable memory) (variables_of m)
  -- no two variables share an allocation, and no other name has one
  pub own : AllPairs (λ v w. (memory.symbols v.name).allocation ≢ (memory.symbols w.name).allocation) (variables_of m)
  pub others : (name : Name) → ((v : Variable) → Contains (variables_of m) v → name ≢ v.name) → (memory.symbols name).allocation ≡ None
