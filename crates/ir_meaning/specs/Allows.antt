-- When a module allows another: what the other, the printed one, does is what the module that was read may do. Of two modules the read
-- one comes first; of two runs or values, the printed one, which refines the other.
use Rattle.std.specs.Prelude.{◌≡◌, ℕ, ◌+◌, ◌*◌, ◌<◌, ◌≤◌, List, length, map, sum_by, Some}
use Rattle.std.specs.List.{AllZip}
use Rattle.ir_types.specs.declared.name.Name.{Name}
use Rattle.ir_types.specs.Tree.{BlockTree, ParamTree, FunctionTree, ModuleTree}
use Rattle.ir_meaning.specs.declared.value.Value.{Value}
use Rattle.ir_meaning.specs.Values.{HasType}
use Rattle.ir_meaning.specs.Memory.{Memory}
use Rattle.ir_meaning.specs.State.{World}
use Rattle.ir_meaning.specs.Meaning.{function_of}
use Rattle.ir_meaning.specs.Runs.{Observation, Undefined, Going, Returned, observed}
use Rattle.ir_meaning.specs.Refines.{Refines}
use Rattle.ir_meaning.specs.Fits.{Fits}

-- the module defines f as the function of that name: it has a block
pub record Defines (m : ModuleTree) (name : Name) (f : FunctionTree) : Type 0 where
  pub found : function_of m name ≡ Some f
  pub body : 0 < length f.body

-- functions with parameters and results of the same types
pub record SameSignature (f g : FunctionTree) : Type 0 where
  pub params : map (λ p. p.ty) f.params ≡ map (λ p. p.ty) g.params
  pub ret : f.ret ≡ g.ret

-- the function can be run: the module defines it, the arguments are of its parameters' types, and the memory fits the module
pub record CanRun (m : ModuleTree) (function : Name) (args : List Value) (memory : Memory) : Type 0 where
  pub f : FunctionTree
  pub defined : Defines m function f
  pub typed : AllZip (λ (p : ParamTree) v. HasType p.ty v) f.params args
  pub fits : Fits m memory

-- what the read module can run, the printed one can
pub record Covers (read printed : ModuleTree) : Type 0 where
  pub fits : (memory : Memory) → Fits read memory → Fits printed memory
  pub functions : (name : Name) (f : FunctionTree) → Defines read name f → (g : FunctionTree) × Defines printed name g × SameSignature f g

-- a world u of the read module for a world v of the printed one: the same replies, and at least as many numbers
pub record IsWorldFor (v u : World) : Type 0 where
  pub replies : u.replies ≡ v.replies
  pub numbers : length v.numbers ≤ length u.numbers

-- the run has returned
abbrev pub HasReturned : Observation → Type 0
HasReturned Undefined = ⊥
HasReturned (Going events) = ⊥
HasReturned (Returned end) = Unit {0}

-- Two runs, each seen after any number of steps. Up to the horizon, what is seen of the printed run refines what is seen of the read
-- one after some number of steps. And where the read run has returned after n steps, the printed one has after c(n+1), if its world
-- has 512 numbers for each of these steps.
pub record Serves (printed read : ℕ → Observation) (c : ℕ) (v : World) (horizon : ℕ) : Type 0 where
  pub steps : ℕ → ℕ
  pub refined : (n : ℕ) → n ≤ horizon → Refines (printed n) (read (steps n))
  pub returns : (n : ℕ) → HasReturned (read n) → 512 * (c * (n + 1)) ≤ length v.numbers → HasReturned (printed (c * (n + 1)))

-- The read module allows the printed one, with the factor c: for all functions that the read one defines, all arguments, memories and
-- worlds of the printed module, and every horizon, there is a world of the read module under which its run serves.
pub record Allows (read printed : ModuleTree) (c : ℕ) : Type 0 where
  pub covers : Covers read printed
  pub serves : (function : Name) (args : List Value) (memory : Memory) (v : World) (horizon : ℕ) → CanRun read function args memory → (u : World) × IsWorldFor v u × Serves (observed printed function args memory v) (observed read function args memory u) c v horizon

-- the number of a module's instructions
abbrev pub instructions_of : ModuleTree → ℕ
instructions_of m = sum_by (λ (f : FunctionTree). sum_by (λ (b : BlockTree). length b.insts) f.body) m.functions

-- the factor for a printed module
abbrev pub factor_of : ModuleTree → ℕ
factor_of printed = 1 + instructions_of printed

-- one world of the read module under which its run serves the printed run at every horizon
abbrev pub IsServed : (read printed : ModuleTree) (c : ℕ) (function : Name) (args : List Value) (memory : Memory) (v : World) → Type 0
IsServed read printed c function args memory v =
    (u : World) × IsWorldFor v u × ((horizon : ℕ) → Serves (observed printed function args memory v) (observed read function args memory u) c v horizon)
