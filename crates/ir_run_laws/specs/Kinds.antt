-- What is said of refinement of each kind.
use Rattle.std.specs.Prelude.{ℕ, List, Option}
use Rattle.ir_types.specs.declared.inst.Ty.{Ty}
use Rattle.ir_meaning.specs.declared.value.Pointer.{Pointer}
use Rattle.ir_meaning.specs.declared.value.Byte.{Byte}
use Rattle.ir_meaning.specs.declared.value.Value.{Value}
use Rattle.ir_meaning.specs.declared.value.Allocation.{Allocation}
use Rattle.ir_meaning.specs.Values.{Typed}
use Rattle.ir_meaning.specs.Memory.{Memory}
use Rattle.ir_meaning.specs.State.{Event, Ended}
use Rattle.ir_meaning.specs.Runs.{Observation}
use Rattle.ir_meaning.specs.Refines.{PointerRefines, LaneRefines, ValueRefines, ByteRefines, BytesRefine, AllocationRefines, MemoryRefines, ResultRefines, EventRefines, EndRefines, Refines}

-- each is related to itself
abbrev pub IsReflexive : (A : Type 0) → (A → A → Type 0) → Type 0
IsReflexive A R = (a : A) → R a a

-- what is related to a third by way of a second is related to it
abbrev pub IsTransitive : (A : Type 0) → (A → A → Type 0) → Type 0
IsTransitive A R = (a b c : A) → R a b → R b c → R a c

-- refinement of each kind is so
pub record EachRefinement (Is : (A : Type 0) → (A → A → Type 0) → Type 0) : Type 0 where
  pub pointers : Is Pointer PointerRefines
  pub lanes : (w : ℕ) → Is (Option ℕ) (LaneRefines w)
  pub values : (ty : Ty) → Is Value (ValueRefines ty)
  pub single_bytes : Is Byte ByteRefines
  pub bytes : Is (List Byte) BytesRefine
  pub allocations : Is Allocation AllocationRefines
  pub memories : Is Memory MemoryRefines
  pub results : Is (Option Typed) ResultRefines
  pub events : Is Event EventRefines
  pub ends : Is Ended EndRefines
  pub observations : Is Observation Refines
