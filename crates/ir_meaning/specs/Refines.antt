-- When a value, a memory or an observation refines another: what may be found here where the other stands there. The refining one,
-- which is the printed module's, comes first.
use Rattle.std.specs.Prelude.{◌≡◌, ℕ, ◌<◌, ◌^◌, List, take, drop, Option, Some, None}
use Rattle.std.specs.List.{AllZip}
use Rattle.ir_types.specs.declared.name.Name.{Name}
use Rattle.ir_types.specs.declared.inst.Ty.{Ty}
use Rattle.ir_meaning.specs.declared.value.Pointer.{Pointer}
use Rattle.ir_meaning.specs.declared.value.Byte.{Byte}
use Rattle.ir_meaning.specs.declared.value.Byte.TheVariants.{Poison as PoisonByte, Part}
use Rattle.ir_meaning.specs.declared.value.Value.{Value}
use Rattle.ir_meaning.specs.declared.value.Value.TheVariants.{Ptr, Poison, Lanes}
use Rattle.ir_meaning.specs.declared.value.Allocation.{Allocation}
use Rattle.ir_meaning.specs.Values.{HasType, Typed}
use Rattle.ir_meaning.specs.Memory.{Memory, IsByte, pointer_of}
use Rattle.ir_meaning.specs.State.{Event, Ended}
use Rattle.ir_meaning.specs.Runs.{Observation, Undefined, Going, Returned}

-- a pointer refines itself, and that of the same address without an allocation
pub data PointerRefines : Pointer → Pointer → Type 0 where
  same_pointer : {p : Pointer} → PointerRefines p p
  no_allocation : {a : ℕ} {o : Option ℕ} → PointerRefines (record { address = a; allocation = o }) (record { address = a; allocation = None })

-- a lane of w bits refines itself, and a number refines poison
pub data LaneRefines (w : ℕ) : Option ℕ → Option ℕ → Type 0 where
  same_lane : {x : Option ℕ} → LaneRefines w x x
  of_poison_lane : {x : ℕ} → x < 2 ^ w → LaneRefines w (Some x) None

-- a value refines itself; a value of the type refines poison, where the type has that; pointers refine as pointers do, and vectors lane
-- by lane. Only for poison does the type matter.
pub data ValueRefines (ty : Ty) : Value → Value → Type 0 where
  same_value : {v : Value} → ValueRefines ty v v
  of_poison : {v : Value} → HasType ty v → HasType ty Poison → ValueRefines ty v Poison
  of_pointer : {p q : Pointer} → PointerRefines p q → ValueRefines ty (Ptr p) (Ptr q)
  of_lanes : {w : ℕ} {xs ys : List (Option ℕ)} → AllZip (LaneRefines w) xs ys → ValueRefines ty (Lanes w xs) (Lanes w ys)

-- a byte refines itself, and poison if it is a byte in its range; a part of a pointer refines the same part of one that the pointer refines
pub data ByteRefines : Byte → Byte → Type 0 where
  same_byte : {b : Byte} → ByteRefines b b
  of_poison_byte : {b : Byte} → IsByte b → ByteRefines b PoisonByte
  of_part : {p q : Pointer} {k : ℕ} → PointerRefines p q → ByteRefines (Part p k) (Part q k)

-- byte by byte; and where eight bytes read as one pointer in the other, they read as one here
pub record BytesRefine (here other : List Byte) : Type 0 where
  pub each : AllZip ByteRefines here other
  pub pointers : (at : ℕ) (q : Pointer) → pointer_of (take 8 (drop at other)) ≡ Some q → (p : Pointer) × (pointer_of (take 8 (drop at here)) ≡ Some p)

-- the same allocation, with bytes that refine the other's
pub record AllocationRefines (here other : Allocation) : Type 0 where
  pub number : here.number ≡ other.number
  pub base : here.base ≡ other.base
  pub writable : here.writable ≡ other.writable
  pub bytes : BytesRefine here.bytes other.bytes

-- allocation by allocation, with the same pointers for symbols
pub record MemoryRefines (here other : Memory) : Type 0 where
  pub allocations : AllZip AllocationRefines here.allocations other.allocations
  pub symbols : (name : Name) → here.symbols name ≡ other.symbols name

-- values of one type, at that type
pub record TypedRefines (here other : Typed) : Type 0 where
  pub ty : here.ty ≡ other.ty
  pub value : ValueRefines other.ty here.value other.value

-- a call of the same function, with arguments and a memory that refine the other's
pub record EventRefines (here other : Event) : Type 0 where
  pub name : here.name ≡ other.name
  pub args : AllZip TypedRefines here.args other.args
  pub memory : MemoryRefines here.memory other.memory

-- no value in both, or values that refine
pub data ResultRefines : Option Typed → Option Typed → Type 0 where
  no_result : ResultRefines None None
  result : {v w : Typed} → TypedRefines v w → ResultRefines (Some v) (Some w)

-- runs that have returned, with values, memories and events that refine
pub record EndRefines (here other : Ended) : Type 0 where
  pub value : ResultRefines here.value other.value
  pub memory : MemoryRefines here.memory other.memory
  pub events : AllZip EventRefines here.events other.events

-- every observation refines that the run is undefined; else both go on, with events that refine, or both have returned
pub data Refines : Observation → Observation → Type 0 where
  of_undefined : {o : Observation} → Refines o Undefined
  going : {es fs : List Event} → AllZip EventRefines es fs → Refines (Going es) (Going fs)
  returned : {e f : Ended} → EndRefines e f → Refines (Returned e) (Returned f)
