-- Memories.
use Rattle.std.specs.Prelude.{ℕ, ◌+◌, ◌<◌, ◌^◌, Bool, true, false, if◌then◌else◌, nat_eq, ◌&&◌, List, [], ◌∷◌, length, Option, Some, None}
use Rattle.ir_types.specs.declared.name.Name.{Name}
use Rattle.ir_meaning.specs.declared.value.Pointer.{Pointer}
use Rattle.ir_meaning.specs.declared.value.Byte.{Byte}
use Rattle.ir_meaning.specs.declared.value.Byte.TheVariants.{Number, Poison, Part}
use Rattle.ir_meaning.specs.declared.value.Allocation.{Allocation}

-- allocations, and for each name the pointer that a symbol of this name stands for
pub record Memory : Type 0 where
  pub allocations : List Allocation
  pub symbols : Name → Pointer

-- a byte: a number of 8 bits, poison, or one of the parts 0 to 7 of a pointer
abbrev pub IsByte : Byte → Type 0
IsByte (Number b) = b < 256
IsByte Poison = Unit {0}
IsByte (Part p k) = (p.address < 2 ^ 64) × (k < 8)

-- ---- pointers in bytes

abbrev pub equal_allocations : Option ℕ → Option ℕ → Bool
equal_allocations None None = true
equal_allocations None (Some b) = false
equal_allocations (Some a) None = false
equal_allocations (Some a) (Some b) = nat_eq a b

abbrev pub equal_pointers : Pointer → Pointer → Bool
equal_pointers p q = nat_eq p.address q.address && equal_allocations p.allocation q.allocation

-- whether the bytes are the parts of a pointer, from part k on
abbrev pub are_parts : Pointer → ℕ → List Byte → Bool
are_parts p k [] = true
are_parts p k (Number b ∷ bytes) = false
are_parts p k (Poison ∷ bytes) = false
are_parts p k (Part q j ∷ bytes) = equal_pointers p q && nat_eq j k && are_parts p (k + 1) bytes

-- the pointer as which eight bytes read: its parts 0 to 7
abbrev pub pointer_of : List Byte → Option Pointer
pointer_of [] = None
pointer_of (Number b ∷ bytes) = None
pointer_of (Poison ∷ bytes) = None
pointer_of (Part p k ∷ bytes) = if nat_eq (length bytes) 7 && are_parts p 0 (Part p k ∷ bytes) then Some p else None
