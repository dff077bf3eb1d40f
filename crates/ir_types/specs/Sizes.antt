-- How much memory types take. (LLVM's Language Reference, "Data Layout"; the alignments here are this project's own.)
use Rattle.std.specs.Prelude.{◌≡◌, ℕ, ◌+◌, ◌-◌, ◌*◌, ◌/◌, ◌^◌, max, min, Bool, true, false, List, [], ◌∷◌, length, slice_get, Some, sum_by}
use Rattle.ir_types.specs.declared.inst.Ty.{Ty}
use Rattle.ir_types.specs.declared.inst.Ty.TheVariants.{Int, Ptr, Vector, Void}
use Rattle.ir_types.specs.declared.name.Name.{Name}
use Rattle.ir_types.specs.declared.memory_type.TypeId.{TypeId}
use Rattle.ir_types.specs.declared.memory_type.MemTy.{MemTy}
use Rattle.ir_types.specs.declared.memory_type.MemTy.TheVariants.{One, Array, Struct, Named}
use Rattle.ir_types.specs.declared.memory_type.NamedType.TheVariants.{Defined}
use Rattle.ir_types.specs.declared.memory_type.TypeName.{TypeName}
use Rattle.ir_types.specs.declared.memory_type.Extent.{Extent}
use Rattle.ir_types.specs.declared.memory_type.Extent.TheVariants.{NoSize, Size}
use Rattle.ir_types.specs.Types.{IsType}

-- a size and an alignment, in bytes
pub record Layout : Type 0 where
  pub size : ℕ
  pub align : ℕ

-- so many bits in bytes, rounded up
abbrev pub bytes_of : ℕ → ℕ
bytes_of bits = (bits + 7) / 8

-- the size of a value of the type, which is its alignment too
abbrev pub value_size : Ty → ℕ
value_size (Int w) = bytes_of w
value_size Ptr = 8
value_size (Vector n w) = bytes_of (n * w)
value_size Void = 0

-- the first multiple of an alignment that is at least n
abbrev pub aligned : ℕ → ℕ → ℕ
aligned align n = ((n + (align - 1)) / align) * align

-- where members end that lie behind n bytes, each at a multiple of its alignment
abbrev pub end_behind : ℕ → List Layout → ℕ
end_behind n [] = n
end_behind n (l ∷ ls) = end_behind (aligned l.align n + l.size) ls

-- the greatest alignment of the members, and 1 of none
abbrev pub greatest_align : List Layout → ℕ
greatest_align [] = 1
greatest_align (l ∷ ls) = max l.align (greatest_align ls)

-- a struct of such members: packed they lie without gaps, else it ends at a multiple of the greatest alignment
abbrev pub struct_layout : Bool → List Layout → Layout
struct_layout true ls = record { size = sum_by (λ (l : Layout). l.size) ls; align = 1 }
struct_layout false ls = record { size = aligned (greatest_align ls) (end_behind 0 ls); align = greatest_align ls }

-- what has a layout, or a list of them
pub data Subject : Type 0 where
  -- a type
  a_type : MemTy → Subject
  -- the type at a place
  at_place : TypeId → Subject
  -- the types at some places
  members : List TypeId → Subject

-- The layouts of types, over a list of types and a list of names. What is a part of itself has none, nor what is opaque or missing.
pub data IsLaid (types : List MemTy) (names : List TypeName) : Subject → List Layout → Type 0 where
  scalar_laid : (t : Ty) → IsType t → IsLaid types names (a_type (One t)) (record { size = value_size t; align = value_size t } ∷ [])
  array_laid : (n : ℕ) (element : TypeId) (l : Layout) → IsLaid types names (at_place element) (l ∷ []) → IsLaid types names (a_type (Array n element)) (record { size = n * l.size; align = l.align } ∷ [])
  struct_laid : (packed : Bool) (ids : List TypeId) (ls : List Layout) → IsLaid types names (members ids) ls → IsLaid types names (a_type (Struct packed ids)) (struct_layout packed ls ∷ [])
  named_laid : (k : ℕ) (name : Name) (id : TypeId) (l : Layout) → slice_get names k ≡ Some (record { name = name; ty = Defined id }) → IsLaid types names (at_place id) (l ∷ []) → IsLaid types names (a_type (Named k)) (l ∷ [])
  place_laid : (id : TypeId) (t : MemTy) (l : Layout) → slice_get types id.0 ≡ Some t → IsLaid types names (a_type t) (l ∷ []) → IsLaid types names (at_place id) (l ∷ [])
  none_laid : IsLaid types names (members []) []
  more_laid : (id : TypeId) (ids : List TypeId) (l : Layout) (ls : List Layout) → IsLaid types names (at_place id) (l ∷ []) → IsLaid types names (members ids) ls → IsLaid types names (members (id ∷ ids)) (l ∷ ls)

-- the type has this layout
abbrev pub HasLayout : List MemTy → List TypeName → MemTy → Layout → Type 0
HasLayout types names t l = IsLaid types names (a_type t) (l ∷ [])

-- sizes from here on are not told apart
abbrev pub SIZE_CAP : ℕ
SIZE_CAP = 2 ^ 61

-- the extent is that of the type
abbrev pub IsExtent : List MemTy → List TypeName → MemTy → Extent → Type 0
IsExtent types names t NoSize = (l : Layout) → HasLayout types names t l → ⊥
IsExtent types names t (Size s a) = (l : Layout) × HasLayout types names t l × (s ≡ min l.size SIZE_CAP) × (a ≡ l.align)

-- the extents of all types
pub record AreExtents (types : List MemTy) (names : List TypeName) (extents : List Extent) : Type 0 where
  pub as_many : length extents ≡ length types
  pub each : (i : ℕ) (t : MemTy) (x : Extent) → slice_get types i ≡ Some t → slice_get extents i ≡ Some x → IsExtent types names t x
