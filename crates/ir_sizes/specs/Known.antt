-- What is known of extents while they are computed.
use Rattle.std.specs.Prelude.{◌≡◌, ℕ, ◌<◌, ◌≤◌, min, Bool, true, false, count_by, List, [], ◌∷◌, Some, length, slice_get, slice_index_or, All}
use Rattle.ir_types.specs.declared.name.Name.{Name}
use Rattle.ir_types.specs.declared.memory_type.TypeId.{TypeId}
use Rattle.ir_types.specs.declared.memory_type.MemTy.{MemTy}
use Rattle.ir_types.specs.declared.memory_type.MemTy.TheVariants.{One, Array, Struct, Named}
use Rattle.ir_types.specs.declared.memory_type.NamedType.TheVariants.{Defined}
use Rattle.ir_types.specs.declared.memory_type.TypeName.{TypeName}
use Rattle.ir_types.specs.declared.memory_type.Extent.{Extent}
use Rattle.ir_types.specs.declared.memory_type.Extent.TheVariants.{NoSize, Size}
use Rattle.ir_types.specs.Types.{IsType}
use Rattle.ir_types.specs.Sizes.{Layout, HasLayout, IsLaid, at_place, IsExtent, SIZE_CAP}

-- the extent at a place, and `NoSize` where there is none
abbrev pub extent_at : List Extent → ℕ → Extent
extent_at extents i = slice_index_or extents i NoSize

-- the extent has a size
abbrev pub IsSized : Extent → Type 0
IsSized NoSize = ⊥
IsSized (Size s a) = Unit {0}

-- so has the extent at a place
abbrev pub IsSizedAt : List Extent → TypeId → Type 0
IsSizedAt extents id = IsSized (extent_at extents id.0)

-- the extent is that of the layout
abbrev pub IsExtentOf : Layout → Extent → Type 0
IsExtentOf l NoSize = ⊥
IsExtentOf l (Size s a) = (s ≡ min l.size SIZE_CAP) × (a ≡ l.align)

-- a size, where there is one, is that of the type
abbrev pub IsRight : List MemTy → List TypeName → MemTy → Extent → Type 0
IsRight types names t x = IsSized x → (l : Layout) × HasLayout types names t l × IsExtentOf l x

-- each size that there is is that of its type
abbrev pub EachIsRight : List MemTy → List TypeName → List Extent → Type 0
EachIsRight types names extents = (id : TypeId) → IsSizedAt extents id → (l : Layout) × IsLaid types names (at_place id) (l ∷ []) × IsExtentOf l (extent_at extents id.0)

-- and there is an extent for each type
pub record AreRight (types : List MemTy) (names : List TypeName) (extents : List Extent) : Type 0 where
  pub as_many : length extents ≡ length types
  pub each : EachIsRight types names extents

-- the name at a place stands for the type
abbrev pub IsDefined : List TypeName → ℕ → TypeId → Type 0
IsDefined names k id = (name : Name) × (slice_get names k ≡ Some (record { name = name; ty = Defined id }))

-- the extent of each part of the type has a size; a type of values has no part, and is one that is written
abbrev pub AreSized : List TypeName → List Extent → MemTy → Type 0
AreSized names extents (One t) = IsType t
AreSized names extents (Array n element) = IsSizedAt extents element
AreSized names extents (Struct packed members) = All (IsSizedAt extents) members
AreSized names extents (Named k) = (id : TypeId) × IsDefined names k id × IsSizedAt extents id

-- extents of the first types, among which all definitions stand
pub record AreFirstExtents (types : List MemTy) (names : List TypeName) (extents : List Extent) : Type 0 where
  pub within : length extents ≤ length types
  pub defined : (k : ℕ) (id : TypeId) → IsDefined names k id → id.0 < length extents
  pub each : (i : ℕ) (t : MemTy) (x : Extent) → slice_get types i ≡ Some t → slice_get extents i ≡ Some x → IsExtent types names t x

-- the extent's size is at most 2^61, and its alignment from 1 to 4096
abbrev pub IsSmall : Extent → Type 0
IsSmall NoSize = Unit {0}
IsSmall (Size s a) = (s ≤ SIZE_CAP) × (1 ≤ a) × (a ≤ 4096)

-- so is each of the list
abbrev pub AreSmall : List Extent → Type 0
AreSmall extents = (i : ℕ) → IsSmall (extent_at extents i)

-- where the parts of the type at the place have sizes, so has the extent there
abbrev pub IsSettledAt : List MemTy → List TypeName → List Extent → ℕ → Type 0
IsSettledAt types names extents i = (t : MemTy) → slice_get types i ≡ Some t → AreSized names extents t → IsSized (extent_at extents i)

-- whether the extent has no size
abbrev pub is_unset : Extent → Bool
is_unset NoSize = true
is_unset (Size s a) = false

-- how many extents have no size
abbrev pub unset : List Extent → ℕ
unset extents = count_by is_unset extents
