-- Steps of a constant `getelementptr`, by places.
use Rattle.std.specs.Prelude.{◌≡◌, ◌<◌, ◌≤◌, ◌^◌, ℕ, nat_lt, if◌then◌else◌, Bool, List, [], ◌∷◌, take, slice_get, length, Option, Some, None, IfSome}
use Rattle.std.specs.Option.{option_map}
use Rattle.text_forms.specs.Bind.{◌>>=◌}
use Rattle.ir_types.specs.declared.memory_type.TypeId.{TypeId}
use Rattle.ir_types.specs.declared.memory_type.MemTy.{MemTy}
use Rattle.ir_types.specs.declared.memory_type.MemTy.TheVariants.{One, Array, Struct, Named}
use Rattle.ir_types.specs.declared.memory_type.TypeName.{TypeName}
use Rattle.ir_types.specs.declared.memory_type.Extent.{Extent}
use Rattle.ir_types.specs.declared.memory_type.Extent.TheVariants.{NoSize, Size}
use Rattle.ir_types.specs.Sizes.{Layout, IsLaid, at_place, aligned, SIZE_CAP}
use Rattle.ir_types.specs.TypeNodes.{TypeNode}
use Rattle.ir_types.specs.Offsets.{Definitions, unnamed, stepped_into}
use Rattle.ir_sizes.specs.declared.offsets.Index.{Index}
use Rattle.ir_sizes.specs.declared.step.Step.{Step}
use Rattle.ir_sizes.specs.Known.{extent_at}
use Rattle.ir_sizes.specs.Put.{put_at, EndAt}
use Rattle.ir_sizes.specs.Definitions.{nodes_in}

-- an index as its width and its number
abbrev pub index_pair : Index → ℕ × ℕ
index_pair i = (i.width, i.number)

-- its number is below 2 to its width, which is from 1 to 64
abbrev pub IsIndex : Index → Type 0
IsIndex i = (1 ≤ i.width) × (i.width ≤ 64) × (i.number < 2 ^ i.width)

-- a size below 2^61
abbrev pub small_extent : Extent → Option ℕ
small_extent NoSize = None
small_extent (Size s a) = if nat_lt s SIZE_CAP then Some s else None

-- there is such a size
abbrev pub IsSteppable : Extent → Type 0
IsSteppable NoSize = ⊥
IsSteppable (Size s a) = s < SIZE_CAP

-- a type that is not a name
abbrev pub IsUnnamed : MemTy → Type 0
IsUnnamed (One t) = Unit {0}
IsUnnamed (Array n element) = Unit {0}
IsUnnamed (Struct packed members) = Unit {0}
IsUnnamed (Named k) = ⊥

-- a member of a struct begins so many bytes behind the struct's begin
pub record BeginsAt (types : List MemTy) (names : List TypeName) (packed : Bool) (ids : List TypeId) (k bytes : ℕ) : Type 0 where
  pub last : ℕ
  pub align : ℕ
  pub before : EndAt types names packed (take k ids) last align
  pub id : TypeId
  pub found : slice_get ids k ≡ Some id
  pub layout : Layout
  pub laid : IsLaid types names (at_place id) (layout ∷ [])
  pub bytes_is : bytes ≡ aligned (put_at packed layout.align) last

-- one step, through the names before it
abbrev pub step_by : Definitions → List TypeNode → ℕ × ℕ → Option (ℕ × List TypeNode)
step_by defs nodes i = unnamed (length defs) defs nodes >>= λ u. stepped_into defs u i

-- a step with the nodes of its place
abbrev pub step_in : List MemTy → List TypeName → Step → ℕ × List TypeNode
step_in types names s = (s.bytes, nodes_in types names s.place)

-- from a type that has a small size a step leads as it is defined, to such a type
pub record IsStep (types : List MemTy) (names : List TypeName) (extents : List Extent) (defs : Definitions) (id : TypeId) (i : Index) (step : Option Step) : Type 0 where
  pub is : step_by defs (nodes_in types names id) (index_pair i) ≡ option_map (step_in types names) step
  pub small : IfSome step (λ s. IsSteppable (extent_at extents s.place.0))
