-- What is prepared for steps into types: where names lead, and where the members of structs begin.
use Rattle.std.specs.Prelude.{◌≡◌, ◌+◌, ◌<◌, ◌≤◌, ℕ, Bool, List, slice_get, slice_index_or, length, Option, Some, None, IsSome, All}
use Rattle.text_forms.specs.Bind.{◌>>=◌}
use Rattle.ir_types.specs.declared.memory_type.TypeId.{TypeId}
use Rattle.ir_types.specs.declared.memory_type.MemTy.{MemTy}
use Rattle.ir_types.specs.declared.memory_type.MemTy.TheVariants.{One, Array, Struct, Named}
use Rattle.ir_types.specs.declared.memory_type.TypeName.{TypeName}
use Rattle.ir_types.specs.declared.memory_type.Extent.{Extent}
use Rattle.ir_types.specs.Types.{AreTypes}
use Rattle.ir_types.specs.Sizes.{AreExtents}
use Rattle.ir_sizes.specs.Known.{IsSizedAt, IsDefined}
use Rattle.ir_sizes.specs.Definitions.{names_in}
use Rattle.ir_sizes.specs.Stepping.{IsUnnamed, BeginsAt}

-- where each name ends; where the begins of each type's members start; the begins
pub record StepLists : Type 0 where
  pub ends : List (Option TypeId)
  pub starts : List ℕ
  pub begins : List ℕ

-- ---- names

-- Through names, of which there may be none, the type at a place leads to one that is no name.
pub data LeadsTo (types : List MemTy) (names : List TypeName) : TypeId → TypeId → Type 0 where
  no_name : (id : TypeId) (t : MemTy) → slice_get types id.0 ≡ Some t → IsUnnamed t → LeadsTo types names id id
  by_name : (id : TypeId) (k : ℕ) (next last : TypeId) → slice_get types id.0 ≡ Some (Named k) → IsDefined names k next → LeadsTo types names next last → LeadsTo types names id last

-- the name at a place stands for a type that leads there
pub record IsEndOf (types : List MemTy) (names : List TypeName) (k : ℕ) (last : TypeId) : Type 0 where
  pub id : TypeId
  pub defined : IsDefined names k id
  pub leads : LeadsTo types names id last

-- where the name at a place ends, if that is known
abbrev pub end_at : List (Option TypeId) → ℕ → Option TypeId
end_at ends k = slice_index_or ends k None

-- an end for each name, which is right where it is known
pub record AreEnds (types : List MemTy) (names : List TypeName) (ends : List (Option TypeId)) : Type 0 where
  pub as_many : length ends ≡ length names
  pub each : (k : ℕ) (last : TypeId) → end_at ends k ≡ Some last → IsEndOf types names k last

-- the end of a name is known, where it stands for a type with a size
abbrev pub IsEndedAt : List TypeName → List Extent → List (Option TypeId) → ℕ → Type 0
IsEndedAt names extents ends k = (id : TypeId) → IsDefined names k id → IsSizedAt extents id → IsSome (end_at ends k)

-- the ends of all names that stand for types with sizes
pub record AreAllEnds (types : List MemTy) (names : List TypeName) (extents : List Extent) (ends : List (Option TypeId)) : Type 0 where
  pub right : (k : ℕ) (last : TypeId) → end_at ends k ≡ Some last → IsEndOf types names k last
  pub known : (k : ℕ) → IsEndedAt names extents ends k

-- ---- members

-- the member at a place begins where it is said
pub record IsBegun (types : List MemTy) (names : List TypeName) (packed : Bool) (ids : List TypeId) (begins : List ℕ) (start k : ℕ) : Type 0 where
  pub bytes : ℕ
  pub said : slice_get begins (start + k) ≡ Some bytes
  pub right : BeginsAt types names packed ids k bytes

-- from a start on it is said where the type's members begin, if it is a struct and they have sizes
abbrev pub AreBegun : List MemTy → List TypeName → List Extent → List ℕ → ℕ → MemTy → Type 0
AreBegun types names extents begins start (One t) = Unit {0}
AreBegun types names extents begins start (Array n element) = Unit {0}
AreBegun types names extents begins start (Struct packed ids) = All (IsSizedAt extents) ids → (k : ℕ) → k < length ids → IsBegun types names packed ids begins start k
AreBegun types names extents begins start (Named k) = Unit {0}

-- the starts of the first types
pub record AreStarts (types : List MemTy) (names : List TypeName) (extents : List Extent) (starts begins : List ℕ) : Type 0 where
  pub within : length starts ≤ length types
  pub each : (i start : ℕ) (t : MemTy) → slice_get types i ≡ Some t → slice_get starts i ≡ Some start → AreBegun types names extents begins start t

-- ---- steps

-- where a member of the struct at a place begins, if that is said
abbrev pub begin_at : StepLists → TypeId → ℕ → Option ℕ
begin_at s id k = slice_get s.starts id.0 >>= λ start. slice_get s.begins (start + k)

-- what is prepared is right; the members' begins are there for the first types
pub record AreFirstSteps (types : List MemTy) (names : List TypeName) (extents : List Extent) (steps : StepLists) : Type 0 where
  pub ends : AreAllEnds types names extents steps.ends
  pub starts : AreStarts types names extents steps.starts steps.begins

-- and for all types
pub record AreSteps (types : List MemTy) (names : List TypeName) (extents : List Extent) (steps : StepLists) : Type 0 where
  pub first : AreFirstSteps types names extents steps
  pub as_many : length steps.starts ≡ length types

-- types with their extents and what is prepared of them
pub record ArePrepared (types : List MemTy) (names : List TypeName) (extents : List Extent) (steps : StepLists) : Type 0 where
  pub types_are : AreTypes (names_in names) 0 types
  pub extents_are : AreExtents types names extents
  pub steps_are : AreSteps types names extents steps
