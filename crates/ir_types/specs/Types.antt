-- The types that can be written, and what fits a lane.
use Rattle.std.specs.Prelude.{◌≡◌, ◌≢◌, ◌<◌, ◌⊎◌, ◌^◌, ℕ, suc, nat_lt, Bool, true, List, [], ◌∷◌, length, Option, Some, None}
use Rattle.std.specs.List.{AllByRecursion}
use Rattle.ir_types.specs.declared.name.Name.{Name}
use Rattle.ir_types.specs.declared.inst.Ty.{Ty}
use Rattle.ir_types.specs.declared.inst.Ty.TheVariants.{Int, Ptr, Vector, Void}
use Rattle.ir_types.specs.declared.memory_type.TypeId.{TypeId}
use Rattle.ir_types.specs.declared.memory_type.MemTy.{MemTy}
use Rattle.ir_types.specs.declared.memory_type.MemTy.TheVariants.{One, Array, Struct, Named}
use Rattle.ir_types.specs.Names.{name_at}

-- one of these numbers
abbrev pub IsOneOf : List ℕ → ℕ → Type 0
IsOneOf [] n = ⊥
IsOneOf (x ∷ xs) n = (n ≡ x) ⊎ IsOneOf xs n

-- the widths that are written, in bits
abbrev pub widths : List ℕ
widths = 1 ∷ 8 ∷ 16 ∷ 32 ∷ 64 ∷ []

-- the numbers of lanes: the powers of two from 2 to 512
abbrev pub lane_counts : List ℕ
lane_counts = 2 ∷ 4 ∷ 8 ∷ 16 ∷ 32 ∷ 64 ∷ 128 ∷ 256 ∷ 512 ∷ []

-- whether a lane of w bits is a number below 2^w, or poison
abbrev pub fits_lane : ℕ → Option ℕ → Bool
fits_lane w None = true
fits_lane w (Some x) = nat_lt x (2 ^ w)

-- the types of values that are written
abbrev pub IsType : Ty → Type 0
IsType (Int w) = IsOneOf widths w
IsType Ptr = Unit {0}
IsType (Vector n w) = IsOneOf lane_counts n × IsOneOf widths w
IsType Void = ⊥

-- a place before this one
abbrev pub IsBefore : ℕ → TypeId → Type 0
IsBefore i id = id.0 < i

-- the place of the first of some names that is this one
pub record IsFirst (names : List Name) (k : ℕ) : Type 0 where
  pub within : k < length names
  pub first : (j : ℕ) → j < k → name_at names j ≢ name_at names k

-- a memory type that may stand at a place of the list: its parts stand before it
abbrev pub IsTypeAt : List Name → ℕ → MemTy → Type 0
IsTypeAt names i (One t) = IsType t
IsTypeAt names i (Array n element) = IsBefore i element
IsTypeAt names i (Struct packed members) = AllByRecursion (IsBefore i) members
IsTypeAt names i (Named k) = IsFirst names k

-- the same of each of a list that begins at a place
abbrev pub AreTypes : List Name → ℕ → List MemTy → Type 0
AreTypes names i [] = Unit {0}
AreTypes names i (t ∷ ts) = IsTypeAt names i t × AreTypes names (suc i) ts
