-- Members of a struct that are put one behind another.
use Rattle.std.specs.Prelude.{◌≡◌, ℕ, min, Bool, List, map, if◌then◌else◌}
use Rattle.ir_types.specs.declared.memory_type.TypeId.{TypeId}
use Rattle.ir_types.specs.declared.memory_type.MemTy.{MemTy}
use Rattle.ir_types.specs.declared.memory_type.TypeName.{TypeName}
use Rattle.ir_types.specs.Sizes.{Layout, IsLaid, members, end_behind, greatest_align, SIZE_CAP}

-- the alignment at which a member is put
abbrev pub put_at : Bool → ℕ → ℕ
put_at packed a = if packed then 1 else a

-- the layouts with which members are put one behind another
abbrev pub put : Bool → List Layout → List Layout
put packed ls = map (λ (l : Layout). record { size = l.size; align = put_at packed l.align }) ls

-- these members, put one behind another, end there and have this greatest alignment
pub record EndAt (types : List MemTy) (names : List TypeName) (packed : Bool) (ids : List TypeId) (last align : ℕ) : Type 0 where
  pub layouts : List Layout
  pub laid : IsLaid types names (members ids) layouts
  pub last_is : last ≡ min (end_behind 0 (put packed layouts)) SIZE_CAP
  pub align_is : align ≡ greatest_align (put packed layouts)
