-- Sizes below 2^61.
use Rattle.std.specs.Prelude.{◌≡◌, ◌<◌, ◌≤◌, ◌-◌, ◌^◌, ℕ, List}
use Rattle.ir_types.specs.declared.memory_type.MemTy.{MemTy}
use Rattle.ir_types.specs.declared.memory_type.TypeName.{TypeName}
use Rattle.ir_types.specs.Sizes.{Layout, HasLayout}

-- the type takes so many bytes, which are at most 2^61 - 1
abbrev pub HasSize : List MemTy → List TypeName → MemTy → ℕ → Type 0
HasSize types names t s = (l : Layout) × HasLayout types names t l × (l.size ≡ s) × (s ≤ 2 ^ 61 - 1)

-- the type takes more, or has no size
abbrev pub IsBeyond : List MemTy → List TypeName → MemTy → Type 0
IsBeyond types names t = (l : Layout) → HasLayout types names t l → 2 ^ 61 - 1 < l.size
