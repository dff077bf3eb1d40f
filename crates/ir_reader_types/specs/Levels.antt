-- Frames that are kept as levels, and the members of all structs in one list.
use Rattle.std.specs.Prelude.{◌≡◌, ℕ, ◌+◌, ◌-◌, List, [], ◌∷◌, length, take, drop}
use Rattle.ir_types.specs.declared.memory_type.TypeId.{TypeId}
use Rattle.ir_types.specs.declared.memory_type.MemTy.{MemTy}
use Rattle.ir_reader_types.specs.declared.stack.Level.{Level}
use Rattle.ir_reader_types.specs.declared.stack.Level.TheVariants.{Array, Struct}
use Rattle.ir_reader_types.specs.Frames.{Frame, in_array, in_struct, with_member, closed}

-- the frames, the innermost first: the last members are those of the innermost struct
abbrev pub frames_of : List Level → List TypeId → List Frame
frames_of [] ids = []
frames_of (Array n ∷ outer) ids = in_array n ∷ frames_of outer ids
frames_of (Struct p k ∷ outer) ids = in_struct p (drop (length ids - k) ids) ∷ frames_of outer (take (length ids - k) ids)

-- how many members the structs have
abbrev pub member_count : List Level → ℕ
member_count [] = 0
member_count (Array n ∷ outer) = member_count outer
member_count (Struct p k ∷ outer) = k + member_count outer

-- the innermost frame has one more member
abbrev pub Adds : List Frame → TypeId → List Frame → Type 0
Adds [] id new = ⊥
Adds (f ∷ outer) id new = new ≡ with_member f id ∷ outer

-- the innermost frame is left, and is this type, whose last part is given
abbrev pub Closes : List Frame → TypeId → MemTy → List Frame → Type 0
Closes [] id t new = ⊥
Closes (f ∷ outer) id t new = (t ≡ closed f id) × (new ≡ outer)
