-- The first long name in each memory type of a list.
use Rattle.std.specs.Prelude.{ℕ, List, [], map, slice_index_or, Option, None}
use Rattle.ir_types.specs.declared.name.Name.{Name}
use Rattle.ir_types.specs.declared.memory_type.TypeId.{TypeId}
use Rattle.ir_types.specs.declared.memory_type.MemTy.{MemTy}
use Rattle.ir_types.specs.declared.memory_type.MemTy.TheVariants.{One, Array, Struct, Named}
use Rattle.ir_types.specs.Names.{name_at}
use Rattle.ir_types.specs.TypeNodes.{TypeNode, all_nodes, names_used}
use Rattle.ir_limits.specs.Limits.{long_name, first_of, first_long}

-- the bytes of the first name in a memory type that has too many
abbrev pub long_in : List TypeNode → Option ℕ
long_in nodes = first_long (names_used nodes)

-- the same of each type of a list
abbrev pub longs_of : List Name → List MemTy → List (Option ℕ)
longs_of names types = map long_in (all_nodes names [] types)

-- what is known of the type at a place
abbrev pub long_at : List (Option ℕ) → TypeId → Option ℕ
long_at longs id = slice_index_or longs id.0 None

-- the first in a type, from what is known of the types before it
abbrev pub long_from : List Name → List (Option ℕ) → MemTy → Option ℕ
long_from names longs (One t) = None
long_from names longs (Array n element) = long_at longs element
long_from names longs (Struct packed members) = first_of (long_at longs) members
long_from names longs (Named k) = long_name (name_at names k)
