-- The beginning of a memory type, as the code has it.
use Rattle.std.specs.Prelude.{◌≡◌, Bool, List, [], ◌∷◌, Option, Some, None, if◌then◌else◌}
use Rattle.text_forms.specs.declared.Around.{Around}
use Rattle.text_forms.specs.declared.Around.TheVariants.{InArray, InStruct}
use Rattle.ir_types.specs.declared.name.Name.{Name}
use Rattle.ir_types.specs.declared.memory_type.MemTy.{MemTy}
use Rattle.ir_types.specs.declared.memory_type.MemTy.TheVariants.{One, Array, Struct, Named}
use Rattle.ir_types.specs.TypeNodes.{TypeNode, array, opening, nodes_from}
use Rattle.ir_types.specs.Types.{IsType, IsFirst}
use Rattle.ir_reader_types.specs.declared.heads.Begun.{Begun}
use Rattle.ir_reader_types.specs.declared.heads.Begun.TheVariants as begun
use Rattle.ir_reader_types.specs.Frames.{end_nodes}

-- a type that stands alone: no other stands in it
abbrev pub IsAlone : List Name → MemTy → Type 0
IsAlone names (One t) = IsType t
IsAlone names (Array n element) = ⊥
IsAlone names (Struct packed members) = members ≡ []
IsAlone names (Named k) = IsFirst names k

-- and such a one has begun, if one is complete
abbrev pub BeginsAlone : List Name → Begun → Type 0
BeginsAlone names (begun.Whole t) = IsAlone names t
BeginsAlone names (begun.Array n) = Unit {0}
BeginsAlone names (begun.Struct packed) = Unit {0}

-- the nodes of a beginning, and what the next type is inside of, where the type is not complete
abbrev pub begun_nodes : List Name → Begun → List TypeNode × Option Around
begun_nodes names (begun.Whole t) = (nodes_from names [] t, None)
begun_nodes names (begun.Array n) = (array n ∷ [], Some InArray)
begun_nodes names (begun.Struct packed) = (opening packed ∷ [], Some (InStruct packed))

-- the nodes behind a type inside of this, and whether another type follows
abbrev pub next_nodes : Around → Bool → List TypeNode × Bool
next_nodes w more = (if more then [] else end_nodes w, more)
