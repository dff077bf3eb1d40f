-- A memory type with all its parts, as the list of its nodes: an array's node stands before its element's nodes, a struct's before those of
-- its members, behind which another node closes it. So the list of a type's nodes determines the type, whatever stands behind it.
use Rattle.std.specs.Prelude.{ℕ, zero, suc, Bool, List, [], ◌∷◌, ◌++◌, map, Option, Some, None}
use Rattle.std.specs.List.{filter_map}
use Rattle.text_forms.specs.Nested.{concat}
use Rattle.ir_types.specs.declared.name.Name.{Name}
use Rattle.ir_types.specs.declared.inst.Ty.{Ty}
use Rattle.ir_types.specs.declared.memory_type.TypeId.{TypeId}
use Rattle.ir_types.specs.declared.memory_type.MemTy.{MemTy}
use Rattle.ir_types.specs.declared.memory_type.MemTy.TheVariants.{One, Array, Struct, Named}
use Rattle.ir_types.specs.Names.{name_at}

-- a node of a memory type
pub data TypeNode : Type 0 where
  -- a type of values
  scalar : Ty → TypeNode
  -- the type of a name
  called : Name → TypeNode
  -- an array of so many elements, whose type stands behind
  array : ℕ → TypeNode
  -- a struct, packed or not, whose members stand behind
  opening : Bool → TypeNode
  -- the end of a struct
  closing : TypeNode

-- the list at a place, or the empty one
abbrev pub nodes_at : List (List TypeNode) → ℕ → List TypeNode
nodes_at [] i = []
nodes_at (x ∷ xs) zero = x
nodes_at (x ∷ xs) (suc i) = nodes_at xs i

-- the nodes of a type, from those of the types before it
abbrev pub nodes_from : List Name → List (List TypeNode) → MemTy → List TypeNode
nodes_from names before (One t) = scalar t ∷ []
nodes_from names before (Array n element) = array n ∷ nodes_at before element.0
nodes_from names before (Struct packed members) = opening packed ∷ (concat (map (λ id. nodes_at before id.0) members) ++ closing ∷ [])
nodes_from names before (Named k) = called (name_at names k) ∷ []

-- the nodes of each type, behind those of the types before
abbrev pub all_nodes : List Name → List (List TypeNode) → List MemTy → List (List TypeNode)
all_nodes names before [] = before
all_nodes names before (t ∷ ts) = all_nodes names (before ++ nodes_from names before t ∷ []) ts

-- the nodes of the type at a place of a list
abbrev pub type_nodes : List Name → List MemTy → TypeId → List TypeNode
type_nodes names types id = nodes_at (all_nodes names [] types) id.0

-- ---- names of types

-- the name that a node uses
abbrev pub as_called : TypeNode → Option Name
as_called (called n) = Some n
as_called node = None

-- the names that a memory type uses
abbrev pub names_used : List TypeNode → List Name
names_used nodes = filter_map as_called nodes
