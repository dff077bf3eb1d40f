-- Names of types that stand for types at places, and the same as definitions by nodes.
use Rattle.std.specs.Prelude.{◌≡◌, ◌≤◌, ℕ, Bool, List, [], ◌∷◌, ◌++◌, map, length, slice_get, Option, Some, None}
use Rattle.text_forms.specs.Nested.{concat}
use Rattle.ir_types.specs.declared.name.Name.{Name}
use Rattle.ir_types.specs.declared.memory_type.MemTy.{MemTy}
use Rattle.ir_types.specs.declared.memory_type.MemTy.TheVariants.{One, Array, Struct, Named}
use Rattle.ir_types.specs.declared.memory_type.NamedType.{NamedType}
use Rattle.ir_types.specs.declared.memory_type.NamedType.TheVariants.{Defined, Opaque, Missing}
use Rattle.ir_types.specs.declared.memory_type.TypeId.{TypeId}
use Rattle.ir_types.specs.declared.memory_type.TypeName.{TypeName}
use Rattle.ir_types.specs.Types.{IsFirst}
use Rattle.ir_types.specs.Names.{name_at}
use Rattle.ir_types.specs.TypeNodes.{TypeNode, scalar, called, array, opening, closing, type_nodes}
use Rattle.ir_types.specs.Offsets.{Definitions, nodes_of_name}

-- the names themselves
abbrev pub names_in : List TypeName → List Name
names_in names = map (λ (n : TypeName). n.name) names

-- the nodes of the type at a place
abbrev pub nodes_in : List MemTy → List TypeName → TypeId → List TypeNode
nodes_in types names id = type_nodes (names_in names) types id

-- the nodes of a struct whose members' nodes are these
abbrev pub struct_nodes : Bool → List (List TypeNode) → List TypeNode
struct_nodes packed all = opening packed ∷ (concat all ++ closing ∷ [])

-- the nodes of a type, from those of its parts
abbrev pub nodes_by : List Name → (TypeId → List TypeNode) → MemTy → List TypeNode
nodes_by names part (One t) = scalar t ∷ []
nodes_by names part (Array n element) = array n ∷ part element
nodes_by names part (Struct packed members) = struct_nodes packed (map part members)
nodes_by names part (Named k) = called (name_at names k) ∷ []

-- the nodes of a type whose parts are at places
abbrev pub type_in : List MemTy → List TypeName → MemTy → List TypeNode
type_in types names t = nodes_by (names_in names) (nodes_in types names) t

-- the nodes of what a name stands for, none where it is opaque or missing
abbrev pub defined_nodes : List MemTy → List TypeName → NamedType → Option (List TypeNode)
defined_nodes types names (Defined id) = Some (nodes_in types names id)
defined_nodes types names Opaque = None
defined_nodes types names Missing = None

-- a name that is used and not defined
abbrev pub IsMissing : TypeName → Type 0
IsMissing n = n.ty ≡ Missing

-- the definition of a name
abbrev pub definition_of : List MemTy → List TypeName → TypeName → Name × Option (List TypeNode)
definition_of types names n = (n.name, defined_nodes types names n.ty)

-- definitions that say of each name what it stands for where it first stands
pub record AreDefinitions (types : List MemTy) (names : List TypeName) (defs : Definitions) : Type 0 where
  pub as_many : length defs ≤ length names
  pub each : (k : ℕ) (n : TypeName) → slice_get names k ≡ Some n → IsFirst (names_in names) k → nodes_of_name defs n.name ≡ defined_nodes types names n.ty
