-- Where a `getelementptr` leads. (LLVM's Language Reference, "'getelementptr' Instruction".)
use Rattle.std.specs.Prelude.{ℕ, Bool, true, false, ◌&&◌, nat_eq, is_some, List, [], ◌∷◌, length, map, Option, Some, None}
use Rattle.ir_types.specs.TypeNodes.{TypeNode, opening}
use Rattle.ir_types.specs.Tree.{OperandTree, number, NamedTree, defined, opaque, TypeNameTree, ModuleTree}
use Rattle.ir_types.specs.Offsets.{Definitions as TypeDefinitions, small_size, unnamed, stepped_into}

-- the nodes that a name of a type is defined as
abbrev pub nodes_defined : NamedTree → Option (List TypeNode)
nodes_defined (defined nodes) = Some nodes
nodes_defined opaque = None

-- the definitions of names of types
abbrev pub type_definitions : ModuleTree → TypeDefinitions
type_definitions m = map (λ (t : TypeNameTree). (t.name, nodes_defined t.ty)) m.type_names

-- whether a memory type has a size; from 2^61 on it counts as having none
abbrev pub has_size : TypeDefinitions → List TypeNode → Bool
has_size defs nodes = is_some (small_size defs nodes)

-- an index as its width and its number; one that is no number counts as 0
abbrev pub as_index : ℕ × OperandTree → ℕ × ℕ
as_index (width, number n) = (width, n)
as_index (width, a) = (width, 0)

-- whether an index may choose a member of a struct: a number of 32 bits
abbrev pub chooses_member : ℕ × OperandTree → Bool
chooses_member (width, number n) = nat_eq width 32
chooses_member (width, a) = false

-- whether an index may lead into a type: of structs, where it chooses a member
abbrev pub may_lead : List TypeNode → ℕ × OperandTree → Bool
may_lead (opening packed ∷ nodes) i = chooses_member i
may_lead nodes i = true

-- whether indexes lead into a type, one after another, through the names of types: into a member of a struct or an element of an array, and
-- nowhere else
abbrev pub leads_into : TypeDefinitions → List TypeNode → List (ℕ × OperandTree) → Bool
leads_into defs nodes [] = true
leads_into defs nodes (i ∷ more) = elim (unnamed (length defs) defs nodes) [
  | Some u ↦ may_lead u i && elim (stepped_into defs u (as_index i)) [ Some next ↦ leads_into defs next.1 more | None ↦ false ]
  | None ↦ false
]

-- whether indexes, of which the first steps over whole types, lead through a memory type with a size
abbrev pub is_stepped : TypeDefinitions → List TypeNode → List (ℕ × OperandTree) → Bool
is_stepped defs nodes [] = false
is_stepped defs nodes (i ∷ more) = has_size defs nodes && leads_into defs nodes more
