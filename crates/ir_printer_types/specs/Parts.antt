-- The types that stand in a type, and what stands around them.
use Rattle.std.specs.Prelude.{ℕ, zero, suc, ◌<◌, nat_lt, List, [], ◌∷◌, ◌++◌, map, length, if◌then◌else◌}
use Rattle.text_lex.specs.Layout.{Piece, lexeme}
use Rattle.ir_types.specs.declared.name.Name.{Name}
use Rattle.ir_types.specs.declared.memory_type.TypeId.{TypeId}
use Rattle.ir_types.specs.declared.memory_type.TypeName.{TypeName}
use Rattle.ir_types.specs.declared.memory_type.MemTy.{MemTy}
use Rattle.ir_types.specs.declared.memory_type.MemTy.TheVariants.{One, Array, Struct, Named}
use Rattle.ir_types.specs.Names.{name_at}
use Rattle.ir_printer_types.specs.Pieces.{comma, blank, right_bracket, local_token, type_pieces}
use Rattle.ir_printer_types.specs.MemoryPieces.{array_head, struct_head, struct_end}

-- the names of named types
abbrev pub names_of : List TypeName → List Name
names_of names = map (λ (n : TypeName). n.name) names

-- the name of a type that has one stands in the list
abbrev pub HasItsName : List Name → MemTy → Type 0
HasItsName names (One t) = Unit {0}
HasItsName names (Array n element) = Unit {0}
HasItsName names (Struct packed members) = Unit {0}
HasItsName names (Named k) = k < length names

-- the types that stand in a type: the element of an array, the members of a struct
abbrev pub parts_of : MemTy → List TypeId
parts_of (One t) = []
parts_of (Array n element) = element ∷ []
parts_of (Struct packed members) = members
parts_of (Named k) = []

-- what stands before the first of them; where there is none, all
abbrev pub front_pieces : List Name → MemTy → List Piece
front_pieces names (One t) = type_pieces t
front_pieces names (Array n element) = array_head n
front_pieces names (Struct packed []) = struct_head packed ++ struct_end packed
front_pieces names (Struct packed (m ∷ ms)) = struct_head packed ++ blank ∷ []
front_pieces names (Named k) = lexeme (local_token (name_at names k)) ∷ []

-- what stands behind the last of them
abbrev pub end_pieces : MemTy → List Piece
end_pieces (One t) = []
end_pieces (Array n element) = right_bracket ∷ []
end_pieces (Struct packed []) = []
end_pieces (Struct packed (m ∷ ms)) = blank ∷ struct_end packed
end_pieces (Named k) = []

-- what stands before the one at a place; where there is none there, behind the last one
abbrev pub up_to_part : List Name → MemTy → ℕ → List Piece
up_to_part names t zero = front_pieces names t
up_to_part names t (suc k) = if nat_lt (suc k) (length (parts_of t)) then comma ∷ blank ∷ [] else end_pieces t
