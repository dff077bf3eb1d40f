-- The pieces of memory types by their places in a list.
use Rattle.std.proofs.Common.{ℕ, List, [], ◌∷◌, ◌++◌}
use Rattle.std.specs.Prelude.{map, slice_index_or}
use Rattle.text_lex.specs.Layout.{Piece, lexeme}
use Rattle.ir_types.specs.declared.name.Name.{Name}
use Rattle.ir_types.specs.declared.memory_type.TypeId.{TypeId}
use Rattle.ir_types.specs.declared.memory_type.MemTy.{MemTy}
use Rattle.ir_types.specs.declared.memory_type.MemTy.TheVariants.{One, Array, Struct, Named}
use Rattle.ir_types.specs.Names.{name_at}
use Rattle.ir_printer_types.specs.Pieces.{local_token, type_pieces}
use Rattle.ir_printer_types.specs.MemoryPieces.{array_pieces, struct_pieces}

-- the pieces at a place, or none
abbrev pub pieces_at : List (List Piece) → ℕ → List Piece
pieces_at before i = slice_index_or before i []

-- the pieces of a type, from those of the types before it
abbrev pub memory_pieces_from : List Name → List (List Piece) → MemTy → List Piece
memory_pieces_from names before (One t) = type_pieces t
memory_pieces_from names before (Array n element) = array_pieces n (pieces_at before element.0)
memory_pieces_from names before (Struct packed members) = struct_pieces packed (map (λ id. pieces_at before id.0) members)
memory_pieces_from names before (Named k) = lexeme (local_token (name_at names k)) ∷ []

-- the pieces of each type, behind those of the types before
abbrev pub all_memory_pieces : List Name → List (List Piece) → List MemTy → List (List Piece)
all_memory_pieces names before [] = before
all_memory_pieces names before (t ∷ ts) = all_memory_pieces names (before ++ memory_pieces_from names before t ∷ []) ts

-- the pieces of the type at a place of a list
abbrev pub memory_pieces : List Name → List MemTy → TypeId → List Piece
memory_pieces names types id = pieces_at (all_memory_pieces names [] types) id.0
