-- The pieces that memory types are printed as, by their nodes.
use Rattle.std.specs.Prelude.{ℕ, Bool, true, false, List, [], ◌∷◌, ◌++◌, codes, decimal}
use Rattle.text_forms.specs.declared.TokenKind.TheVariants as kinds
use Rattle.text_lex.specs.Layout.{Piece, lexeme}
use Rattle.ir_types.specs.TypeNodes.{TypeNode, scalar, called, array, opening, closing}
use Rattle.ir_printer_types.specs.Pieces.{token, word, left_bracket, right_bracket, left_brace, right_brace, less, greater, blank, with_commas, local_token, type_pieces}

-- ---- around the types in a type

-- [n x, and a space behind it
abbrev pub array_head : ℕ → List Piece
array_head n = left_bracket ∷ lexeme (token kinds.Number (decimal n)) ∷ blank ∷ word (codes "x") ∷ blank ∷ []

-- with what a struct begins, packed or not
abbrev pub struct_head : Bool → List Piece
struct_head true = less ∷ left_brace ∷ []
struct_head false = left_brace ∷ []

-- and with what it ends
abbrev pub struct_end : Bool → List Piece
struct_end true = right_brace ∷ greater ∷ []
struct_end false = right_brace ∷ []

-- the members of a struct between spaces, or nothing where there is none
abbrev pub inside : List (List Piece) → List Piece
inside [] = []
inside (p ∷ ps) = blank ∷ (with_commas (p ∷ ps) ++ blank ∷ [])

-- [n x M]
abbrev pub array_pieces : ℕ → List Piece → List Piece
array_pieces n element = array_head n ++ (element ++ right_bracket ∷ [])

-- { M, .. }, or <{ M, .. }> where it is packed
abbrev pub struct_pieces : Bool → List (List Piece) → List Piece
struct_pieces packed members = struct_head packed ++ (inside members ++ struct_end packed)

-- ---- nodes, from the right

-- the pieces of a type, or the end of a struct
pub data Cell : Type 0 where
  whole : List Piece → Cell
  end : Cell

-- the types before the first end, and what stands behind that
abbrev pub up_to_end : List Cell → List (List Piece) × List Cell
up_to_end [] = ([], [])
up_to_end (end ∷ cells) = ([], cells)
up_to_end (whole ps ∷ cells) = (ps ∷ (up_to_end cells).0, (up_to_end cells).1)

-- a node before cells: an array takes the type that stands first, a struct all up to an end; an array before none is nothing
abbrev pub cell_before : TypeNode → List Cell → List Cell
cell_before (scalar t) cells = whole (type_pieces t) ∷ cells
cell_before (called n) cells = whole (lexeme (local_token n) ∷ []) ∷ cells
cell_before (array n) [] = []
cell_before (array n) (end ∷ cells) = end ∷ cells
cell_before (array n) (whole ps ∷ cells) = whole (array_pieces n ps) ∷ cells
cell_before (opening packed) cells = whole (struct_pieces packed (up_to_end cells).0) ∷ (up_to_end cells).1
cell_before closing cells = end ∷ cells

-- the types and ends that nodes are
abbrev pub cells_of : List TypeNode → List Cell
cells_of [] = []
cells_of (n ∷ nodes) = cell_before n (cells_of nodes)

-- the pieces of the type that stands first
abbrev pub first_type : List Cell → List Piece
first_type [] = []
first_type (end ∷ cells) = []
first_type (whole ps ∷ cells) = ps

-- the pieces of a memory type
unfoldable pub node_pieces : List TypeNode → List Piece
node_pieces nodes = first_type (cells_of nodes)
