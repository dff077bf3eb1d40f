-- The pieces of a memory type by its nodes, and that those by its place in a list are the same.
use Rattle.std.proofs.Common.{◌≡◌, ◌<◌, ℕ, zero, suc, Bool, List, [], ◌∷◌, ◌++◌, length, length-append, below_more, refl, sym, ap, ◌∙◌, subst, append_assoc, arith}
use Rattle.std.specs.Prelude.{map}
use Rattle.std.specs.List.{AllByRecursion, AllZip}
use Rattle.std.proofs.Math.ListN.{get_or-append}
use Rattle.std.proofs.Math.Seq.{get_or-append_seam}
use Rattle.std.proofs.lemmas.List.{append-nil}
use Rattle.text_forms.specs.Nested.{concat}
use Rattle.text_lex.specs.Layout.{Piece, lexeme}
use Rattle.ir_types.specs.declared.name.Name.{Name}
use Rattle.ir_types.specs.declared.inst.Ty.{Ty}
use Rattle.ir_types.specs.declared.memory_type.TypeId.{TypeId}
use Rattle.ir_types.specs.declared.memory_type.MemTy.{MemTy}
use Rattle.ir_types.specs.declared.memory_type.MemTy.TheVariants.{One, Array, Struct, Named}
use Rattle.ir_types.specs.Names.{name_at}
use Rattle.ir_types.specs.Types.{IsBefore, IsTypeAt, AreTypes}
use Rattle.ir_types.specs.TypeNodes.{TypeNode, scalar, called, array, opening, closing, nodes_at, nodes_from, all_nodes, type_nodes}
use Rattle.ir_shape.proofs.Placing.{as_many}
use Rattle.ir_printer_types.specs.Pieces.{local_token, type_pieces}
use Rattle.ir_printer_types.specs.MemoryPieces.{array_pieces, struct_pieces, Cell, whole, up_to_end, cell_before, cells_of, first_type, node_pieces}
use Rattle.ir_printer_types.proofs.ByPlaces.{pieces_at, memory_pieces_from, all_memory_pieces, memory_pieces}

-- ---- cells

-- whatever stands behind them, the nodes are one type with these pieces
pub record IsCell (nodes : List TypeNode) (ps : List Piece) : Type 0 where
  pub is : (rest : List TypeNode) → cells_of (nodes ++ rest) ≡ whole ps ∷ cells_of rest

-- nodes that are one cell are printed as its pieces
pub one_cell : (nodes : List TypeNode) (ps : List Piece) → IsCell nodes ps → node_pieces nodes ≡ ps
unfolding node_pieces
one_cell nodes ps h = ap (λ (ns : List TypeNode). first_type (cells_of ns)) (sym (append-nil nodes)) ∙ ap first_type (h.is [])

-- a type of values is a cell
pub scalar_cell : (t : Ty) → IsCell (scalar t ∷ []) (type_pieces t)
scalar_cell t = record { is = λ rest. refl }

-- and so is a name
pub called_cell : (n : Name) → IsCell (called n ∷ []) (lexeme (local_token n) ∷ [])
called_cell n = record { is = λ rest. refl }

-- and an array of one
pub array_cell : (n : ℕ) (nodes : List TypeNode) (ps : List Piece) → IsCell nodes ps → IsCell (array n ∷ nodes) (array_pieces n ps)
array_cell n nodes ps h = record { is = λ rest. ap (cell_before (array n)) (h.is rest) }

-- members up to the end of their struct
closed_cells : (xs : List (List TypeNode)) (qs : List (List Piece)) → AllZip IsCell xs qs → (rest : List TypeNode) → up_to_end (cells_of ((concat xs ++ closing ∷ []) ++ rest)) ≡ (qs, cells_of rest)
closed_cells [] [] h rest = refl
closed_cells [] (q ∷ qs) h rest = absurd h
closed_cells (x ∷ xs) [] h rest = absurd h
closed_cells (x ∷ xs) (q ∷ qs) h rest =
    let parts : ((x ++ concat xs) ++ closing ∷ []) ++ rest ≡ x ++ ((concat xs ++ closing ∷ []) ++ rest) = simp append_assoc in
    ap (λ (ns : List TypeNode). up_to_end (cells_of ns)) parts ∙ ap up_to_end (h.0.is _) ∙ ap (λ (y : List (List Piece) × List Cell). (q ∷ y.0, y.1)) (closed_cells xs qs h.1 rest)

-- and a struct of some
pub struct_cell : (p : Bool) (xs : List (List TypeNode)) (qs : List (List Piece)) → AllZip IsCell xs qs → IsCell (opening p ∷ (concat xs ++ closing ∷ [])) (struct_pieces p qs)
struct_cell p xs qs h = record { is = λ rest. ap (λ (y : List (List Piece) × List Cell). whole (struct_pieces p y.0) ∷ y.1) (closed_cells xs qs h rest) }

-- ---- the types of a list

-- the lists are of one length, and the nodes at a place are one type with the pieces there
record AreCells (nodes : List (List TypeNode)) (pieces : List (List Piece)) : Type 0 where
  size : length nodes ≡ length pieces
  each : (k : ℕ) → k < length nodes → IsCell (nodes_at nodes k) (pieces_at pieces k)

members_are : (nodes : List (List TypeNode)) (pieces : List (List Piece)) (ids : List TypeId) → AreCells nodes pieces → AllByRecursion (IsBefore (length nodes)) ids → AllZip IsCell (map (λ id. nodes_at nodes id.0) ids) (map (λ id. pieces_at pieces id.0) ids)
members_are nodes pieces [] a b = tt
members_are nodes pieces (id ∷ ids) a b = (a.each id.0 b.0, members_are nodes pieces ids a b.1)

type_cell : (names : List Name) (nodes : List (List TypeNode)) (pieces : List (List Piece)) (t : MemTy) → AreCells nodes pieces → IsTypeAt names (length nodes) t → IsCell (nodes_from names nodes t) (memory_pieces_from names pieces t)
type_cell names nodes pieces (One t) a i = scalar_cell t
type_cell names nodes pieces (Array n element) a i = array_cell n _ _ (a.each element.0 i)
type_cell names nodes pieces (Struct p members) a i = struct_cell p _ _ (members_are nodes pieces members a i)
type_cell names nodes pieces (Named k) a i = called_cell (name_at names k)

nodes_front : (xs : List (List TypeNode)) (x : List TypeNode) (k : ℕ) → k < length xs → nodes_at (xs ++ x ∷ []) k ≡ nodes_at xs k
nodes_front [] x k lt = absurd (omega arith)
nodes_front (y ∷ xs) x zero lt = refl
nodes_front (y ∷ xs) x (suc k) lt = nodes_front xs x k (omega arith)

nodes_last : (xs : List (List TypeNode)) (x : List TypeNode) → nodes_at (xs ++ x ∷ []) (length xs) ≡ x
nodes_last [] x = refl
nodes_last (y ∷ xs) x = nodes_last xs x

with_next : (nodes : List (List TypeNode)) (pieces : List (List Piece)) (x : List TypeNode) (p : List Piece) → AreCells nodes pieces → IsCell x p → AreCells (nodes ++ x ∷ []) (pieces ++ p ∷ [])
with_next nodes pieces x p a h = record {
  size = let e = a.size in omega (arith, length-append nodes (x ∷ []), length-append pieces (p ∷ []));
  each = λ k lt. below_more (λ i. IsCell (nodes_at (nodes ++ x ∷ []) i) (pieces_at (pieces ++ p ∷ []) i)) (length nodes) before last k (omega (arith, length-append nodes (x ∷ [])));
}
  where
    before : (k : ℕ) → k < length nodes → IsCell (nodes_at (nodes ++ x ∷ []) k) (pieces_at (pieces ++ p ∷ []) k)
    before k lt = let e = a.size in let inside : k < length pieces = omega arith in rw (nodes_front nodes x k lt, get_or-append pieces (p ∷ []) [] k inside) (a.each k lt)

    last : IsCell (nodes_at (nodes ++ x ∷ []) (length nodes)) (pieces_at (pieces ++ p ∷ []) (length nodes))
    last = rw (nodes_last nodes x) (rw (a.size, get_or-append_seam pieces p [] []) h)

all_cells : (names : List Name) (nodes : List (List TypeNode)) (pieces : List (List Piece)) (types : List MemTy) → AreCells nodes pieces → AreTypes names (length nodes) types → AreCells (all_nodes names nodes types) (all_memory_pieces names pieces types)
all_cells names nodes pieces [] a i = a
all_cells names nodes pieces (t ∷ types) a i =
    let x = nodes_from names nodes t in
    let longer : suc (length nodes) ≡ length (nodes ++ x ∷ []) = omega (arith, length-append nodes (x ∷ [])) in
    all_cells names (nodes ++ x ∷ []) (pieces ++ memory_pieces_from names pieces t ∷ []) types (with_next nodes pieces x (memory_pieces_from names pieces t) a (type_cell names nodes pieces t a i.0)) (subst (λ (n : ℕ). AreTypes names n types) longer i.1)

no_types : AreCells [] []
no_types = record { size = refl; each = λ k lt. absurd (omega arith) }

-- The pieces of a type at a place are those of its nodes.
pub by_nodes : (names : List Name) (types : List MemTy) (id : TypeId) → AreTypes names 0 types → id.0 < length types → memory_pieces names types id ≡ node_pieces (type_nodes names types id)
by_nodes names types id i lt = sym (one_cell _ _ ((all_cells names [] [] types no_types i).each id.0 (omega (arith, as_many names [] types))))
