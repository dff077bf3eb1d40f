-- What is printed of a memory type are tokens that spell its nodes.
use Rattle.std.proofs.Common.{◌≡◌, ◌<◌, ◌+◌, ◌^◌, ◌≤◌, ℕ, zero, suc, Bool, true, false, List, [], ◌∷◌, ◌++◌, length, length-append, refl, sym, ap, ◌∙◌, subst, arith}
use Rattle.std.specs.List.{AllByRecursion, AllZip}
use Rattle.text_forms.specs.Form.{Lexeme}
use Rattle.text_forms.specs.Nested.{concat}
use Rattle.text_lex.specs.Layout.{Piece, lexeme, tokens_of}
use Rattle.text_lex.proofs.Layouts.{tokens_of-append}
use Rattle.ir_types.specs.declared.name.Name.{Name}
use Rattle.ir_types.specs.declared.inst.Ty.{Ty}
use Rattle.ir_types.specs.TypeNodes.{TypeNode, scalar, called, array, opening, closing}
use Rattle.ir_types.specs.TypeForms.{memory_leaf, memory_type}
use Rattle.ir_shape.specs.Shape.{IsName, IsType, IsNested, IsMemory}
use Rattle.ir_printer_types.specs.Pieces.{blank, right_bracket, local_token, type_pieces}
use Rattle.ir_printer_types.specs.MemoryPieces.{struct_head, struct_end, inside, array_pieces, struct_pieces, node_pieces}
use Rattle.ir_printer_types.proofs.Cells.{IsCell, one_cell, scalar_cell, called_cell, array_cell, struct_cell}
use Rattle.ir_printer_types.proofs.Says.{Says, left_says, right_says, mapped_says}
use Rattle.ir_printer_types.proofs.Spelled.{local_says, type_says}
use Rattle.ir_printer_types.proofs.Laid.{IsLaid, nothing_behind}
use Rattle.ir_printer_types.proofs.LaidOut.{local_laid, type_laid, type_returned}
use Rattle.ir_printer_types.proofs.MemorySays.{leaf_says, array_says, IsSaid, behind_commas, struct_tokens, struct_says}
use Rattle.ir_printer_types.proofs.MemoryLaid.{array_laid, struct_laid}

-- these pieces are tokens that spell these nodes, at each depth that is at least the number of the tokens
pub record Prints (nodes : List TypeNode) (pieces : List Piece) : Type 0 where
  pub says : (d : ℕ) → length (tokens_of pieces) ≤ d → Says (memory_type d) nodes (tokens_of pieces)
  pub laid : IsLaid pieces

-- ---- a struct

said_each : (d : ℕ) (xs : List (List TypeNode)) (qs : List (List Piece)) → AllZip Prints xs qs → length (tokens_of (behind_commas qs)) ≤ d → AllZip (IsSaid d) xs qs
said_each d [] [] h le = tt
said_each d [] (q ∷ qs) h le = absurd h
said_each d (x ∷ xs) [] h le = absurd h
said_each d (x ∷ xs) (q ∷ qs) h le =
    let n : suc (length (tokens_of q) + length (tokens_of (behind_commas qs))) ≤ d = simp (tokens_of-append, length-append) at le in
    (h.0.says d (omega arith), said_each d xs qs h.1 (omega arith))

head_length : (p : Bool) → 1 ≤ length (tokens_of (struct_head p))
head_length true = omega arith
head_length false = omega arith

struct_length : (p : Bool) (q rest : List Piece) → length (tokens_of (struct_head p ++ ((blank ∷ ((q ++ rest) ++ blank ∷ [])) ++ struct_end p))) ≡ length (tokens_of (struct_head p)) + (length (tokens_of q) + (length (tokens_of rest) + length (tokens_of (struct_end p))))
struct_length p q rest = ap length (struct_tokens p q rest) ∙ simp length-append

-- a depth that is enough for the struct is one more than what is enough for its members
struct_deep : (d : ℕ) (p : Bool) (xs : List (List TypeNode)) (qs : List (List Piece)) → AllZip Prints xs qs → length (tokens_of (struct_pieces p qs)) ≤ d → (e : ℕ) × (d ≡ suc e) × AllZip (IsSaid e) xs qs
struct_deep zero p xs qs h le = let n = head_length p in absurd (omega (arith, ap length (tokens_of-append (struct_head p) (inside qs ++ struct_end p)), length-append {A = Lexeme}))
struct_deep (suc d) p [] [] h le = (d, refl, tt)
struct_deep (suc d) p [] (q ∷ qs) h le = absurd h
struct_deep (suc d) p (x ∷ xs) [] h le = absurd h
struct_deep (suc d) p (x ∷ xs) (q ∷ qs) h le =
    let n = head_length p in
    let m = struct_length p q (behind_commas qs) in
    (d, refl, (h.0.says d (omega (arith, m)), said_each d xs qs h.1 (omega (arith, m))))

laid_each : (xs : List (List TypeNode)) (qs : List (List Piece)) → AllZip Prints xs qs → AllByRecursion IsLaid qs
laid_each [] [] h = tt
laid_each [] (q ∷ qs) h = absurd h
laid_each (x ∷ xs) [] h = absurd h
laid_each (x ∷ xs) (q ∷ qs) h = (h.0.laid, laid_each xs qs h.1)

struct_prints : (p : Bool) (xs : List (List TypeNode)) (qs : List (List Piece)) → AllZip Prints xs qs → Prints (opening p ∷ (concat xs ++ closing ∷ [])) (struct_pieces p qs)
struct_prints p xs qs h = record {
  says = λ d le. let deep = struct_deep d p xs qs h le in rw (deep.1) (struct_says deep.0 p xs qs deep.2);
  laid = struct_laid p qs (laid_each xs qs h);
}

-- ---- an array

array_prints : (n : ℕ) (nodes : List TypeNode) (ps : List Piece) → n < 2 ^ 64 → Prints nodes ps → Prints (array n ∷ nodes) (array_pieces n ps)
array_prints n nodes ps lt h = record { says = array_deep; laid = array_laid n ps lt h.laid }
  where
    array_deep : (d : ℕ) → length (tokens_of (array_pieces n ps)) ≤ d → Says (memory_type d) (array n ∷ nodes) (tokens_of (array_pieces n ps))
    array_deep zero le = absurd (omega arith)
    array_deep (suc d) le = array_says d n nodes ps lt (h.says d (omega (arith, ap length (tokens_of-append ps (right_bracket ∷ [])), length-append {A = Lexeme})))

-- ---- a type of values, and a name

scalar_prints : (t : Ty) → IsType t → Prints (scalar t ∷ []) (type_pieces t)
unfolding memory_leaf
scalar_prints t h = record { says = λ d le. leaf_says d _ _ (left_says (mapped_says t _ refl (type_says t h))); laid = type_laid t (type_returned t h) }

called_prints : (n : Name) → IsName n → Prints (called n ∷ []) (lexeme (local_token n) ∷ [])
unfolding memory_leaf
called_prints n h = record { says = λ d le. leaf_says d _ _ (right_says (mapped_says n _ refl (local_says n h))); laid = local_laid n h nothing_behind }

-- ---- any type

-- pieces that are those of the nodes
record IsPrinted (nodes : List TypeNode) : Type 0 where
  pieces : List Piece
  cell : IsCell nodes pieces
  prints : Prints nodes pieces

record ArePrinted (xs : List (List TypeNode)) : Type 0 where
  parts : List (List Piece)
  cells : AllZip IsCell xs parts
  print : AllZip Prints xs parts

each_printed : (d : ℕ) → ((nodes : List TypeNode) → IsNested d nodes → IsPrinted nodes) → (xs : List (List TypeNode)) → AllByRecursion (IsNested d) xs → ArePrinted xs
each_printed d one [] h = record { parts = []; cells = tt; print = tt }
each_printed d one (x ∷ xs) h =
    let first = one x h.0 in
    let rest = each_printed d one xs h.1 in
    record { parts = first.pieces ∷ rest.parts; cells = (first.cell, rest.cells); print = (first.prints, rest.print) }

alone : (P : List TypeNode → Type 0) (node : TypeNode) (rest : List TypeNode) → rest ≡ [] → P (node ∷ []) → P (node ∷ rest)
alone P node rest e p = rw e p

nested_printed : (d : ℕ) (nodes : List TypeNode) → IsNested d nodes → IsPrinted nodes
nested_printed zero nodes h = absurd h
nested_printed (suc d) [] h = absurd h
nested_printed (suc d) (scalar t ∷ rest) h = alone IsPrinted (scalar t) rest h.1 (record { pieces = type_pieces t; cell = scalar_cell t; prints = scalar_prints t h.0 })
nested_printed (suc d) (called n ∷ rest) h = alone IsPrinted (called n) rest h.1 (record { pieces = lexeme (local_token n) ∷ []; cell = called_cell n; prints = called_prints n h.0 })
nested_printed (suc d) (array n ∷ rest) h =
    let element = nested_printed d rest h.1 in
    record { pieces = array_pieces n element.pieces; cell = array_cell n rest element.pieces element.cell; prints = array_prints n rest element.pieces h.0 element.prints }
nested_printed (suc d) (opening p ∷ rest) h =
    let members = each_printed d (nested_printed d) h.0 h.2 in
    subst (λ (ns : List TypeNode). IsPrinted (opening p ∷ ns)) (sym h.1) (record { pieces = struct_pieces p members.parts; cell = struct_cell p h.0 members.parts members.cells; prints = struct_prints p h.0 members.parts members.print })
nested_printed (suc d) (closing ∷ rest) h = absurd h

-- What is printed of a memory type are tokens that join and spell its nodes.
pub memory_prints : (nodes : List TypeNode) → IsMemory nodes → Prints nodes (node_pieces nodes)
memory_prints nodes m =
    let is = nested_printed m.depth nodes m.nested in
    subst (Prints nodes) (sym (one_cell nodes is.pieces is.cell)) is.prints
