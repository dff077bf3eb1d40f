-- What a memory type is printed as spells its nodes.
use Rattle.std.proofs.Common.{◌≡◌, ◌<◌, ◌^◌, ℕ, zero, suc, Bool, true, false, List, [], ◌∷◌, ◌++◌, Some, refl, sym, ap, append_assoc, arith}
use Rattle.std.specs.Prelude.{codes, decimal, nat_lt}
use Rattle.std.specs.List.{AllZip}
use Rattle.std.proofs.lemmas.List.{append-nil}
use Rattle.std.proofs.lemmas.Bool.Decides.{nat_tests}
use Rattle.text_forms.specs.declared.TokenKind.TheVariants as kinds
use Rattle.text_forms.specs.declared.Around.TheVariants.{InArray, InStruct}
use Rattle.text_forms.specs.Form.{Lexeme, Form, mapped, many}
use Rattle.text_forms.specs.Nested.{concat, comma_then, joined, struct_head, struct_end, remainder, struct_of}
use Rattle.text_lex.specs.Names.{is_digits}
use Rattle.text_lex.specs.Layout.{Piece, tokens_of}
use Rattle.text_lex.proofs.Decimals.{decimal_digits, number_of-decimal}
use Rattle.text_lex.proofs.Layouts.{tokens_of-append}
use Rattle.ir_types.specs.Written.{number_of}
use Rattle.ir_types.specs.TypeNodes.{TypeNode, array, opening, closing}
use Rattle.ir_types.specs.TypeForms.{elements_of, memory_leaf, array_begin, type_parts, memory_type}
use Rattle.ir_printer_types.specs.Pieces.{token, comma, blank, right_bracket, each_behind}
use Rattle.ir_printer_types.specs.MemoryPieces as pieces_of
use Rattle.ir_printer_types.specs.MemoryPieces.{array_head, array_pieces, struct_pieces}
use Rattle.ir_printer_types.proofs.Numbers.{no_sign}
use Rattle.ir_printer_types.proofs.Says.{Says, none_says, more_says, pair_says, left_says, right_says, mapped_says, made_says, one_says, exactly_says, mark_says, ahead_says, after_mark_says}

-- ---- the parts of the form

joined_says : {f g : Form (List TypeNode)} {a b : List TypeNode} (x y : List Lexeme) (c : List TypeNode) → a ++ b ≡ c → Says f a x → Says g b y → Says (joined f g) c (x ++ y)
joined_says {a = a} {b = b} x y c e p q = mapped_says (a, b) c e (pair_says x y p q)

-- a type without parts is a memory type of any depth
pub leaf_says : (d : ℕ) (nodes : List TypeNode) (ts : List Lexeme) → Says memory_leaf nodes ts → Says (memory_type d) nodes ts
unfolding type_parts
leaf_says zero nodes ts p = p
leaf_says (suc d) nodes ts p = left_says p

elements_again : (n : ℕ) → n < 2 ^ 64 → elements_of (decimal n) ≡ Some n
elements_again n lt = from_digits (decimal n) (decimal_digits n (omega arith)) (number_of-decimal n (omega arith))
  where
    from_digits : (ds : List ℕ) → is_digits ds ≡ true → number_of ds ≡ n → elements_of ds ≡ Some n
    from_digits [] h e = absurd cc
    from_digits (c ∷ ds) h e = let t : nat_lt n (2 ^ 64) ≡ true = grind (arith, nat_tests) in rw (no_sign c ds h, e, t) refl

array_begin_says : (n : ℕ) → n < 2 ^ 64 → Says array_begin (array n ∷ []) (tokens_of (array_head n))
unfolding array_begin
array_begin_says n lt =
    mapped_says (n, tt) _ refl (after_mark_says kinds.LeftBracket _ (pair_says (token kinds.Number (decimal n) ∷ []) _ (made_says (decimal n) n (elements_again n lt) (one_says kinds.Number _)) (exactly_says kinds.Word (codes "x"))))

-- an array's tokens spell it, one deeper than its element
pub array_says : (d n : ℕ) (nodes : List TypeNode) (ps : List Piece) → n < 2 ^ 64 → Says (memory_type d) nodes (tokens_of ps) → Says (memory_type (suc d)) (array n ∷ nodes) (tokens_of (array_pieces n ps))
unfolding type_parts
array_says d n nodes ps lt p =
    let behind : Says (remainder type_parts (memory_type d) InArray) [] (token kinds.RightBracket (codes "]") ∷ []) = mapped_says tt [] refl (mark_says kinds.RightBracket _) in
    rw (tokens_of-append ps (right_bracket ∷ [])) (right_says (left_says (joined_says (tokens_of (array_head n)) _ (array n ∷ nodes) refl (array_begin_says n lt) (joined_says (tokens_of ps) _ nodes (append-nil nodes) p behind))))

-- ---- structs

head_says : (p : Bool) → Says (struct_head type_parts p) (opening p ∷ []) (tokens_of (pieces_of.struct_head p))
unfolding type_parts
head_says true = mapped_says (codes "<", tt) _ refl (ahead_says kinds.Less _ (mark_says kinds.LeftBrace _))
head_says false = mapped_says tt _ refl (mark_says kinds.LeftBrace _)

end_says : (p : Bool) → Says (struct_end type_parts p) (closing ∷ []) (tokens_of (pieces_of.struct_end p))
unfolding type_parts
end_says true = mapped_says (tt, tt) _ refl (pair_says (token kinds.RightBrace (codes "}") ∷ []) _ (mark_says kinds.RightBrace _) (mark_says kinds.Greater _))
end_says false = mapped_says tt _ refl (mark_says kinds.RightBrace _)

-- what is printed of a part spells its nodes, at this depth
abbrev pub IsSaid : ℕ → List TypeNode → List Piece → Type 0
IsSaid d nodes ps = Says (memory_type d) nodes (tokens_of ps)

abbrev pub behind_commas : List (List Piece) → List Piece
behind_commas qs = each_behind (comma ∷ blank ∷ []) qs

more_members : (d : ℕ) (xs : List (List TypeNode)) (qs : List (List Piece)) → AllZip (IsSaid d) xs qs → Says (many (comma_then (memory_type d))) xs (tokens_of (behind_commas qs))
more_members d [] [] h = none_says (comma_then (memory_type d))
more_members d [] (q ∷ qs) h = absurd h
more_members d (x ∷ xs) [] h = absurd h
more_members d (x ∷ xs) (q ∷ qs) h =
    more_says (token kinds.Comma (codes ",") ∷ tokens_of q) _ _ (ap (λ (ts : List Lexeme). token kinds.Comma (codes ",") ∷ ts) (tokens_of-append q _)) (after_mark_says kinds.Comma _ h.0) (more_members d xs qs h.1)

-- the tokens of a struct, without the white space
pub struct_tokens : (p : Bool) (q rest : List Piece) → tokens_of (pieces_of.struct_head p ++ ((blank ∷ ((q ++ rest) ++ blank ∷ [])) ++ pieces_of.struct_end p)) ≡ tokens_of (pieces_of.struct_head p) ++ (tokens_of q ++ (tokens_of rest ++ tokens_of (pieces_of.struct_end p)))
struct_tokens p q rest = simp (tokens_of-append, append_assoc)

struct_form : (d : ℕ) (p : Bool) (nodes : List TypeNode) (ts : List Lexeme) → Says (struct_of type_parts p (memory_type d)) nodes ts → Says (memory_type (suc d)) nodes ts
struct_form d true nodes ts s = right_says (right_says (right_says s))
struct_form d false nodes ts s = right_says (right_says (left_says s))

-- a struct's tokens spell it, one deeper than its members
pub struct_says : (d : ℕ) (p : Bool) (xs : List (List TypeNode)) (qs : List (List Piece)) → AllZip (IsSaid d) xs qs → Says (memory_type (suc d)) (opening p ∷ (concat xs ++ closing ∷ [])) (tokens_of (struct_pieces p qs))
struct_says d p [] [] h =
    rw (tokens_of-append (pieces_of.struct_head p) (pieces_of.struct_end p)) (struct_form d p _ _ (joined_says (tokens_of (pieces_of.struct_head p)) _ _ refl (head_says p) (left_says (end_says p))))
struct_says d p [] (q ∷ qs) h = absurd h
struct_says d p (x ∷ xs) [] h = absurd h
struct_says d p (x ∷ xs) (q ∷ qs) h =
    let rest = joined_says {f = mapped concat (many (comma_then (memory_type d)))} (tokens_of (behind_commas qs)) (tokens_of (pieces_of.struct_end p)) (concat xs ++ closing ∷ []) refl (mapped_says xs (concat xs) refl (more_members d xs qs h.1)) (end_says p) in
    let members = joined_says {f = memory_type d} {g = remainder type_parts (memory_type d) (InStruct p)} (tokens_of q) _ ((x ++ concat xs) ++ closing ∷ []) (sym (append_assoc x (concat xs) (closing ∷ []))) h.0 rest in
    rw (struct_tokens p q (behind_commas qs)) (struct_form d p _ _ (joined_says (tokens_of (pieces_of.struct_head p)) _ _ refl (head_says p) (right_says members)))
