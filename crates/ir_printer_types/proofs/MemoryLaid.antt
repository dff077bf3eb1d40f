-- The pieces that a memory type is printed as are tokens and join.
use Rattle.std.proofs.Common.{◌<◌, ◌^◌, ℕ, Bool, true, false, List, [], ◌∷◌, ◌++◌, refl, arith}
use Rattle.std.specs.Prelude.{codes, decimal}
use Rattle.std.specs.List.{AllByRecursion}
use Rattle.text_forms.specs.declared.TokenKind.TheVariants as kinds
use Rattle.text_forms.specs.Lexical.{table}
use Rattle.text_lex.specs.Layout.{Piece}
use Rattle.text_lex.proofs.Decimals.{decimal_digits}
use Rattle.text_lex.proofs.Printed.{number_digits}
use Rattle.ir_printer_types.specs.Pieces.{token, comma, blank, with_commas}
use Rattle.ir_printer_types.specs.MemoryPieces.{struct_head, struct_end, inside, array_pieces, struct_pieces}
use Rattle.ir_printer_types.proofs.Laid.{IsLaid, IsBehind, loose, nothing_behind, blank_laid, mark_laid, token_laid, laid-append, separated_laid}
use Rattle.ir_printer_types.proofs.LaidOut.{bracket_kinds, commas_part, word_laid}

-- an array of what is laid out is laid out
pub array_laid : (n : ℕ) (ps : List Piece) → n < 2 ^ 64 → IsLaid ps → IsLaid (array_pieces n ps)
unfolding table
array_laid n ps lt h =
    let behind = laid-append ps _ h (mark_laid kinds.RightBracket (codes "]") refl bracket_kinds.3 (loose nothing_behind)) in
    loose (mark_laid kinds.LeftBracket (codes "[") refl bracket_kinds.2 (token_laid (token kinds.Number (decimal n)) (number_digits (decimal n) (decimal_digits n (omega arith)))
    (blank_laid (word_laid (codes "x") refl (blank_laid behind)))))

head_laid : {ps : List Piece} (p : Bool) → IsLaid ps → IsLaid (struct_head p ++ ps)
unfolding table
head_laid true h = loose (mark_laid kinds.Less (codes "<") refl refl (loose (mark_laid kinds.LeftBrace (codes "{") refl bracket_kinds.4 h)))
head_laid false h = loose (mark_laid kinds.LeftBrace (codes "{") refl bracket_kinds.4 h)

end_laid : (p : Bool) → IsBehind (struct_end p)
unfolding table
end_laid true = mark_laid kinds.RightBrace (codes "}") refl bracket_kinds.5 (loose (mark_laid kinds.Greater (codes ">") refl refl (loose nothing_behind)))
end_laid false = mark_laid kinds.RightBrace (codes "}") refl bracket_kinds.5 (loose nothing_behind)

inside_laid : (parts : List (List Piece)) → AllByRecursion IsLaid parts → IsLaid (inside parts)
inside_laid [] h = loose nothing_behind
inside_laid (p ∷ parts) h = loose (blank_laid (laid-append (with_commas (p ∷ parts)) (blank ∷ []) (separated_laid (comma ∷ blank ∷ []) (p ∷ parts) commas_part h) (blank_laid (loose nothing_behind))))

-- and so is a struct of such parts
pub struct_laid : (p : Bool) (parts : List (List Piece)) → AllByRecursion IsLaid parts → IsLaid (struct_pieces p parts)
struct_laid p parts h = head_laid p (laid-append (inside parts) _ (inside_laid parts h) (end_laid p))
