-- The pieces that names and types are printed as are tokens and join.
use Rattle.std.proofs.Common.{◌≡◌, ℕ, List, [], ◌∷◌, Some, refl, arith}
use Rattle.std.specs.Prelude.{codes, decimal}
use Rattle.text_forms.specs.declared.TokenKind.TheVariants as kinds
use Rattle.text_forms.specs.Lexical.{kind_of, table}
use Rattle.text_lex.specs.Layout.{Piece, lexeme}
use Rattle.text_lex.proofs.Decimals.{decimal_digits}
use Rattle.text_lex.proofs.Printed.{integer_word, number_digits}
use Rattle.ir_types.specs.declared.name.Name.{Name}
use Rattle.ir_types.specs.declared.inst.Ty.{Ty}
use Rattle.ir_types.specs.declared.inst.Ty.TheVariants.{Int, Ptr, Vector, Void}
use Rattle.ir_shape.specs.Shape.{IsName, IsOneOf, widths, IsType, IsReturnType}
use Rattle.ir_printer_types.specs.Pieces.{token, comma, blank, line_feed, equal, local_token, width_word, type_pieces}
use Rattle.ir_printer_types.proofs.Names.{local_kind}
use Rattle.ir_printer_types.proofs.Widths.{width_within}
use Rattle.ir_printer_types.proofs.Spelled.{few_lanes}
use Rattle.ir_printer_types.proofs.Laid.{IsLaid, IsBehind, loose, nothing_behind, blank_laid, feed_laid, mark_laid, token_laid, Separates}

-- ---- marks and words

-- a comma is one token
pub comma_kind : kind_of (codes ",") ≡ Some kinds.Comma
unfolding table
comma_kind = refl

pub comma_laid : {ps : List Piece} → IsLaid ps → IsBehind (comma ∷ ps)
unfolding table
comma_laid h = mark_laid kinds.Comma (codes ",") refl refl h

-- a `=` can stand behind any token
pub equal_laid : {ps : List Piece} → IsLaid ps → IsBehind (equal ∷ ps)
unfolding table
equal_laid h = mark_laid kinds.Equal (codes "=") refl refl h

-- each of the brackets
pub bracket_kinds : (kind_of (codes "(") ≡ Some kinds.LeftParen) × (kind_of (codes ")") ≡ Some kinds.RightParen) × (kind_of (codes "[") ≡ Some kinds.LeftBracket) × (kind_of (codes "]") ≡ Some kinds.RightBracket) × (kind_of (codes "{") ≡ Some kinds.LeftBrace) × (kind_of (codes "}") ≡ Some kinds.RightBrace)
unfolding table
bracket_kinds = (refl, refl, refl, refl, refl, refl)

-- and those of angles
pub angle_kinds : (kind_of (codes "<") ≡ Some kinds.Less) × (kind_of (codes ">") ≡ Some kinds.Greater)
unfolding table
angle_kinds = (refl, refl)

-- the word of a width is one
pub width_kind : (w : ℕ) → IsOneOf widths w → kind_of (width_word w) ≡ Some kinds.Word
unfolding width_word
width_kind w h = let le = (width_within w h).1 in integer_word (decimal w) (decimal_digits w (omega arith))

-- ---- lists

-- a comma and a space separate
pub commas_part : Separates (comma ∷ blank ∷ [])
commas_part = record { apart = λ ps h. comma_laid (loose (blank_laid h)) }

-- and so does the end of a line
pub feeds_part : Separates (line_feed ∷ [])
feeds_part = record { apart = λ ps h. feed_laid h }

-- ---- names and types

-- a local name is laid out
pub local_laid : {ps : List Piece} (n : Name) → IsName n → IsBehind ps → IsLaid (lexeme (local_token n) ∷ ps)
local_laid n h g = token_laid (local_token n) (local_kind n h) g

-- and a word
pub word_laid : {ps : List Piece} (w : List ℕ) → kind_of w ≡ Some kinds.Word → IsBehind ps → IsLaid (lexeme (token kinds.Word w) ∷ ps)
word_laid w e g = token_laid (token kinds.Word w) e g

-- and a type
pub type_laid : (t : Ty) → IsReturnType t → IsLaid (type_pieces t)
unfolding type_pieces table
type_laid (Int w) h = word_laid (width_word w) (width_kind w h) nothing_behind
type_laid Ptr h = word_laid (codes "ptr") refl nothing_behind
type_laid (Vector n w) h =
    loose (mark_laid kinds.Less (codes "<") refl refl (token_laid (token kinds.Number (decimal n)) (number_digits (decimal n) (decimal_digits n (few_lanes n h.0)))
    (blank_laid (word_laid (codes "x") refl (blank_laid (word_laid (width_word w) (width_kind w h.1) (mark_laid kinds.Greater (codes ">") refl refl (loose nothing_behind))))))))
type_laid Void h = word_laid (codes "void") refl nothing_behind

-- a type of values can be returned
pub type_returned : (t : Ty) → IsType t → IsReturnType t
type_returned (Int w) h = h
type_returned Ptr h = h
type_returned (Vector n w) h = h
type_returned Void h = absurd h
