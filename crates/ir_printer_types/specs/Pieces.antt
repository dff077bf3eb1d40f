-- The pieces that names and types are printed as: their tokens and the white space between them.
use Rattle.std.specs.Prelude.{ℕ, List, [], ◌∷◌, ◌++◌, codes, decimal}
use Rattle.text_forms.specs.declared.TokenKind.{TokenKind}
use Rattle.text_forms.specs.declared.TokenKind.TheVariants as kinds
use Rattle.text_forms.specs.Form.{Lexeme}
use Rattle.text_lex.specs.Layout.{Piece, gap, lexeme}
use Rattle.ir_types.specs.declared.name.Name.{Name}
use Rattle.ir_types.specs.declared.inst.Ty.{Ty}
use Rattle.ir_types.specs.declared.inst.Ty.TheVariants.{Int, Ptr, Vector, Void}
use Rattle.ir_printer_types.specs.Texts.{name_text}

-- ---- tokens

-- a token of a kind
abbrev pub token : TokenKind → List ℕ → Lexeme
token k s = record { kind = k; text = s }

-- the token of a word, and then those of the marks
abbrev pub word : List ℕ → Piece
word s = lexeme (token kinds.Word s)

abbrev pub comma : Piece
comma = lexeme (token kinds.Comma (codes ","))

abbrev pub equal : Piece
equal = lexeme (token kinds.Equal (codes "="))

abbrev pub left_paren : Piece
left_paren = lexeme (token kinds.LeftParen (codes "("))

abbrev pub right_paren : Piece
right_paren = lexeme (token kinds.RightParen (codes ")"))

abbrev pub left_bracket : Piece
left_bracket = lexeme (token kinds.LeftBracket (codes "["))

abbrev pub right_bracket : Piece
right_bracket = lexeme (token kinds.RightBracket (codes "]"))

abbrev pub left_brace : Piece
left_brace = lexeme (token kinds.LeftBrace (codes "{"))

abbrev pub right_brace : Piece
right_brace = lexeme (token kinds.RightBrace (codes "}"))

abbrev pub less : Piece
less = lexeme (token kinds.Less (codes "<"))

abbrev pub greater : Piece
greater = lexeme (token kinds.Greater (codes ">"))

-- ---- white space

-- a space; then the end of a line, and what stands before an instruction
abbrev pub blank : Piece
blank = gap (32 ∷ [])

abbrev pub line_feed : Piece
line_feed = gap (10 ∷ [])

abbrev pub indent : Piece
indent = gap (32 ∷ 32 ∷ [])

-- ---- lists

-- each part behind these pieces
abbrev pub each_behind : List Piece → List (List Piece) → List Piece
each_behind s [] = []
each_behind s (p ∷ ps) = s ++ (p ++ each_behind s ps)

-- the parts with these pieces between them
abbrev pub separated : List Piece → List (List Piece) → List Piece
separated s [] = []
separated s (p ∷ ps) = p ++ each_behind s ps

-- the parts with a comma and a space between them
abbrev pub with_commas : List (List Piece) → List Piece
with_commas ps = separated (comma ∷ blank ∷ []) ps

-- ---- names and types

-- %name
abbrev pub local_token : Name → Lexeme
local_token n = token kinds.Local (37 ∷ name_text n)

-- @name
abbrev pub global_token : Name → Lexeme
global_token n = token kinds.Global (64 ∷ name_text n)

-- name:
abbrev pub label_token : Name → Lexeme
label_token n = token kinds.Label (name_text n ++ 58 ∷ [])

-- the word of an integer's type
unfoldable pub width_word : ℕ → List ℕ
width_word w = 105 ∷ decimal w

-- a type, with spaces between the parts of a vector's
unfoldable pub type_pieces : Ty → List Piece
type_pieces (Int w) = word (width_word w) ∷ []
type_pieces Ptr = word (codes "ptr") ∷ []
type_pieces (Vector n w) = less ∷ lexeme (token kinds.Number (decimal n)) ∷ blank ∷ word (codes "x") ∷ blank ∷ word (width_word w) ∷ greater ∷ []
type_pieces Void = word (codes "void") ∷ []
