-- A printed text in pieces, and where two pieces may stand with nothing between them.
use Rattle.std.specs.Prelude.{◌≡◌, ℕ, Bool, true, false, ◌&&◌, ◌||◌, ◌==◌, List, [], ◌∷◌, ◌++◌, Some, if◌then◌else◌}
use Rattle.text_forms.specs.declared.TokenKind.{TokenKind}
use Rattle.text_forms.specs.declared.TokenKind.TheVariants.{Quoted, Local, Global, Comdat, Label, Word, Number, TextConstant, Metadata, AttributeGroup, Dots, Equal, Comma, LeftParen, RightParen, LeftBracket, RightBracket, LeftBrace, RightBrace, Less, Greater, Star, Bang, Colon, Bar, Decimal, Hexadecimal, NamedGroup}
use Rattle.text_forms.specs.Form.{Lexeme, kind_code}
use Rattle.text_forms.specs.Lexical.{kind_of, is_space}
use Rattle.text_lex.specs.Neighbours.{all_of}

-- a piece of a printed text: white space, or a token
pub data Piece : Type 0 where
  gap : List ℕ → Piece
  lexeme : Lexeme → Piece

-- the bytes of the pieces, one behind the other
abbrev pub text_of : List Piece → List ℕ
text_of [] = []
text_of (gap s ∷ ps) = s ++ text_of ps
text_of (lexeme t ∷ ps) = t.text ++ text_of ps

-- the tokens alone
abbrev pub tokens_of : List Piece → List Lexeme
tokens_of [] = []
tokens_of (gap s ∷ ps) = tokens_of ps
tokens_of (lexeme t ∷ ps) = t ∷ tokens_of ps

-- each token has the kind of its text
abbrev pub AreTokens : List Piece → Type 0
AreTokens [] = Unit {0}
AreTokens (gap s ∷ ps) = AreTokens ps
AreTokens (lexeme t ∷ ps) = (kind_of t.text ≡ Some t.kind) × AreTokens ps

-- a mark of punctuation that is a token whatever stands before or behind it
abbrev pub is_mark : TokenKind → Bool
is_mark Quoted = false
is_mark Local = false
is_mark Global = false
is_mark Comdat = false
is_mark Label = false
is_mark Word = false
is_mark Number = false
is_mark TextConstant = false
is_mark Metadata = false
is_mark AttributeGroup = false
is_mark Dots = false
is_mark Equal = true
is_mark Comma = true
is_mark LeftParen = true
is_mark RightParen = true
is_mark LeftBracket = true
is_mark RightBracket = true
is_mark LeftBrace = true
is_mark RightBrace = true
is_mark Less = true
is_mark Greater = true
is_mark Star = true
is_mark Bang = false
is_mark Colon = false
is_mark Bar = true
is_mark Decimal = false
is_mark Hexadecimal = false
is_mark NamedGroup = false

-- there is no byte
abbrev pub is_empty : List ℕ → Bool
is_empty [] = true
is_empty (c ∷ cs) = false

-- the text begins with `"`
abbrev pub begins_quoted : List ℕ → Bool
begins_quoted [] = false
begins_quoted (c ∷ cs) = c == 34

-- what stands at once before a place: white space, a mark or nothing; a `!` by itself; another token
pub data Before : Type 0 where
  closed : Before
  bang : Before
  open_ : Before

-- before the place behind a token of the kind
abbrev pub left_by : TokenKind → Before
left_by k = if is_mark k then closed else (if kind_code k == kind_code Bang then bang else open_)

-- before the place behind white space
abbrev pub spaced : Before → List ℕ → Before
spaced b s = if is_empty s then b else closed

-- whether a token may stand here: a mark may always, and what begins with `"` behind a `!`
abbrev pub may_stand : Before → Lexeme → Bool
may_stand closed t = true
may_stand bang t = is_mark t.kind || begins_quoted t.text
may_stand open_ t = is_mark t.kind

-- Between the pieces is white space where it has to be. The first argument says what stands at once before them.
abbrev pub joins : Before → List Piece → Bool
joins b [] = true
joins b (gap s ∷ ps) = all_of is_space s && joins (spaced b s) ps
joins b (lexeme t ∷ ps) = may_stand b t && joins (left_by t.kind) ps

-- before the place behind the pieces
abbrev pub end_of : Before → List Piece → Before
end_of b [] = b
end_of b (gap s ∷ ps) = end_of (spaced b s) ps
end_of b (lexeme t ∷ ps) = end_of (left_by t.kind) ps
