-- How tokens are laid out that were kept as their texts.
use Rattle.std.specs.Prelude.{◌≡◌, ℕ, Bool, ◌&&◌, ◌||◌, List, [], ◌∷◌, ◌++◌, codes, Some, if◌then◌else◌}
use Rattle.text_forms.specs.declared.TokenKind.{TokenKind}
use Rattle.text_forms.specs.declared.TokenKind.TheVariants.{Word}
use Rattle.text_forms.specs.Form.{Lexeme, same_text, is_one_of}
use Rattle.text_forms.specs.Lexical.{kind_of, and_then}
pub use Rattle.text_forms.specs.Lexical.{AreLexed}
use Rattle.text_lex.specs.Layout.{Piece, gap, lexeme, begins_quoted}

-- the token with this text: of the text's kind, or a word where the text is no token
unfoldable pub token_of : List ℕ → Lexeme
token_of w = record { kind = and_then (kind_of w) (λ k. k) Word; text = w }

-- the text is that of a token
abbrev pub IsToken : List ℕ → Type 0
IsToken w = (k : TokenKind) × (kind_of w ≡ Some k)

-- before these texts stands no space
abbrev pub no_space_before : List (List ℕ)
no_space_before = codes "," ∷ codes ")" ∷ codes "]" ∷ codes "}" ∷ codes "(" ∷ codes "=" ∷ []

-- and behind these
abbrev pub no_space_behind : List (List ℕ)
no_space_behind = codes "(" ∷ codes "[" ∷ codes "{" ∷ codes "=" ∷ []

-- a `!`, and a string or a `{`
abbrev pub is_node : List ℕ → List ℕ → Bool
is_node v w = same_text (codes "!") v && (begins_quoted w || same_text (codes "{") w)

-- whether two neighbours stand with nothing between them; if not, a space parts them
unfoldable pub touches : List ℕ → List ℕ → Bool
touches v w = is_one_of no_space_before w || (is_one_of no_space_behind v || is_node v w)

-- what parts two neighbours
abbrev pub between : List ℕ → List ℕ → List Piece
between v w = if touches v w then [] else gap (32 ∷ []) ∷ []

-- the tokens of these texts, where the first text stands before them
abbrev pub kept_behind : List ℕ → List (List ℕ) → List Piece
kept_behind v [] = []
kept_behind v (w ∷ ws) = between v w ++ (lexeme (token_of w) ∷ kept_behind w ws)

-- the tokens of these texts
abbrev pub kept_pieces : List (List ℕ) → List Piece
kept_pieces [] = []
kept_pieces (w ∷ ws) = lexeme (token_of w) ∷ kept_behind w ws

-- the tokens of a whole line: each up to the first `=`, and this, with a space behind it, and then the others
abbrev pub line_pieces : List (List ℕ) → List Piece
line_pieces [] = []
line_pieces (w ∷ ws) = lexeme (token_of w) ∷ gap (32 ∷ []) ∷ (if same_text (codes "=") w then kept_pieces ws else line_pieces ws)
