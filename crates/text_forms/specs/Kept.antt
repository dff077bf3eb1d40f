-- Tokens that are kept as they stand: the value of each of these forms is the list of its tokens' texts.
use Rattle.std.specs.Prelude.{ℕ, Bool, false, not, ◌==◌, List, [], ◌∷◌, codes, Option, Some, None, if◌then◌else◌}
use Rattle.text_forms.specs.declared.TokenKind.{TokenKind}
use Rattle.text_forms.specs.declared.TokenKind.TheVariants.{Quoted, Word, Number, Comma, Metadata, AttributeGroup, Bang, Equal, LeftParen, RightParen, LeftBrace, RightBrace}
use Rattle.text_forms.specs.Form.{Form, exactly, one, one_such, is_none_of, texts, ahead, enclosed, either, mapped, made, optional, many}
use Rattle.text_forms.specs.Combined.{or_none}
use Rattle.text_forms.specs.Lexical.{is_digit}
use Rattle.text_forms.specs.Nested.{concat, joined}

-- a token of this kind
abbrev pub kept_one : TokenKind → Form (List (List ℕ))
kept_one k = mapped (λ w. w ∷ []) (one k)

-- this token
abbrev pub kept_token : TokenKind → List ℕ → Form (List (List ℕ))
kept_token k w = mapped (λ _. w ∷ []) (exactly k w)

-- the text, where the test holds for it
abbrev pub kept_if : (List ℕ → Bool) → List ℕ → Option (List (List ℕ))
kept_if p w = if p w then Some (w ∷ []) else None

-- a token of this kind, refused where its text does not pass the test
abbrev pub kept_such : TokenKind → (List ℕ → Bool) → Form (List (List ℕ))
kept_such k p = made (kept_if p) (one k)

-- what a form keeps, or nothing
abbrev pub perhaps : Form (List (List ℕ)) → Form (List (List ℕ))
perhaps f = mapped or_none (optional f)

-- ( balanced )
abbrev pub in_parens : Form (List (List ℕ))
in_parens = mapped texts (enclosed LeftParen RightParen)

-- { balanced }
abbrev pub in_braces : Form (List (List ℕ))
in_braces = mapped texts (enclosed LeftBrace RightBrace)

-- ---- kept runs

-- a word that is none of these, alone or followed by a balanced list in parentheses
abbrev pub kept_word : List (List ℕ) → Form (List (List ℕ))
kept_word excluded = joined (mapped (λ w. w ∷ []) (one_such Word (is_none_of excluded))) (perhaps in_parens)

-- digits without a sign
abbrev pub is_unsigned : List ℕ → Bool
is_unsigned [] = false
is_unsigned (c ∷ ds) = not (c == 45)

-- a number without a sign
abbrev pub kept_unsigned : Form (List (List ℕ))
kept_unsigned = mapped (λ w. w ∷ []) (one_such Number is_unsigned)

-- a word with a number without a sign, or with a balanced list in parentheses
abbrev pub kept_numbered : List ℕ → Form (List (List ℕ))
kept_numbered w = joined (kept_token Word w) (either kept_unsigned in_parens)

-- a string, alone or followed by `=` and a string
abbrev pub kept_string : Form (List (List ℕ))
kept_string = joined (kept_one Quoted) (perhaps (joined (kept_one Equal) (kept_one Quoted)))

-- a piece of a kept run; the words that are excluded are to have `align` and `cc` among them, which are pieces of their own
unfoldable pub kept_piece : List (List ℕ) → Form (List (List ℕ))
kept_piece excluded =
    either (kept_word excluded)
    (either (kept_numbered (codes "align"))
    (either (kept_numbered (codes "cc"))
    (either kept_string (kept_one AttributeGroup))))

-- as many pieces as stand there
unfoldable pub kept_run : List (List ℕ) → Form (List (List ℕ))
kept_run excluded = mapped concat (many (kept_piece excluded))

-- ---- attachments

-- `!` and digits
abbrev pub is_numbered : List ℕ → Bool
is_numbered [] = false
is_numbered (c ∷ []) = false
is_numbered (c ∷ d ∷ ds) = is_digit d

-- `!` and a name
abbrev pub is_named : List ℕ → Bool
is_named w = not (is_numbered w)

-- a number of metadata, or a balanced `!{ .. }`
unfoldable pub metadata_node : Form (List (List ℕ))
metadata_node = either (kept_such Metadata is_numbered) (joined (kept_one Bang) in_braces)

-- a name of metadata, and what is attached by it
unfoldable pub attachment : Form (List (List ℕ))
attachment = joined (kept_such Metadata is_named) metadata_node

-- as many attachments as stand there
unfoldable pub attachments : Form (List (List ℕ))
attachments = mapped concat (many attachment)

-- what a form keeps behind a comma, which is read only where the form's beginning stands behind it
abbrev pub kept_behind_comma : Form (List (List ℕ)) → Form (List (List ℕ))
kept_behind_comma f = mapped (λ x. x.0 ∷ x.1) (ahead Comma f)
