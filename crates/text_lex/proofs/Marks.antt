-- A mark is one byte, which is a token whatever stands beside it.
use Rattle.std.proofs.Common.{◌≡◌, ℕ, Bool, true, false, not, ◌&&◌, ◌||◌, eqb, List, [], ◌∷◌, Some, refl, ap, ◌∙◌, inl, inr}
use Rattle.std.proofs.lemmas.Bool.{and_parts, eqb-true, eq-eqb}
use Rattle.std.specs.Prelude.{codes}
use Rattle.text_forms.specs.declared.TokenKind.{TokenKind}
use Rattle.text_forms.specs.declared.TokenKind.TheVariants.{Quoted, Local, Global, Comdat, Label, Word, Number, TextConstant, Metadata, AttributeGroup, Dots, Equal, Comma, LeftParen, RightParen, LeftBracket, RightBracket, LeftBrace, RightBrace, Less, Greater, Star, Bang, Colon, Bar, Decimal, Hexadecimal, NamedGroup}
use Rattle.text_forms.specs.declared.Class.{Class}
use Rattle.text_forms.specs.declared.Class.TheVariants.{Byte, Digit, HexDigit, NameStart, NamePart, WordStart, WordPart, Exponent, Sign, NotQuote}
use Rattle.text_forms.specs.declared.Part.{Part}
use Rattle.text_forms.specs.declared.Part.TheVariants.{One, Perhaps, Run}
use Rattle.text_forms.specs.Form.{kind_code}
use Rattle.text_forms.specs.Lexical.{kind_of, spells, kind_by, table}
use Rattle.text_lex.specs.Layout.{is_mark}
use Rattle.text_lex.specs.Neighbours.{separates}
use Rattle.text_lex.proofs.Neighbours.{all_whole}
use Rattle.text_forms.proofs.Begins.{test, or_true, not_true, not_both}

is_class : ℕ → Class → Bool
is_class b (Byte c) = eqb c b
is_class b Digit = false
is_class b HexDigit = false
is_class b NameStart = false
is_class b NamePart = false
is_class b WordStart = false
is_class b WordPart = false
is_class b Exponent = false
is_class b Sign = false
is_class b NotQuote = false

class_is : (b : ℕ) (p : Class) → is_class b p ≡ true → p ≡ Byte b
unfolding is_class
class_is b (Byte c) h = ap Byte (eqb-true c b h)
class_is b Digit h = absurd cc
class_is b HexDigit h = absurd cc
class_is b NameStart h = absurd cc
class_is b NamePart h = absurd cc
class_is b WordStart h = absurd cc
class_is b WordPart h = absurd cc
class_is b Exponent h = absurd cc
class_is b Sign h = absurd cc
class_is b NotQuote h = absurd cc

none_left : List Part → Bool
none_left [] = true
none_left (p ∷ ps) = false

none_is : (ps : List Part) → none_left ps ≡ true → ps ≡ []
unfolding none_left
none_is [] h = refl
none_is (p ∷ ps) h = absurd cc

-- one part, which is this byte
is_byte : ℕ → List Part → Bool
is_byte b [] = false
is_byte b (One p ∷ ps) = is_class b p && none_left ps
is_byte b (Perhaps p ∷ ps) = false
is_byte b (Run p ∷ ps) = false

byte_alone : (b : ℕ) (w : List ℕ) → spells (One (Byte b) ∷ []) w ≡ true → w ≡ b ∷ []
byte_alone b [] s = absurd cc
byte_alone b (c ∷ []) s = elim (test (eqb c b)) [
  | inl y ↦ ap (λ (x : ℕ). x ∷ []) (eqb-true c b y)
  | inr n ↦ absurd (let t : false ≡ true = rw n at s in cc)
]
byte_alone b (c ∷ d ∷ w) s = elim (test (eqb c b)) [
  | inl y ↦ absurd (let t : false ≡ true = rw y at s in cc)
  | inr n ↦ absurd (let t : false ≡ true = rw n at s in cc)
]

byte_spelled : (b : ℕ) (ps : List Part) (w : List ℕ) → is_byte b ps ≡ true → spells ps w ≡ true → w ≡ b ∷ []
unfolding is_byte
byte_spelled b [] w h s = absurd cc
byte_spelled b (One p ∷ ps) w h s =
    let a = and_parts (is_class b p) (none_left ps) h in
    let c = class_is b p a.0 in
    let n = none_is ps a.1 in
    byte_alone b w (rw (c, n) at s)
byte_spelled b (Perhaps p ∷ ps) w h s = absurd cc
byte_spelled b (Run p ∷ ps) w h s = absurd cc

-- each row of the kind is this byte
only_byte : TokenKind → ℕ → List (TokenKind × List Part) → Bool
only_byte k b [] = true
only_byte k b (r ∷ rs) = (not (eqb (kind_code r.0) (kind_code k)) || is_byte b r.1) && only_byte k b rs

byte_by : (k : TokenKind) (b : ℕ) (rows : List (TokenKind × List Part)) (w : List ℕ) → only_byte k b rows ≡ true → kind_by rows w ≡ Some k → w ≡ b ∷ []
unfolding only_byte
byte_by k b [] w h e = absurd cc
byte_by k b (r ∷ rs) w h e =
    let a = and_parts (not (eqb (kind_code r.0) (kind_code k)) || is_byte b r.1) (only_byte k b rs) h in
    elim (test (spells r.1 w)) [
      | inr n ↦ byte_by k b rs w a.1 (rw n at e)
      | inl y ↦ elim (or_true (not (eqb (kind_code r.0) (kind_code k))) (is_byte b r.1) a.0) [
        | inr i ↦ byte_spelled b r.1 w i y
        | inl d ↦ absurd (
            let f : Some r.0 ≡ Some k = rw y at e in
            let same : r.0 ≡ k = cc in
            not_both (eqb (kind_code r.0) (kind_code k)) (eq-eqb _ _ (ap kind_code same)) (not_true (eqb (kind_code r.0) (kind_code k)) d))
      ]
    ]

-- a byte that is a token whatever stands beside it
pub record IsMark (w : List ℕ) : Type 0 where
  pub byte : ℕ
  pub is : w ≡ byte ∷ []
  pub whole : all_whole table w ≡ true
  pub apart : separates byte ≡ true

mark_by : (k : TokenKind) (b : ℕ) (w : List ℕ) → only_byte k b table ≡ true → all_whole table (b ∷ []) ≡ true → separates b ≡ true → kind_of w ≡ Some k → IsMark w
mark_by k b w only whole apart e =
    let i = byte_by k b table w only e in
    record { byte = b; is = i; whole = ap (all_whole table) i ∙ whole; apart = apart }

pub mark_is : (k : TokenKind) (w : List ℕ) → is_mark k ≡ true → kind_of w ≡ Some k → IsMark w
unfolding table only_byte is_byte is_class none_left
mark_is Quoted w m e = absurd cc
mark_is Local w m e = absurd cc
mark_is Global w m e = absurd cc
mark_is Comdat w m e = absurd cc
mark_is Label w m e = absurd cc
mark_is Word w m e = absurd cc
mark_is Number w m e = absurd cc
mark_is TextConstant w m e = absurd cc
mark_is Metadata w m e = absurd cc
mark_is AttributeGroup w m e = absurd cc
mark_is Dots w m e = absurd cc
mark_is Equal w m e = mark_by Equal 61 w refl refl refl e
mark_is Comma w m e = mark_by Comma 44 w refl refl refl e
mark_is LeftParen w m e = mark_by LeftParen 40 w refl refl refl e
mark_is RightParen w m e = mark_by RightParen 41 w refl refl refl e
mark_is LeftBracket w m e = mark_by LeftBracket 91 w refl refl refl e
mark_is RightBracket w m e = mark_by RightBracket 93 w refl refl refl e
mark_is LeftBrace w m e = mark_by LeftBrace 123 w refl refl refl e
mark_is RightBrace w m e = mark_by RightBrace 125 w refl refl refl e
mark_is Less w m e = mark_by Less 60 w refl refl refl e
mark_is Greater w m e = mark_by Greater 62 w refl refl refl e
mark_is Star w m e = mark_by Star 42 w refl refl refl e
mark_is Bang w m e = absurd cc
mark_is Colon w m e = absurd cc
mark_is Bar w m e = mark_by Bar 124 w refl refl refl e
mark_is Decimal w m e = absurd cc
mark_is Hexadecimal w m e = absurd cc
mark_is NamedGroup w m e = absurd cc

-- ---- the one text of a token of these kinds

pub equal_text : (w : List ℕ) → kind_of w ≡ Some Equal → w ≡ codes "="
unfolding table only_byte is_byte is_class none_left
equal_text w e = byte_by Equal 61 table w refl e

pub comma_text : (w : List ℕ) → kind_of w ≡ Some Comma → w ≡ codes ","
unfolding table only_byte is_byte is_class none_left
comma_text w e = byte_by Comma 44 table w refl e

pub left_paren_text : (w : List ℕ) → kind_of w ≡ Some LeftParen → w ≡ codes "("
unfolding table only_byte is_byte is_class none_left
left_paren_text w e = byte_by LeftParen 40 table w refl e

pub right_paren_text : (w : List ℕ) → kind_of w ≡ Some RightParen → w ≡ codes ")"
unfolding table only_byte is_byte is_class none_left
right_paren_text w e = byte_by RightParen 41 table w refl e

pub left_bracket_text : (w : List ℕ) → kind_of w ≡ Some LeftBracket → w ≡ codes "["
unfolding table only_byte is_byte is_class none_left
left_bracket_text w e = byte_by LeftBracket 91 table w refl e

pub right_bracket_text : (w : List ℕ) → kind_of w ≡ Some RightBracket → w ≡ codes "]"
unfolding table only_byte is_byte is_class none_left
right_bracket_text w e = byte_by RightBracket 93 table w refl e

pub left_brace_text : (w : List ℕ) → kind_of w ≡ Some LeftBrace → w ≡ codes "{"
unfolding table only_byte is_byte is_class none_left
left_brace_text w e = byte_by LeftBrace 123 table w refl e

pub right_brace_text : (w : List ℕ) → kind_of w ≡ Some RightBrace → w ≡ codes "}"
unfolding table only_byte is_byte is_class none_left
right_brace_text w e = byte_by RightBrace 125 table w refl e

pub less_text : (w : List ℕ) → kind_of w ≡ Some Less → w ≡ codes "<"
unfolding table only_byte is_byte is_class none_left
less_text w e = byte_by Less 60 table w refl e

pub greater_text : (w : List ℕ) → kind_of w ≡ Some Greater → w ≡ codes ">"
unfolding table only_byte is_byte is_class none_left
greater_text w e = byte_by Greater 62 table w refl e

pub star_text : (w : List ℕ) → kind_of w ≡ Some Star → w ≡ codes "*"
unfolding table only_byte is_byte is_class none_left
star_text w e = byte_by Star 42 table w refl e

pub bang_text : (w : List ℕ) → kind_of w ≡ Some Bang → w ≡ codes "!"
unfolding table only_byte is_byte is_class none_left
bang_text w e = byte_by Bang 33 table w refl e

pub bar_text : (w : List ℕ) → kind_of w ≡ Some Bar → w ≡ codes "|"
unfolding table only_byte is_byte is_class none_left
bar_text w e = byte_by Bar 124 table w refl e
