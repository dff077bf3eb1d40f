-- Facts on single tokens.
use Rattle.std.proofs.Common.{◌≡◌, ℕ, true, List, [], ◌∷◌, eqb, get_or, refl, sym, ap, ◌∙◌, arith}
use Rattle.std.proofs.lemmas.Bool.{eqb-true, and_parts, and_from}
use Rattle.text_forms.specs.declared.TokenKind.{TokenKind}
use Rattle.text_forms.specs.declared.TokenKind.TheVariants.{Quoted, Local, Global, Comdat, Label, Word, Number, TextConstant, Metadata, AttributeGroup, Dots, Equal, Comma, LeftParen, RightParen, LeftBracket, RightBracket, LeftBrace, RightBrace, Less, Greater, Star, Bang, Colon, Bar, Decimal, Hexadecimal, NamedGroup}
use Rattle.text_forms.specs.Form.{kind_code, same_text}

kinds : List TokenKind
kinds =
    Quoted ∷
    Local ∷
    Global ∷
    Comdat ∷
    Label ∷
    Word ∷
    Number ∷
    TextConstant ∷
    Metadata ∷
    AttributeGroup ∷
    Dots ∷
    Equal ∷
    Comma ∷
    LeftParen ∷
    RightParen ∷
    LeftBracket ∷
    RightBracket ∷
    LeftBrace ∷
    RightBrace ∷
    Less ∷
    Greater ∷
    Star ∷
    Bang ∷
    Colon ∷
    Bar ∷
    Decimal ∷
    Hexadecimal ∷
    NamedGroup ∷
    []

kind_at : ℕ → TokenKind
kind_at n = get_or kinds n Quoted

kind_back : (k : TokenKind) → kind_at (kind_code k) ≡ k
unfolding kind_at kinds
kind_back Quoted = refl
kind_back Local = refl
kind_back Global = refl
kind_back Comdat = refl
kind_back Label = refl
kind_back Word = refl
kind_back Number = refl
kind_back TextConstant = refl
kind_back Metadata = refl
kind_back AttributeGroup = refl
kind_back Dots = refl
kind_back Equal = refl
kind_back Comma = refl
kind_back LeftParen = refl
kind_back RightParen = refl
kind_back LeftBracket = refl
kind_back RightBracket = refl
kind_back LeftBrace = refl
kind_back RightBrace = refl
kind_back Less = refl
kind_back Greater = refl
kind_back Star = refl
kind_back Bang = refl
kind_back Colon = refl
kind_back Bar = refl
kind_back Decimal = refl
kind_back Hexadecimal = refl
kind_back NamedGroup = refl

pub same_kind : (k l : TokenKind) → eqb (kind_code k) (kind_code l) ≡ true → k ≡ l
same_kind k l e = sym (kind_back k) ∙ ap kind_at (eqb-true _ _ e) ∙ kind_back l

pub is_text : (s r : List ℕ) → same_text s r ≡ true → s ≡ r
is_text [] [] e = refl
is_text [] (y ∷ ys) e = absurd cc
is_text (x ∷ xs) [] e = absurd cc
is_text (x ∷ xs) (y ∷ ys) e =
    let p = and_parts (eqb x y) (same_text xs ys) e in
    let h = eqb-true x y p.0 in
    let t = is_text xs ys p.1 in cc

pub text_is : (s : List ℕ) → same_text s s ≡ true
text_is [] = refl
text_is (x ∷ xs) = and_from (eqb x x) (same_text xs xs) (grind arith) (text_is xs)

pub kind_is : (k : TokenKind) → eqb (kind_code k) (kind_code k) ≡ true
kind_is k = grind arith
