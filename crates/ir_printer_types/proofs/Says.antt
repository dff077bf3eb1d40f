-- Values and tokens by which forms are spelled.
use Rattle.std.proofs.Common.{◌≡◌, ◌<◌, ℕ, List, [], ◌∷◌, ◌++◌, length, Option, Some, None, refl, sym, ap, ◌∙◌, append_assoc, arith, inl, inr}
use Rattle.std.specs.Prelude.{map}
use Rattle.std.specs.List.{AllByRecursion}
use Rattle.text_forms.specs.declared.TokenKind.{TokenKind}
use Rattle.text_forms.specs.declared.TokenKind.TheVariants.{Word, Comma}
use Rattle.text_forms.specs.Form.{Lexeme, Form, Spells, exactly, one, ahead, pair, either, mapped, made, optional, many, by_word, entry}
use Rattle.text_lex.specs.Layout.{Piece, gap, tokens_of}
use Rattle.text_lex.proofs.Layouts.{tokens_of-append}
use Rattle.text_forms.specs.Gives.{mark}
use Rattle.text_forms.specs.Combined.{word, behind, after_mark, between, marked, some, commas, list}
use Rattle.ir_printer_types.specs.Pieces as pieces_of
use Rattle.ir_printer_types.specs.Pieces.{token, each_behind, separated, with_commas}

pub record Says {A : Type 0} (f : Form A) (a : A) (ts : List Lexeme) : Type 0 where
  pub spells : Spells f a ts

-- a pair is said by the tokens of both
pub pair_says : {A B : Type 0} {f : Form A} {g : Form B} {a : A} {b : B} (x y : List Lexeme) → Says f a x → Says g b y → Says (pair f g) (a, b) (x ++ y)
pair_says x y p q = record { spells = (x, y, refl, p.spells, q.spells) }

-- either by those of the one
pub left_says : {A : Type 0} {f g : Form A} {a : A} {ts : List Lexeme} → Says f a ts → Says (either f g) a ts
left_says p = record { spells = inl p.spells }

-- or of the other
pub right_says : {A : Type 0} {f g : Form A} {a : A} {ts : List Lexeme} → Says g a ts → Says (either f g) a ts
right_says p = record { spells = inr p.spells }

-- what is mapped by those of what it is made of
pub mapped_says : {A B : Type 0} {m : A → B} {f : Form A} {ts : List Lexeme} (a : A) (b : B) → m a ≡ b → Says f a ts → Says (mapped m f) b ts
mapped_says a b e p = record { spells = (a, e, p.spells) }

-- and where the function may refuse
pub made_says : {A B : Type 0} {m : A → Option B} {f : Form A} {ts : List Lexeme} (a : A) (b : B) → m a ≡ Some b → Says f a ts → Says (made m f) b ts
made_says a b e p = record { spells = (a, e, p.spells) }

-- a token by itself
pub one_says : (k : TokenKind) (s : List ℕ) → Says (one k) s (token k s ∷ [])
one_says k s = record { spells = refl }

-- and a given one
pub exactly_says : (k : TokenKind) (s : List ℕ) → Says (exactly k s) tt (token k s ∷ [])
exactly_says k s = record { spells = refl }

-- and a mark
pub mark_says : (k : TokenKind) (s : List ℕ) → Says (mark k) tt (token k s ∷ [])
mark_says k s = record { spells = (s, refl, refl) }

-- and what a word stands for
pub word_says : {A : Type 0} (w : List ℕ) (a : A) → Says (word w a) a (token Word w ∷ [])
word_says w a = record { spells = (tt, refl, refl) }

-- behind a token that is kept, the rest by its own
pub ahead_says : {A : Type 0} {f : Form A} {a : A} {ts : List Lexeme} (k : TokenKind) (s : List ℕ) → Says f a ts → Says (ahead k f) (s, a) (token k s ∷ ts)
ahead_says {ts} k s p = record { spells = (ts, refl, p.spells) }

-- a choice by its word and the tokens behind
pub by_word_says : {K A : Type 0} {table : List (List ℕ × K)} {f : K → Form A} {a : A} {ts : List Lexeme} (w : List ℕ) (k : K) → entry table w ≡ Some k → Says (f k) a ts → Says (by_word table f) a (token Word w ∷ ts)
by_word_says {ts} w k e p = record { spells = (w, k, ts, refl, e, p.spells) }

-- what may be absent, where it is there, by its own
pub there_says : {A : Type 0} {f : Form A} {a : A} {ts : List Lexeme} → Says f a ts → Says (optional f) (Some a) ts
there_says p = record { spells = p.spells }

-- what stands behind a word by its own behind it
pub behind_says : {A : Type 0} {f : Form A} {a : A} {ts : List Lexeme} (w : List ℕ) → Says f a ts → Says (behind w f) a (token Word w ∷ ts)
behind_says {A} {f} {a} {ts} w p = record { spells = ((tt, a), refl, (token Word w ∷ [], ts, refl, refl, p.spells)) }

-- and behind a mark
pub after_mark_says : {A : Type 0} {f : Form A} {a : A} {ts : List Lexeme} (k : TokenKind) (s : List ℕ) → Says f a ts → Says (after_mark k f) a (token k s ∷ ts)
after_mark_says {A} {f} {a} {ts} k s p = record { spells = ((tt, a), refl, (token k s ∷ [], ts, refl, (s, refl, refl), p.spells)) }

-- and between two marks
pub between_says : {A : Type 0} {f : Form A} {a : A} (ts : List Lexeme) (o c : TokenKind) (s u : List ℕ) → Says f a ts → Says (between o c f) a (token o s ∷ (ts ++ token c u ∷ []))
between_says {A} {f} {a} ts o c s u p = record { spells = ((tt, (a, tt)), refl, (token o s ∷ [], ts ++ token c u ∷ [], refl, (s, refl, refl), (ts, token c u ∷ [], refl, p.spells, (u, refl, refl)))) }

-- and behind a mark that is read with it
pub marked_says : {A : Type 0} {f : Form A} {a : A} {ts : List Lexeme} (k : TokenKind) (s : List ℕ) → Says f a ts → Says (marked k f) a (token k s ∷ ts)
marked_says {A} {f} {a} k s p = mapped_says (s, a) a refl (ahead_says k s p)

-- ---- lists of parts, each printed as these pieces

-- each part is spelled so
pub record EachSays {A B : Type 0} (f : Form A) (w : B → A) (pieces : B → List Piece) (P : B → Type 0) : Type 0 where
  pub one : (b : B) → P b → Says f (w b) (tokens_of (pieces b))

-- of many none by no token
pub none_says : {A : Type 0} (f : Form A) → Says (many f) [] []
none_says f = record { spells = refl }

-- and one more by its tokens before the others'
pub more_says : {A : Type 0} {f : Form A} {a : A} {more : List A} (x y ts : List Lexeme) → ts ≡ x ++ y → Says f a x → Says (many f) more y → Says (many f) (a ∷ more) ts
more_says x y ts e p q = record { spells = (x, y, e, p.spells, q.spells) }

-- one more before others
pub cons_says : {A B : Type 0} {f : Form A} {g : Form B} {a : A} {more : List A} {b : B} (x ts : List Lexeme) → Says f a x → Says (pair (many f) g) (more, b) ts → Says (pair (many f) g) (a ∷ more, b) (x ++ ts)
cons_says x ts p q =
    let h = q.spells in
    record { spells = (x ++ h.0, h.1, ap (λ (us : List Lexeme). x ++ us) h.2 ∙ sym (append_assoc x h.0 h.1), (x, h.0, refl, p.spells, h.3), h.4) }

-- behind white space
pub behind_each : {A B : Type 0} {f : Form A} {w : B → A} {pieces : B → List Piece} {P : B → Type 0} (s : List ℕ) → EachSays f w pieces P → (items : List B) → AllByRecursion P items → Says (many f) (map w items) (tokens_of (each_behind (gap s ∷ []) (map pieces items)))
behind_each {f = f} s says [] h = none_says f
behind_each {pieces = pieces} s says (b ∷ more) h = more_says (tokens_of (pieces b)) _ _ (tokens_of-append (pieces b) _) (says.one b h.0) (behind_each s says more h.1)

-- at least one
pub some_says : {A B : Type 0} {f : Form A} {w : B → A} {pieces : B → List Piece} {P : B → Type 0} (s : List ℕ) → EachSays f w pieces P → (items : List B) → 0 < length items → AllByRecursion P items → Says (some f) (map w items) (tokens_of (separated (gap s ∷ []) (map pieces items)))
some_says s says [] lt h = absurd (omega arith)
some_says {w = w} {pieces = pieces} s says (b ∷ more) lt h =
    let q = behind_each s says more h.1 in
    record { spells = ((w b, map w more), refl, (tokens_of (pieces b), tokens_of (each_behind (gap s ∷ []) (map pieces more)), tokens_of-append (pieces b) _, (says.one b h.0).spells, q.spells)) }

-- the parts behind the first are said each behind a comma
pub behind_commas : {A B : Type 0} {f : Form A} {w : B → A} {pieces : B → List Piece} {P : B → Type 0} → EachSays f w pieces P → (items : List B) → AllByRecursion P items → Says (many (marked Comma f)) (map w items) (tokens_of (each_behind (pieces_of.comma ∷ pieces_of.blank ∷ []) (map pieces items)))
behind_commas {f = f} says [] h = none_says (marked Comma f)
behind_commas {pieces = pieces} says (b ∷ more) h =
    more_says (token Comma (44 ∷ []) ∷ tokens_of (pieces b)) _ _ (ap (λ (ts : List Lexeme). token Comma (44 ∷ []) ∷ ts) (tokens_of-append (pieces b) _)) (marked_says Comma (44 ∷ []) (says.one b h.0)) (behind_commas says more h.1)

-- at least one, parted by commas
pub commas_says : {A B : Type 0} {f : Form A} {w : B → A} {pieces : B → List Piece} {P : B → Type 0} → EachSays f w pieces P → (items : List B) → 0 < length items → AllByRecursion P items → Says (commas f) (map w items) (tokens_of (with_commas (map pieces items)))
commas_says says [] lt h = absurd (omega arith)
commas_says {w = w} {pieces = pieces} says (b ∷ more) lt h =
    let q = behind_commas says more h.1 in
    record { spells = ((w b, map w more), refl, (tokens_of (pieces b), tokens_of (each_behind (pieces_of.comma ∷ pieces_of.blank ∷ []) (map pieces more)), tokens_of-append (pieces b) _, (says.one b h.0).spells, q.spells)) }

-- a list is said by its parts with commas between them
pub list_says : {A B : Type 0} {f : Form A} {w : B → A} {pieces : B → List Piece} {P : B → Type 0} → EachSays f w pieces P → (items : List B) → AllByRecursion P items → Says (list f) (map w items) (tokens_of (with_commas (map pieces items)))
list_says says [] h = record { spells = (None, refl, refl) }
list_says {w = w} says (b ∷ more) h = record { spells = (Some (map w (b ∷ more)), refl, (commas_says says (b ∷ more) (omega arith) h).spells) }
