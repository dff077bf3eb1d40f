-- Pieces that write a value by a form: they spell it, are tokens, and join.
use Rattle.std.proofs.Common.{◌≡◌, ◌<◌, ℕ, true, List, [], ◌∷◌, ◌++◌, length, Option, Some, None, refl, sym, ap, ◌∙◌, subst, append_assoc, arith}
use Rattle.std.specs.Prelude.{map, codes}
use Rattle.std.specs.List.{AllByRecursion}
use Rattle.std.proofs.lemmas.Bool.{and_from}
use Rattle.std.proofs.lemmas.List.{append-nil}
use Rattle.text_forms.specs.declared.TokenKind.{TokenKind}
use Rattle.text_forms.specs.declared.TokenKind.TheVariants.{Word, Comma, LeftBracket, RightBracket}
use Rattle.text_forms.specs.Form.{Lexeme, Form, exactly, one, pair, either, mapped, made, optional, many, by_word, ahead, entry}
use Rattle.text_forms.specs.Combined.{word, behind, after_mark, between, marked, some, commas, list}
use Rattle.text_forms.specs.Lexical.{kind_of}
use Rattle.text_lex.specs.Layout.{Piece, gap, lexeme, tokens_of, AreTokens, is_mark, Before, closed, open_, left_by, joins, end_of}
use Rattle.text_lex.proofs.Layouts.{tokens_of-append, AreTokens-append, joins-from, joins_any, mark_stands}
use Rattle.ir_printer_types.specs.Pieces as pieces_of
use Rattle.ir_printer_types.specs.Pieces.{token, comma, blank, line_feed, indent, each_behind, with_commas}
use Rattle.ir_printer_types.proofs.Laid.{IsLaid, IsBehind, loose, nothing_behind, blank_laid, mark_laid, Separates, each_laid, all_laid, separated_laid}
use Rattle.ir_printer_types.proofs.LaidOut.{commas_part, bracket_kinds, comma_kind}
use Rattle.ir_printer_types.proofs.Says.{Says, pair_says, left_says, right_says, mapped_says, made_says, one_says, exactly_says, word_says, ahead_says, there_says, cons_says, by_word_says, behind_says, after_mark_says, marked_says, between_says, EachSays, behind_each, behind_commas, commas_says, list_says}

-- The first argument says what stands at once before the pieces.
pub record Writes {A : Type 0} (b : Before) (f : Form A) (a : A) (ps : List Piece) : Type 0 where
  pub says : Says f a (tokens_of ps)
  pub tokens : AreTokens ps
  pub joined : joins b ps ≡ true

-- ---- where they stand

-- what may stand behind a token that goes on may stand behind anything
pub anywhere : {A : Type 0} {b : Before} {f : Form A} {a : A} {ps : List Piece} → Writes open_ f a ps → Writes b f a ps
anywhere {b = b} {ps = ps} w = record { says = w.says; tokens = w.tokens; joined = joins_any b ps w.joined }

-- behind a space
pub spaced : {A : Type 0} {b : Before} {f : Form A} {a : A} {ps : List Piece} → Writes closed f a ps → Writes b f a (blank ∷ ps)
spaced w = record { says = w.says; tokens = w.tokens; joined = w.joined }

-- behind the end of a line
pub on_next_line : {A : Type 0} {b : Before} {f : Form A} {a : A} {ps : List Piece} → Writes closed f a ps → Writes b f a (line_feed ∷ ps)
on_next_line w = record { says = w.says; tokens = w.tokens; joined = w.joined }

-- behind what stands before an instruction
pub indented : {A : Type 0} {b : Before} {f : Form A} {a : A} {ps : List Piece} → Writes closed f a ps → Writes b f a (indent ∷ ps)
indented w = record { says = w.says; tokens = w.tokens; joined = w.joined }

-- before the end of a line
pub with_feed : {A : Type 0} {b : Before} {f : Form A} {a : A} {ps : List Piece} → Writes b f a ps → Writes b f a (ps ++ (line_feed ∷ []))
with_feed {b = b} {f = f} {a = a} {ps = ps} w = record {
  says = subst (Says f a) (sym (tokens_of-append ps (line_feed ∷ []) ∙ append-nil (tokens_of ps))) w.says;
  tokens = AreTokens-append ps (line_feed ∷ []) w.tokens tt;
  joined = joins-from b ps (line_feed ∷ []) w.joined refl;
}

-- before nothing
pub ended : {A : Type 0} {b : Before} {f : Form A} {a : A} {ps : List Piece} → Writes b f a ps → Writes b f a (ps ++ [])
ended {b = b} {f = f} {a = a} {ps = ps} w = subst (Writes b f a) (sym (append-nil ps)) w

-- pieces whose tokens say it, and that are laid out, write it
pub laid_writes : {A : Type 0} {f : Form A} {a : A} {ps : List Piece} → Says f a (tokens_of ps) → IsLaid ps → Writes closed f a ps
laid_writes s l = record { says = s; tokens = l.tokens; joined = l.joined }

-- and what writes is laid out
pub is_laid : {A : Type 0} {f : Form A} {a : A} {ps : List Piece} → Writes closed f a ps → IsLaid ps
is_laid w = record { tokens = w.tokens; joined = w.joined }

-- two parts behind another
pub regrouped : {A : Type 0} {b : Before} {f : Form A} {a : A} (ps qs rs : List Piece) → Writes b f a (ps ++ (qs ++ rs)) → Writes b f a ((ps ++ qs) ++ rs)
regrouped {b = b} {f = f} {a = a} ps qs rs w = subst (Writes b f a) (sym (append_assoc ps qs rs)) w

-- ---- the forms

-- a pair is written by the pieces of both
pub both : {A B : Type 0} {b : Before} {f : Form A} {g : Form B} {x : A} {y : B} {ps qs : List Piece} → Writes b f x ps → Writes open_ g y qs → Writes b (pair f g) (x, y) (ps ++ qs)
both {b = b} {f = f} {g = g} {x = x} {y = y} {ps = ps} {qs = qs} v w = record {
  says = subst (Says (pair f g) (x, y)) (sym (tokens_of-append ps qs)) (pair_says (tokens_of ps) (tokens_of qs) v.says w.says);
  tokens = AreTokens-append ps qs v.tokens w.tokens;
  joined = joins-from b ps qs v.joined (joins_any (end_of b ps) qs w.joined);
}

-- either by those of the one
pub left_writes : {A : Type 0} {b : Before} {f g : Form A} {a : A} {ps : List Piece} → Writes b f a ps → Writes b (either f g) a ps
left_writes w = record { says = left_says w.says; tokens = w.tokens; joined = w.joined }

-- or of the other
pub right_writes : {A : Type 0} {b : Before} {f g : Form A} {a : A} {ps : List Piece} → Writes b g a ps → Writes b (either f g) a ps
right_writes w = record { says = right_says w.says; tokens = w.tokens; joined = w.joined }

-- what is mapped by those of what it is made of
pub mapped_writes : {A B : Type 0} {b : Before} {m : A → B} {f : Form A} {ps : List Piece} (x : A) (y : B) → m x ≡ y → Writes b f x ps → Writes b (mapped m f) y ps
mapped_writes x y e w = record { says = mapped_says x y e w.says; tokens = w.tokens; joined = w.joined }

-- and where the function may refuse
pub made_writes : {A B : Type 0} {b : Before} {m : A → Option B} {f : Form A} {ps : List Piece} (x : A) (y : B) → m x ≡ Some y → Writes b f x ps → Writes b (made m f) y ps
made_writes x y e w = record { says = made_says x y e w.says; tokens = w.tokens; joined = w.joined }

-- behind a token that is kept, the rest by its own
pub ahead_writes : {A : Type 0} {f : Form A} {a : A} {ps : List Piece} (k : TokenKind) (s : List ℕ) → kind_of s ≡ Some k → Writes open_ f a ps → Writes closed (ahead k f) (s, a) (lexeme (token k s) ∷ ps)
ahead_writes {ps = ps} k s e w = record { says = ahead_says k s w.says; tokens = (e, w.tokens); joined = joins_any (left_by k) ps w.joined }

-- what is absent by nothing
pub none_writes : {A : Type 0} {b : Before} {f : Form A} → Writes b (optional f) None []
none_writes = record { says = record { spells = refl }; tokens = tt; joined = refl }

-- and what may be, where it is there, by its own
pub there_writes : {A : Type 0} {b : Before} {f : Form A} {a : A} {ps : List Piece} → Writes b f a ps → Writes b (optional f) (Some a) ps
there_writes w = record { says = there_says w.says; tokens = w.tokens; joined = w.joined }

-- one more before others
pub more_writes : {A B : Type 0} {b : Before} {f : Form A} {g : Form B} {a : A} {more : List A} {c : B} {ps qs : List Piece} → Writes b f a ps → Writes open_ (pair (many f) g) (more, c) qs → Writes b (pair (many f) g) (a ∷ more, c) (ps ++ qs)
more_writes {b = b} {f = f} {g = g} {a = a} {more = more} {c = c} {ps = ps} {qs = qs} v w = record {
  says = subst (Says (pair (many f) g) (a ∷ more, c)) (sym (tokens_of-append ps qs)) (cons_says (tokens_of ps) (tokens_of qs) v.says w.says);
  tokens = AreTokens-append ps qs v.tokens w.tokens;
  joined = joins-from b ps qs v.joined (joins_any (end_of b ps) qs w.joined);
}

-- none before another
pub no_more : {A B : Type 0} {b : Before} {f : Form A} {g : Form B} {c : B} {ps : List Piece} → Writes b g c ps → Writes b (pair (many f) g) ([], c) ps
no_more {ps = ps} w = record { says = pair_says [] (tokens_of ps) (record { spells = refl }) w.says; tokens = w.tokens; joined = w.joined }

-- ---- words

-- what a word stands for by the word
pub word_writes : {A : Type 0} (w : List ℕ) (a : A) → kind_of w ≡ Some Word → Writes closed (word w a) a (pieces_of.word w ∷ [])
word_writes w a e = record { says = word_says w a; tokens = (e, tt); joined = refl }

-- what stands behind a word by its own behind it
pub behind_writes : {A : Type 0} {f : Form A} {a : A} {ps : List Piece} (w : List ℕ) → kind_of w ≡ Some Word → Writes open_ f a ps → Writes closed (behind w f) a (pieces_of.word w ∷ ps)
behind_writes w e v = record { says = behind_says w v.says; tokens = (e, v.tokens); joined = v.joined }

-- a choice by its word and the pieces behind
pub by_word_writes : {K A : Type 0} {table : List (List ℕ × K)} {f : K → Form A} {a : A} {ps : List Piece} (w : List ℕ) (k : K) → kind_of w ≡ Some Word → entry table w ≡ Some k → Writes open_ (f k) a ps → Writes closed (by_word table f) a (pieces_of.word w ∷ ps)
by_word_writes w k t e v = record { says = by_word_says w k e v.says; tokens = (t, v.tokens); joined = v.joined }

-- a given word by itself
pub exactly_writes : (w : List ℕ) → kind_of w ≡ Some Word → Writes closed (exactly Word w) tt (pieces_of.word w ∷ [])
exactly_writes w e = record { says = exactly_says Word w; tokens = (e, tt); joined = refl }

-- and a token of a kind
pub one_writes : (k : TokenKind) (w : List ℕ) → kind_of w ≡ Some k → Writes closed (one k) w (lexeme (token k w) ∷ [])
one_writes k w e = record { says = one_says k w; tokens = (e, tt); joined = refl }

-- ---- marks

-- behind a comma and a space
pub after_comma : {A : Type 0} {b : Before} {f : Form A} {a : A} {ps : List Piece} → Writes closed f a ps → Writes b (after_mark Comma f) a (comma ∷ blank ∷ ps)
after_comma {b = b} {ps = ps} v = record { says = after_mark_says Comma (codes ",") v.says; tokens = (comma_kind, v.tokens); joined = and_from _ _ (mark_stands b (token Comma (codes ",")) refl) v.joined }

-- the same, where the comma is read only before it
pub marked_comma : {A : Type 0} {b : Before} {f : Form A} {a : A} {ps : List Piece} → Writes closed f a ps → Writes b (marked Comma f) a (comma ∷ blank ∷ ps)
marked_comma {b = b} {ps = ps} v = record { says = marked_says Comma (codes ",") v.says; tokens = (comma_kind, v.tokens); joined = and_from _ _ (mark_stands b (token Comma (codes ",")) refl) v.joined }

-- between two marks, the second of which may stand behind white space
pub between_writes : {A : Type 0} {b : Before} {f : Form A} {a : A} (o c : TokenKind) (s u : List ℕ) (ps closing : List Piece) → kind_of s ≡ Some o → is_mark o ≡ true → IsBehind closing → tokens_of closing ≡ token c u ∷ [] → Writes closed f a ps → Writes b (between o c f) a (lexeme (token o s) ∷ (ps ++ closing))
between_writes {b = b} {f = f} {a = a} o c s u ps closing k m l e v =
    let ends : tokens_of (ps ++ closing) ≡ tokens_of ps ++ token c u ∷ [] = tokens_of-append ps closing ∙ ap (λ (ts : List Lexeme). tokens_of ps ++ ts) e in
    record {
      says = subst (λ (ts : List Lexeme). Says (between o c f) a (token o s ∷ ts)) (sym ends) (between_says (tokens_of ps) o c s u v.says);
      tokens = (k, AreTokens-append ps closing v.tokens l.tokens);
      joined = and_from _ _ (mark_stands b (token o s) m) (rw m (joins-from closed ps closing v.joined (joins_any (end_of closed ps) closing l.joined)));
    }

-- in brackets, with a space before and behind it
pub bracketed : {A : Type 0} {b : Before} {f : Form A} {a : A} (ps : List Piece) → Writes closed f a ps → Writes b (between LeftBracket RightBracket f) a (pieces_of.left_bracket ∷ blank ∷ (ps ++ (blank ∷ pieces_of.right_bracket ∷ [])))
bracketed ps v = between_writes LeftBracket RightBracket (codes "[") (codes "]") (blank ∷ ps) (blank ∷ pieces_of.right_bracket ∷ []) bracket_kinds.2 refl (blank_laid (loose (mark_laid RightBracket (codes "]") refl bracket_kinds.3 (loose nothing_behind)))) refl (spaced v)

-- ---- lists of parts, each printed as these pieces

-- each part is written so
pub record EachWrites {A B : Type 0} (f : Form A) (w : B → A) (pieces : B → List Piece) (P : B → Type 0) : Type 0 where
  pub one : (x : B) → P x → Writes closed f (w x) (pieces x)

-- what writes each says each
pub each_says : {A B : Type 0} {f : Form A} {w : B → A} {pieces : B → List Piece} {P : B → Type 0} → EachWrites f w pieces P → EachSays f w pieces P
each_says e = record { one = λ x h. (e.one x h).says }

-- and lays each out
pub each_is_laid : {A B : Type 0} {f : Form A} {w : B → A} {pieces : B → List Piece} {P : B → Type 0} → EachWrites f w pieces P → (items : List B) → AllByRecursion P items → AllByRecursion IsLaid (map pieces items)
each_is_laid {pieces = pieces} {P = P} e items h = all_laid P pieces (λ x g. is_laid (e.one x g)) items h

-- one or more are written with commas between them
pub commas_write : {A B : Type 0} {f : Form A} {w : B → A} {pieces : B → List Piece} {P : B → Type 0} → EachWrites f w pieces P → (items : List B) → 0 < length items → AllByRecursion P items → Writes closed (commas f) (map w items) (with_commas (map pieces items))
commas_write e items lt h = laid_writes (commas_says (each_says e) items lt h) (separated_laid _ _ commas_part (each_is_laid e items h))

-- and so is a list, which may be empty
pub list_write : {A B : Type 0} {f : Form A} {w : B → A} {pieces : B → List Piece} {P : B → Type 0} → EachWrites f w pieces P → (items : List B) → AllByRecursion P items → Writes closed (list f) (map w items) (with_commas (map pieces items))
list_write e items h = laid_writes (list_says (each_says e) items h) (separated_laid _ _ commas_part (each_is_laid e items h))

-- each behind a comma
pub many_commas : {A B : Type 0} {b : Before} {f : Form A} {w : B → A} {pieces : B → List Piece} {P : B → Type 0} → EachWrites f w pieces P → (items : List B) → AllByRecursion P items → Writes b (many (marked Comma f)) (map w items) (each_behind (comma ∷ blank ∷ []) (map pieces items))
many_commas {pieces = pieces} e items h =
    let l = each_laid _ (map pieces items) commas_part (each_is_laid e items h) in
    anywhere (record { says = behind_commas (each_says e) items h; tokens = l.tokens; joined = l.joined })

-- the same of one at least
pub some_commas : {A B : Type 0} {b : Before} {f : Form A} {w : B → A} {pieces : B → List Piece} {P : B → Type 0} → EachWrites f w pieces P → (items : List B) → 0 < length items → AllByRecursion P items → Writes b (some (marked Comma f)) (map w items) (each_behind (comma ∷ blank ∷ []) (map pieces items))
some_commas e [] lt h = absurd (omega arith)
some_commas {w = w} {pieces = pieces} e (x ∷ items) lt h = mapped_writes (w x, map w items) _ refl (both (marked_comma (e.one x h.0)) (many_commas e items h.1))

-- each behind white space
pub many_behind : {A B : Type 0} {b : Before} {f : Form A} {w : B → A} {pieces : B → List Piece} {P : B → Type 0} (s : List ℕ) → Separates (gap s ∷ []) → EachWrites f w pieces P → (items : List B) → AllByRecursion P items → Writes b (many f) (map w items) (each_behind (gap s ∷ []) (map pieces items))
many_behind {pieces = pieces} s apart e items h =
    let l = each_laid _ (map pieces items) apart (each_is_laid e items h) in
    anywhere (record { says = behind_each s (each_says e) items h; tokens = l.tokens; joined = l.joined })
