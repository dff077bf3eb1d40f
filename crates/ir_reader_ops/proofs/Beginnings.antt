-- With which tokens instructions begin, wherever names of types are defined.
use Rattle.std.proofs.Common.{◌≡◌, Bool, true, false, ◌&&◌, ◌||◌, eqb, List, [], ◌∷◌, ◌++◌, codes, refl, ap, ◌∙◌}
use Rattle.std.proofs.lemmas.List.{append-nil}
use Rattle.std.specs.Option.{is_some}
use Rattle.text_forms.specs.declared.TokenKind.TheVariants.{Word}
use Rattle.text_forms.specs.Form.{Lexeme, kind_code, entry}
use Rattle.text_forms.specs.Reading.{Terminal, this, fits, fits_one, next_in, opens, words_of}
use Rattle.text_forms.proofs.Tables.{word_next}
use Rattle.ir_types.specs.Offsets.{Definitions}
use Rattle.ir_types.specs.Words.{operation_words, terminator_words}
use Rattle.ir_types.specs.InstForms.{operation, terminator}
use Rattle.ir_reader_ops.specs.Words.{form_at}
use Rattle.ir_reader_ops.specs.declared.inst.Place.TheVariants.{Inside, Last}

-- what begins by one of two lists begins by the first or the second
pub fits_append : (ts : List Lexeme) (a b : List Terminal) → fits_one ts (a ++ b) ≡ (fits_one ts a || fits_one ts b)
fits_append ts [] b = refl
fits_append ts (s ∷ a) b = ap (λ (x : Bool). fits ts s || x) (fits_append ts a b) ∙ assoc (fits ts s) (fits_one ts a) (fits_one ts b)
  where
    assoc : (x y z : Bool) → (x || (y || z)) ≡ ((x || y) || z)
    assoc true y z = refl
    assoc false y z = refl

next_append : (ss rs : List Terminal) (ts : List Lexeme) → next_in (ss ++ rs) ts ≡ (next_in ss ts || next_in rs ts)
next_append ss rs [] = refl
next_append ss rs (t ∷ ts) = fits_append (t ∷ ts) ss rs

-- an operation stands next where its word does
pub operation_next : (t : Lexeme) (ts : List Lexeme) → next_in (words_of operation_words) (t ∷ ts) ≡ (eqb (kind_code t.kind) (kind_code Word) && is_some (entry operation_words t.text))
operation_next t ts = word_next operation_words t ts

-- so does a longer terminator
pub longer_next : (t : Lexeme) (ts : List Lexeme) → next_in (words_of terminator_words) (t ∷ ts) ≡ (eqb (kind_code t.kind) (kind_code Word) && is_some (entry terminator_words t.text))
longer_next t ts = word_next terminator_words t ts

-- what may stand inside a block begins with the word of an operation
pub inside_begins : (defs : Definitions) (ts : List Lexeme) → opens (form_at defs Inside) ts ≡ next_in (words_of operation_words) ts
unfolding operation
inside_begins defs ts = ap (λ (ss : List Terminal). next_in ss ts) (append-nil (words_of operation_words))

-- what may end one begins with the word of a terminator
pub last_begins : (defs : Definitions) (ts : List Lexeme) → opens (form_at defs Last) ts ≡ (next_in (words_of terminator_words) ts || next_in (this Word (codes "unreachable") ∷ []) ts)
unfolding terminator
last_begins defs ts =
    let other : List Terminal = this Word (codes "unreachable") ∷ [] in
    ap (λ (ss : List Terminal). next_in ss ts) (append-nil (words_of terminator_words ++ other)) ∙ next_append (words_of terminator_words) other ts
