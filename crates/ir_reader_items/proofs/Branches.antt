-- Which items a token begins.
use Rattle.std.specs.Prelude.{is_some}
use Rattle.text_forms.proofs.Tables.{word_next}
use Rattle.std.proofs.Common.{eqb, ◌&&◌, ◌≡◌, Bool, true, false, List, [], ◌∷◌, ◌++◌, ◌||◌, ℕ, refl, sym, ap, ◌∙◌}
use Rattle.text_forms.specs.declared.TokenKind.{TokenKind}
use Rattle.text_forms.specs.declared.TokenKind.TheVariants.{Word, Local, Global, Comdat, Metadata, Equal}
use Rattle.text_forms.specs.Form.{Lexeme, Form, kind_code, entry, mapped, by_word}
use Rattle.text_forms.specs.Reading.{Terminal, mark_then, any_of, fits, fits_one, words_of, next_in, opens, read}
use Rattle.ir_types.specs.TypeNodes.{TypeNode}
use Rattle.ir_types.specs.Tree.{comdat_line, metadata_line}
use Rattle.ir_types.specs.TypeForms.{memory_type}
use Rattle.ir_types.specs.Words.{item_words}
use Rattle.ir_types.specs.ItemForms.{comdat, metadata, type_definition, variable_definition}
use Rattle.ir_types.specs.Skimmed.{as_it_is, skimmed_behind, skimmed_item}

abbrev pub named : TokenKind → List Lexeme → Bool
named k ts = next_in (mark_then k (any_of Equal) ∷ []) ts

pub word_item : (m : Form (List TypeNode)) (ts : List Lexeme) → opens (by_word item_words skimmed_behind) ts ≡ true → read (skimmed_item m) ts ≡ read (by_word item_words skimmed_behind) ts
unfolding skimmed_item
word_item m ts e = rw e refl

pub comdat_item : (m : Form (List TypeNode)) (ts : List Lexeme) → opens (by_word item_words skimmed_behind) ts ≡ false → named Comdat ts ≡ true → read (skimmed_item m) ts ≡ read (mapped as_it_is (mapped comdat_line comdat)) ts
unfolding skimmed_item comdat
comdat_item m ts e f = rw (e, f) refl

pub metadata_item : (m : Form (List TypeNode)) (ts : List Lexeme) → opens (by_word item_words skimmed_behind) ts ≡ false → named Comdat ts ≡ false → named Metadata ts ≡ true → read (skimmed_item m) ts ≡ read (mapped as_it_is (mapped metadata_line metadata)) ts
unfolding skimmed_item comdat metadata
metadata_item m ts e f g = rw (e, f, g) refl

pub type_item : (m : Form (List TypeNode)) (ts : List Lexeme) → opens (by_word item_words skimmed_behind) ts ≡ false → named Comdat ts ≡ false → named Metadata ts ≡ false → named Local ts ≡ true → read (skimmed_item m) ts ≡ read (mapped as_it_is (type_definition m)) ts
unfolding skimmed_item comdat metadata type_definition
type_item m ts e f g h = rw (e, f, g, h) refl

pub variable_item : (m : Form (List TypeNode)) (ts : List Lexeme) → opens (by_word item_words skimmed_behind) ts ≡ false → named Comdat ts ≡ false → named Metadata ts ≡ false → named Local ts ≡ false → read (skimmed_item m) ts ≡ read (mapped as_it_is (variable_definition m)) ts
unfolding skimmed_item comdat metadata type_definition
variable_item m ts e f g h = rw (e, f, g, h) refl

-- ---- which begin an item

or_assoc : (a b c : Bool) → ((a || b) || c) ≡ (a || (b || c))
or_assoc true b c = refl
or_assoc false b c = refl

one_append : (ts : List Lexeme) (ss rs : List Terminal) → fits_one ts (ss ++ rs) ≡ (fits_one ts ss || fits_one ts rs)
one_append ts [] rs = refl
one_append ts (s ∷ ss) rs = ap (λ (b : Bool). fits ts s || b) (one_append ts ss rs) ∙ sym (or_assoc (fits ts s) (fits_one ts ss) (fits_one ts rs))

next_append : (ss rs : List Terminal) (ts : List Lexeme) → next_in (ss ++ rs) ts ≡ (next_in ss ts || next_in rs ts)
next_append ss rs [] = refl
next_append ss rs (t ∷ ts) = one_append (t ∷ ts) ss rs

others : List Terminal
others = mark_then Comdat (any_of Equal) ∷ mark_then Metadata (any_of Equal) ∷ mark_then Local (any_of Equal) ∷ mark_then Global (any_of Equal) ∷ []

names_begin : (ts : List Lexeme) → next_in others ts ≡ (named Comdat ts || (named Metadata ts || (named Local ts || named Global ts)))
unfolding others
names_begin ts =
    let c = mark_then Comdat (any_of Equal) in
    let m = mark_then Metadata (any_of Equal) in
    let l = mark_then Local (any_of Equal) in
    let g = mark_then Global (any_of Equal) in
    next_append (c ∷ []) (m ∷ l ∷ g ∷ []) ts
    ∙ ap (λ (b : Bool). named Comdat ts || b) (next_append (m ∷ []) (l ∷ g ∷ []) ts ∙ ap (λ (b : Bool). named Metadata ts || b) (next_append (l ∷ []) (g ∷ []) ts))

pub opens_item : (d : ℕ) (ts : List Lexeme) → opens (skimmed_item (memory_type d)) ts ≡ (opens (by_word item_words skimmed_behind) ts || (named Comdat ts || (named Metadata ts || (named Local ts || named Global ts))))
unfolding skimmed_item comdat metadata type_definition variable_definition others
opens_item d ts = next_append (words_of item_words) others ts ∙ ap (λ (b : Bool). opens (by_word item_words skimmed_behind) ts || b) (names_begin ts)

pub word_begins : (t : Lexeme) (ts : List Lexeme) → opens (by_word item_words skimmed_behind) (t ∷ ts) ≡ (eqb (kind_code t.kind) (kind_code Word) && is_some (entry item_words t.text))
word_begins t ts = word_next item_words t ts
