-- What is kept is what stands in the text.
use Rattle.std.proofs.Common.{◌≡◌, ℕ, Bool, List, [], ◌∷◌, ◌++◌, codes, Option, Some, None, sym, ap, ◌∙◌, inl, inr}
use Rattle.std.proofs.lemmas.List.{map-append}
use Rattle.std.proofs.lemmas.Option.{cond_some}
use Rattle.text_forms.specs.declared.TokenKind.{TokenKind}
use Rattle.text_forms.specs.declared.TokenKind.TheVariants.{Quoted, Word, Number, Metadata, AttributeGroup, Bang, Equal, LeftParen, RightParen, LeftBrace, RightBrace}
use Rattle.text_forms.specs.Combined.{or_none}
use Rattle.text_forms.specs.Form.{Lexeme, Form, Stops, one_such, is_none_of, enclosed, up_to, either, mapped, many, Spells, InOrder, IfThere, texts}
use Rattle.text_forms.specs.Kept.{kept_one, kept_token, kept_such, perhaps, in_parens, in_braces, kept_word, kept_unsigned, kept_numbered, kept_string, kept_piece, kept_run, is_unsigned, is_numbered, is_named, metadata_node, attachment, attachments, kept_behind_comma}
use Rattle.text_forms.specs.Lexical.{LexesTo, here, space, comment, token}
use Rattle.text_forms.specs.Nested.{concat, joined}
use Rattle.kept_runs.specs.Verbatim.{AreLexed, Verbatim}

-- ---- parts of what is lexed

texts_joined : (x y : List Lexeme) → texts (x ++ y) ≡ texts x ++ texts y
texts_joined x y = map-append (λ (t : Lexeme). t.text) x y

lexed_parts : (x y : List Lexeme) → AreLexed (x ++ y) → AreLexed x × AreLexed y
lexed_parts [] y h = (tt, h)
lexed_parts (t ∷ x) y h = let p = lexed_parts x y h.1 in ((h.0, p.0), p.1)

lexed_as : (ts us : List Lexeme) → ts ≡ us → AreLexed ts → AreLexed us
lexed_as ts us e h = rw e at h

-- the tokens of a text are lexed
pub are_lexed : (text : List ℕ) (ts : List Lexeme) (rest : List ℕ) → LexesTo text ts rest → AreLexed ts
are_lexed text ts rest here = tt
are_lexed text ts rest (space c s l) = are_lexed _ ts rest l
are_lexed text ts rest (comment c s l) = are_lexed _ ts rest l
are_lexed text ts rest (token kind word h l) = (h.token, are_lexed _ _ rest l)

-- ---- single tokens

pub verbatim_one : (k : TokenKind) → Verbatim (kept_one k)
verbatim_one k = record { says = λ kept ts h s. sym s.1 ∙ sym (ap texts s.2) }

pub verbatim_one_such : (k : TokenKind) (p : List ℕ → Bool) → Verbatim (mapped (λ w. w ∷ []) (one_such k p))
verbatim_one_such k p = record { says = λ kept ts h s. sym s.1 ∙ sym (ap texts s.2.0) }

pub verbatim_token : (k : TokenKind) (w : List ℕ) → Verbatim (kept_token k w)
verbatim_token k w = record { says = λ kept ts h s. sym s.1 ∙ sym (ap texts s.2) }

pub verbatim_such : (k : TokenKind) (p : List ℕ → Bool) → Verbatim (kept_such k p)
verbatim_such k p = record { says = λ kept ts h s. sym (cond_some (p s.0) (s.0 ∷ []) kept s.1).1 ∙ sym (ap texts s.2) }

-- ---- one behind another

both : (f g : Form (List (List ℕ))) → Verbatim f → Verbatim g → (a b : List (List ℕ)) (x y ts : List Lexeme) → AreLexed ts → ts ≡ x ++ y → Spells f a x → Spells g b y → a ++ b ≡ texts ts
both f g vf vg a b x y ts h e sx sy =
    let p = lexed_parts x y (lexed_as ts (x ++ y) e h) in
    ap (λ (l : List (List ℕ)). l ++ b) (vf.says a x p.0 sx) ∙ ap (λ (l : List (List ℕ)). texts x ++ l) (vg.says b y p.1 sy) ∙ sym (ap texts e ∙ texts_joined x y)

pub verbatim_joined : (f g : Form (List (List ℕ))) → Verbatim f → Verbatim g → Verbatim (joined f g)
verbatim_joined f g vf vg = record { says = λ kept ts h s. sym s.1 ∙ both f g vf vg s.0.0 s.0.1 s.2.0 s.2.1 ts h s.2.2 s.2.3 s.2.4 }

pub verbatim_behind_comma : (f : Form (List (List ℕ))) → Verbatim f → Verbatim (kept_behind_comma f)
verbatim_behind_comma f vf =
    record { says = λ kept ts h s. sym s.1 ∙ ap (λ (l : List (List ℕ)). s.0.0 ∷ l) (vf.says s.0.1 s.2.0 (lexed_as ts _ s.2.1 h).1 s.2.2) ∙ sym (ap texts s.2.1) }

-- ---- one or the other

pub verbatim_either : (f g : Form (List (List ℕ))) → Verbatim f → Verbatim g → Verbatim (either f g)
verbatim_either f g vf vg = record { says = λ kept ts h s. elim s [ inl x ↦ vf.says kept ts h x | inr y ↦ vg.says kept ts h y ] }

pub verbatim_perhaps : (f : Form (List (List ℕ))) → Verbatim f → Verbatim (perhaps f)
verbatim_perhaps f vf = record { says = λ kept ts h s. by s.0 kept ts h s.1 s.2 }
  where
    by : (o : Option (List (List ℕ))) (kept : List (List ℕ)) (ts : List Lexeme) → AreLexed ts → or_none o ≡ kept → IfThere (Spells f) o ts → kept ≡ texts ts
    by None kept ts h e s = sym e ∙ sym (ap texts s)
    by (Some a) kept ts h e s = sym e ∙ vf.says a ts h s

pub verbatim_each : (f : Form (List (List ℕ))) → Verbatim f → Verbatim (mapped concat (many f))
verbatim_each f vf = record { says = λ kept ts h s. sym s.1 ∙ by s.0 ts h s.2 }
  where
    by : (xs : List (List (List ℕ))) (ts : List Lexeme) → AreLexed ts → InOrder (Spells f) xs ts → concat xs ≡ texts ts
    by [] ts h e = sym (ap texts e)
    by (a ∷ more) ts h s =
        let p = lexed_parts s.0 s.1 (lexed_as ts (s.0 ++ s.1) s.2 h) in
        ap (λ (l : List (List ℕ)). l ++ concat more) (vf.says a s.0 p.0 s.3) ∙ ap (λ (l : List (List ℕ)). texts s.0 ++ l) (by more s.1 p.1 s.4) ∙ sym (ap texts s.2 ∙ texts_joined s.0 s.1)

-- ---- balanced lists

pub verbatim_up_to : (st : Stops) → Verbatim (up_to st)
verbatim_up_to st = record { says = λ kept ts h s. s.1 }

pub verbatim_enclosed : (o c : TokenKind) → Verbatim (mapped texts (enclosed o c))
verbatim_enclosed o c = record { says = λ kept ts h s. sym s.1 ∙ ap texts s.2.5 }

pub verbatim_parens : Verbatim in_parens
verbatim_parens = verbatim_enclosed LeftParen RightParen

pub verbatim_braces : Verbatim in_braces
verbatim_braces = verbatim_enclosed LeftBrace RightBrace

-- ---- runs

verbatim_word : (ws : List (List ℕ)) → Verbatim (kept_word ws)
verbatim_word ws = verbatim_joined (mapped (λ w. w ∷ []) (one_such Word (is_none_of ws))) (perhaps in_parens) (verbatim_one_such Word (is_none_of ws)) (verbatim_perhaps in_parens verbatim_parens)

verbatim_numbered : (w : List ℕ) → Verbatim (kept_numbered w)
verbatim_numbered w =
    let number = either kept_unsigned in_parens in
    verbatim_joined (kept_token Word w) number (verbatim_token Word w) (verbatim_either kept_unsigned in_parens (verbatim_one_such Number is_unsigned) verbatim_parens)

verbatim_string : Verbatim kept_string
verbatim_string =
    let value = joined (kept_one Equal) (kept_one Quoted) in
    verbatim_joined (kept_one Quoted) (perhaps value) (verbatim_one Quoted) (verbatim_perhaps value (verbatim_joined (kept_one Equal) (kept_one Quoted) (verbatim_one Equal) (verbatim_one Quoted)))

pub verbatim_piece : (ws : List (List ℕ)) → Verbatim (kept_piece ws)
unfolding kept_piece
verbatim_piece ws =
    verbatim_either (kept_word ws) _ (verbatim_word ws)
    (verbatim_either (kept_numbered (codes "align")) _ (verbatim_numbered (codes "align"))
    (verbatim_either (kept_numbered (codes "cc")) _ (verbatim_numbered (codes "cc"))
    (verbatim_either kept_string (kept_one AttributeGroup) verbatim_string (verbatim_one AttributeGroup))))

pub verbatim_run : (ws : List (List ℕ)) → Verbatim (kept_run ws)
unfolding kept_run
verbatim_run ws = verbatim_each (kept_piece ws) (verbatim_piece ws)

-- ---- attachments

pub verbatim_node : Verbatim metadata_node
unfolding metadata_node
verbatim_node = verbatim_either (kept_such Metadata is_numbered) (joined (kept_one Bang) in_braces) (verbatim_such Metadata is_numbered) (verbatim_joined (kept_one Bang) in_braces (verbatim_one Bang) verbatim_braces)

pub verbatim_attachment : Verbatim attachment
unfolding attachment
verbatim_attachment = verbatim_joined (kept_such Metadata is_named) metadata_node (verbatim_such Metadata is_named) verbatim_node

pub verbatim_attachments : Verbatim attachments
unfolding attachments
verbatim_attachments = verbatim_each attachment verbatim_attachment

-- each behind a comma
pub verbatim_comma_attachments : Verbatim (mapped concat (many (kept_behind_comma attachment)))
verbatim_comma_attachments = verbatim_each (kept_behind_comma attachment) (verbatim_behind_comma attachment verbatim_attachment)
