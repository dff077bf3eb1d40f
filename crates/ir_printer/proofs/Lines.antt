-- What is known of kept lines.
use Rattle.std.proofs.Common.{◌≡◌, ℕ, Bool, true, false, eqb, List, [], ◌∷◌, ◌++◌, Some, refl, sym, ap, ◌∙◌, subst, ◌⊎◌, inl, inr}
use Rattle.std.specs.Prelude.{map, codes, filter}
use Rattle.std.specs.List.{AllByRecursion}
use Rattle.std.proofs.lemmas.Bool.{eq-eqb}
use Rattle.text_forms.specs.declared.TokenKind.{TokenKind}
use Rattle.text_forms.specs.declared.TokenKind.TheVariants.{Word, Comdat, Metadata, Equal, Bang}
use Rattle.text_forms.specs.declared.Part.{Part}
use Rattle.text_forms.specs.declared.Part.TheVariants.{One, Run}
use Rattle.text_forms.specs.declared.Class.TheVariants.{Byte, NameStart, NamePart, NotQuote}
use Rattle.text_forms.specs.Form.{Lexeme, Form, Spells, kind_code, same_text, ahead, mapped}
use Rattle.text_forms.specs.Kept.{kept_one, kept_token, perhaps, in_braces}
use Rattle.text_forms.specs.Lexical.{kind_of, kind_by, spells, table}
use Rattle.text_forms.specs.Nested.{joined}
use Rattle.text_forms.proofs.Begins.{test}
use Rattle.text_forms.proofs.Tokens.{is_text}
use Rattle.text_lex.specs.KeptText.{token_of, IsToken}
use Rattle.ir_types.specs.Tree.{KeptTexts}
use Rattle.ir_types.specs.ItemForms.{equal_string, target_line, attribute_group, comdat, metadata}
use Rattle.ir_shape.specs.Shape.{IsKept, head_form, attributes_form}
use Rattle.ir_printer_types.specs.Pieces.{token}
use Rattle.ir_printer.specs.Print.{begins_comdat, is_comdat}

-- ---- a token's first byte

-- the rows of a kind
rows_of : TokenKind → List (TokenKind × List Part) → List (TokenKind × List Part)
rows_of k rows = filter (λ r. eqb (kind_code r.0) (kind_code k)) rows

-- a text that one of the rows spells
abbrev IsOfRows : List (TokenKind × List Part) → List ℕ → Type 0
IsOfRows [] w = ⊥
IsOfRows (r ∷ rs) w = (spells r.1 w ≡ true) ⊎ IsOfRows rs w

of_rows : (k : TokenKind) (rows : List (TokenKind × List Part)) (w : List ℕ) → kind_by rows w ≡ Some k → IsOfRows (rows_of k rows) w
unfolding rows_of
of_rows k [] w e = absurd cc
of_rows k (r ∷ rs) w e = elim (test (spells r.1 w)) [
  | inl y ↦
      let s : Some r.0 ≡ Some k = rw y at e in
      let same : r.0 ≡ k = cc in
      let i : eqb (kind_code r.0) (kind_code k) ≡ true = eq-eqb _ _ (ap kind_code same) in
      rw i (inl y)
  | inr n ↦
      let rest = of_rows k rs w (rw n at e) in
      elim (test (eqb (kind_code r.0) (kind_code k))) [ inl i ↦ rw i (inr rest) | inr d ↦ rw d rest ]
]

begins_with : (b c : ℕ) (ps : List Part) (w : List ℕ) → spells (One (Byte b) ∷ ps) (c ∷ w) ≡ true → eqb c b ≡ true
begins_with b c ps w s = elim (test (eqb c b)) [ inl y ↦ y | inr n ↦ absurd (let t : false ≡ true = rw n at s in cc) ]

comdat_rows : rows_of Comdat table ≡ (Comdat, One (Byte 36) ∷ One NameStart ∷ Run NamePart ∷ []) ∷ (Comdat, One (Byte 36) ∷ One (Byte 34) ∷ Run NotQuote ∷ One (Byte 34) ∷ []) ∷ []
unfolding rows_of table
comdat_rows = refl

-- of a comdat's name that is `$`
comdat_begins : (w : List ℕ) → kind_of w ≡ Some Comdat → begins_comdat w ≡ true
comdat_begins w e = of_comdats w (subst (λ (rows : List (TokenKind × List Part)). IsOfRows rows w) comdat_rows (of_rows Comdat table w e))
  where
    of_comdats : (w : List ℕ) → IsOfRows ((Comdat, One (Byte 36) ∷ One NameStart ∷ Run NamePart ∷ []) ∷ (Comdat, One (Byte 36) ∷ One (Byte 34) ∷ Run NotQuote ∷ One (Byte 34) ∷ []) ∷ []) w → begins_comdat w ≡ true
    of_comdats w (inr (inr none)) = absurd none
    of_comdats [] (inl s) = absurd cc
    of_comdats [] (inr (inl s)) = absurd cc
    of_comdats (c ∷ w) (inl s) = begins_with 36 c _ w s
    of_comdats (c ∷ w) (inr (inl s)) = begins_with 36 c _ w s

-- ---- lines that begin with a word

-- a word, and what a form spells behind it
pub record BeginsWith (w : List ℕ) (f : Form KeptTexts) (xs : KeptTexts) : Type 0 where
  pub others : KeptTexts
  pub parts : w ∷ others ≡ xs
  pub rest : List Lexeme
  pub tokens : map token_of xs ≡ token Word w ∷ rest
  pub spelled : Spells f others rest

pub begins_word : (w : List ℕ) (f : Form KeptTexts) (xs : KeptTexts) → Spells (joined (kept_token Word w) f) xs (map token_of xs) → BeginsWith w f xs
begins_word w f xs h =
    let first : w ∷ [] ≡ h.0.0 = h.2.3.1 in
    record {
      others = h.0.1;
      parts = ap (λ (ys : KeptTexts). ys ++ h.0.1) first ∙ h.1;
      rest = h.2.1;
      tokens = h.2.2 ∙ ap (λ (ts : List Lexeme). ts ++ h.2.1) h.2.3.2;
      spelled = h.2.4;
    }

-- a line of the head begins with one of two words
pub head_parts : (xs : KeptTexts) → IsKept head_form xs → BeginsWith (codes "source_filename") equal_string xs ⊎ BeginsWith (codes "target") target_line xs
head_parts xs h = elim h.spelled [ inl s ↦ inl (begins_word _ _ xs s) | inr s ↦ inr (begins_word _ _ xs s) ]

-- a line of the head that is no comdat's isn't taken for one
pub head_no_comdat : (xs : KeptTexts) → IsKept head_form xs → is_comdat xs ≡ false
head_no_comdat xs h = elim (head_parts xs h) [
  | inl b ↦ subst (λ (ys : KeptTexts). is_comdat ys ≡ false) b.parts refl
  | inr b ↦ subst (λ (ys : KeptTexts). is_comdat ys ≡ false) b.parts refl
]

-- ---- lines that begin with a token of a kind

kind_again : (w : List ℕ) (k : TokenKind) → kind_of w ≡ Some k → (token_of w).kind ≡ k
unfolding token_of
kind_again w k e = rw e refl

-- the first text is that of a token of the kind
first_kind : (k : TokenKind) (f : Form KeptTexts) (xs : KeptTexts) → AllByRecursion IsToken xs → Spells (mapped (λ x. x.0 ∷ x.1) (ahead k f)) xs (map token_of xs) → (w : List ℕ) × (ws : KeptTexts) × (xs ≡ w ∷ ws) × (kind_of w ≡ Some k)
first_kind k f [] t h = absurd (let e = h.1 in cc)
first_kind k f (x ∷ xs) t h =
    let same : token_of x ≡ record { kind = k; text = h.0.0 } = let e = h.2.1 in cc in
    let kind : (token_of x).kind ≡ k = ap (λ (l : Lexeme). l.kind) same in
    let is : kind_of x ≡ Some t.0.0 = t.0.1 in
    (x, xs, refl, is ∙ ap Some (sym (kind_again x t.0.0 is) ∙ kind))

-- and a comdat's is
pub comdat_is : (xs : KeptTexts) → IsKept comdat xs → is_comdat xs ≡ true
unfolding comdat
comdat_is xs h =
    let f = first_kind Comdat (joined (kept_one Equal) (joined (kept_token Word (codes "comdat")) (kept_one Word))) xs h.tokens h.spelled in
    rw f.2 (comdat_begins f.0 f.3)

-- ---- the lines of the tail

-- the line of an attribute group
abbrev pub begins_group : KeptTexts → Bool
begins_group [] = false
begins_group (w ∷ ws) = same_text (codes "attributes") w

-- the line of an attribute group begins with its word
pub group_parts : (xs : KeptTexts) → IsKept attributes_form xs → BeginsWith (codes "attributes") attribute_group xs
group_parts xs h = begins_word _ _ xs h.spelled

-- and is taken for one
pub group_is : (xs : KeptTexts) → IsKept attributes_form xs → begins_group xs ≡ true
group_is xs h = subst (λ (ys : KeptTexts). begins_group ys ≡ true) (group_parts xs h).parts refl

metadata_no_group : (w : List ℕ) → kind_of w ≡ Some Metadata → same_text (codes "attributes") w ≡ false
unfolding table
metadata_no_group w e = elim (test (same_text (codes "attributes") w)) [
  | inr n ↦ n
  | inl y ↦ absurd (let f : kind_of (codes "attributes") ≡ Some Metadata = subst (λ (v : List ℕ). kind_of v ≡ Some Metadata) (sym (is_text (codes "attributes") w y)) e in cc)
]

-- and that of metadata isn't
pub metadata_is : (xs : KeptTexts) → IsKept metadata xs → begins_group xs ≡ false
unfolding metadata
metadata_is xs h =
    let f = first_kind Metadata (joined (kept_one Equal) (joined (perhaps (kept_token Word (codes "distinct"))) (joined (kept_one Bang) in_braces))) xs h.tokens h.spelled in
    rw f.2 (metadata_no_group f.0 f.3)
