-- A printed text has the printed tokens.
use Rattle.std.proofs.Common.{◌≡◌, ℕ, Bool, true, false, ◌&&◌, ◌||◌, eqb, List, [], ◌∷◌, ◌++◌, Some, refl, sym, ap, ◌∙◌, subst, append_assoc, ◌⊎◌, inl, inr}
use Rattle.std.proofs.lemmas.Bool.{and_parts, and_from, eqb-true}
use Rattle.text_forms.specs.declared.TokenKind.TheVariants.{Bang}
use Rattle.text_forms.specs.Form.{Lexeme, kind_code}
use Rattle.text_forms.specs.Lexical.{Lexes, here, space, token, Longest, kind_of, is_space}
use Rattle.text_lex.specs.Layout.{Piece, gap, lexeme, text_of, tokens_of, AreTokens, is_mark, begins_quoted, Before, closed, bang, open_, left_by, spaced, may_stand, joins, end_of}
use Rattle.text_lex.specs.Neighbours.{all_of, separates}
use Rattle.text_lex.proofs.Marks.{mark_is, bang_text}
use Rattle.text_lex.proofs.Neighbours.{parted, alone, ended, last, bang_quote, space_separates, tab_separates, feed_separates, return_separates}
use Rattle.text_forms.proofs.Begins.{test, or_true}
use Rattle.text_forms.proofs.Tokens.{same_kind}

space_apart : (c : ℕ) → is_space c ≡ true → separates c ≡ true
space_apart c h = elim (or_true (eqb c 32) _ h) [
  | inl i ↦ rw (eqb-true c 32 i) space_separates
  | inr h2 ↦ elim (or_true (eqb c 9) _ h2) [
    | inl i ↦ rw (eqb-true c 9 i) tab_separates
    | inr h3 ↦ elim (or_true (eqb c 10) _ h3) [ inl i ↦ rw (eqb-true c 10 i) feed_separates | inr i ↦ rw (eqb-true c 13 i) return_separates ]
  ]
]

-- the text is at its end, or goes on with a byte that separates
data Apart : List ℕ → Type 0 where
  at_end : Apart []
  by_byte : (c : ℕ) (rest : List ℕ) → separates c ≡ true → Apart (c ∷ rest)

-- a mark, or what begins with one
mark_apart : (t : Lexeme) (rest : List ℕ) → is_mark t.kind ≡ true → kind_of t.text ≡ Some t.kind → Apart (t.text ++ rest)
mark_apart t rest y k = let m = mark_is t.kind t.text y k in subst (λ (s : List ℕ). Apart (s ++ rest)) (sym m.is) (by_byte m.byte rest m.apart)

space_first : (c : ℕ) (s rest : List ℕ) → (is_space c && all_of is_space s) ≡ true → Apart (c ∷ (s ++ rest))
space_first c s rest h = by_byte c (s ++ rest) (space_apart c ((and_parts (is_space c) (all_of is_space s) h).0))

-- behind a token that is no mark and no `!`
apart : (ps : List Piece) → AreTokens ps → joins open_ ps ≡ true → Apart (text_of ps)
apart [] a j = at_end
apart (gap [] ∷ ps) a j = apart ps a j
apart (gap (c ∷ s) ∷ ps) a j = space_first c s (text_of ps) ((and_parts (is_space c && all_of is_space s) (joins closed ps) j).0)
apart (lexeme t ∷ ps) a j = mark_apart t (text_of ps) ((and_parts (is_mark t.kind) (joins (left_by t.kind) ps) j).0) a.0

-- the text goes on with a quote
data AtQuote : List ℕ → Type 0 where
  by_quote : (rest : List ℕ) → AtQuote (34 ∷ rest)

quoted : (s rest : List ℕ) → begins_quoted s ≡ true → AtQuote (s ++ rest)
quoted [] rest h = absurd cc
quoted (c ∷ s) rest h = rw (eqb-true c 34 h) (by_quote (s ++ rest))

-- behind a `!` by itself
apart_or_quoted : (ps : List Piece) → AreTokens ps → joins bang ps ≡ true → Apart (text_of ps) ⊎ AtQuote (text_of ps)
apart_or_quoted [] a j = inl at_end
apart_or_quoted (gap [] ∷ ps) a j = apart_or_quoted ps a j
apart_or_quoted (gap (c ∷ s) ∷ ps) a j = inl (space_first c s (text_of ps) ((and_parts (is_space c && all_of is_space s) (joins closed ps) j).0))
apart_or_quoted (lexeme t ∷ ps) a j = elim (or_true (is_mark t.kind) (begins_quoted t.text) ((and_parts (is_mark t.kind || begins_quoted t.text) (joins (left_by t.kind) ps) j).0)) [
  | inl y ↦ inl (mark_apart t (text_of ps) y a.0)
  | inr q ↦ inr (quoted t.text (text_of ps) q)
]

longest : (t : Lexeme) (rest : List ℕ) → kind_of t.text ≡ Some t.kind → Apart rest → Longest (t.text ++ rest) t.kind t.text rest
longest t rest k at_end = last t.kind t.text k
longest t rest k (by_byte c more s) = parted t.kind t.text more c k s

-- no token begins with `!"`
bang_quoted : (w rest : List ℕ) → kind_of w ≡ Some Bang → AtQuote rest → Longest (w ++ rest) Bang w rest
bang_quoted w rest k (by_quote more) =
    let e = bang_text w k in
    ended Bang w more 34 k (rw e bang_quote)

bang_longest : (t : Lexeme) (ps : List Piece) → t.kind ≡ Bang → kind_of t.text ≡ Some t.kind → AreTokens ps → joins bang ps ≡ true → Longest (t.text ++ text_of ps) t.kind t.text (text_of ps)
bang_longest t ps b k a j = elim (apart_or_quoted ps a j) [
  | inl h ↦ longest t (text_of ps) k h
  | inr h ↦ rw b (bang_quoted t.text (text_of ps) (rw b at k) h)
]

-- a token that is no mark
other_longest : (t : Lexeme) (ps : List Piece) → is_mark t.kind ≡ false → kind_of t.text ≡ Some t.kind → AreTokens ps → joins (left_by t.kind) ps ≡ true → Longest (t.text ++ text_of ps) t.kind t.text (text_of ps)
other_longest t ps n k a j = elim (test (eqb (kind_code t.kind) (kind_code Bang))) [
  | inl b ↦ bang_longest t ps (same_kind t.kind Bang b) k a (rw (n, b) at j)
  | inr o ↦ longest t (text_of ps) k (apart ps a (rw (n, o) at j))
]

spaces : (s rest : List ℕ) (ts : List Lexeme) → all_of is_space s ≡ true → Lexes rest ts → Lexes (s ++ rest) ts
spaces [] rest ts h r = r
spaces (c ∷ s) rest ts h r =
    let a = and_parts (is_space c) (all_of is_space s) h in
    space c a.0 (spaces s rest ts a.1 r)

pieces_from : (b : Before) (ps : List Piece) → AreTokens ps → joins b ps ≡ true → Lexes (text_of ps) (tokens_of ps)
pieces_from b [] a j = here
pieces_from b (gap s ∷ ps) a j =
    let h = and_parts (all_of is_space s) (joins (spaced b s) ps) j in
    spaces s (text_of ps) (tokens_of ps) h.0 (pieces_from (spaced b s) ps a h.1)
pieces_from b (lexeme t ∷ ps) a j =
    let h = and_parts (may_stand b t) (joins (left_by t.kind) ps) j in
    token t.kind t.text (elim (test (is_mark t.kind)) [
      | inl y ↦ alone t.kind t.text (text_of ps) a.0 ((mark_is t.kind t.text y a.0).whole)
      | inr n ↦ other_longest t ps n a.0 a.1 h.1
    ]) (pieces_from (left_by t.kind) ps a.1 h.1)

-- The text of pieces that join has the tokens of the pieces.
pub pieces_lexed : (ps : List Piece) → AreTokens ps → joins closed ps ≡ true → Lexes (text_of ps) (tokens_of ps)
pieces_lexed ps a j = pieces_from closed ps a j

-- ---- pieces behind one another

pub text_of-append : (ps qs : List Piece) → text_of (ps ++ qs) ≡ text_of ps ++ text_of qs
text_of-append [] qs = refl
text_of-append (gap s ∷ ps) qs = ap (λ (w : List ℕ). s ++ w) (text_of-append ps qs) ∙ sym (append_assoc s (text_of ps) (text_of qs))
text_of-append (lexeme t ∷ ps) qs = ap (λ (w : List ℕ). t.text ++ w) (text_of-append ps qs) ∙ sym (append_assoc t.text (text_of ps) (text_of qs))

pub tokens_of-append : (ps qs : List Piece) → tokens_of (ps ++ qs) ≡ tokens_of ps ++ tokens_of qs
tokens_of-append [] qs = refl
tokens_of-append (gap s ∷ ps) qs = tokens_of-append ps qs
tokens_of-append (lexeme t ∷ ps) qs = ap (λ (ts : List Lexeme). t ∷ ts) (tokens_of-append ps qs)

pub AreTokens-append : (ps qs : List Piece) → AreTokens ps → AreTokens qs → AreTokens (ps ++ qs)
AreTokens-append [] qs a b = b
AreTokens-append (gap s ∷ ps) qs a b = AreTokens-append ps qs a b
AreTokens-append (lexeme t ∷ ps) qs a b = (a.0, AreTokens-append ps qs a.1 b)

and_assoc : (x y z : Bool) → (x && (y && z)) ≡ ((x && y) && z)
and_assoc true y z = refl
and_assoc false y z = refl

pub joins-append : (b : Before) (ps qs : List Piece) → joins b (ps ++ qs) ≡ (joins b ps && joins (end_of b ps) qs)
joins-append b [] qs = refl
joins-append b (gap s ∷ ps) qs = ap (λ (x : Bool). all_of is_space s && x) (joins-append (spaced b s) ps qs) ∙ and_assoc (all_of is_space s) _ _
joins-append b (lexeme t ∷ ps) qs = ap (λ (x : Bool). may_stand b t && x) (joins-append (left_by t.kind) ps qs) ∙ and_assoc (may_stand b t) _ _

pub joins-from : (b : Before) (ps qs : List Piece) → joins b ps ≡ true → joins (end_of b ps) qs ≡ true → joins b (ps ++ qs) ≡ true
joins-from b ps qs h g = joins-append b ps qs ∙ and_from (joins b ps) (joins (end_of b ps) qs) h g

pub end_of-append : (b : Before) (ps qs : List Piece) → end_of b (ps ++ qs) ≡ end_of (end_of b ps) qs
end_of-append b [] qs = refl
end_of-append b (gap s ∷ ps) qs = end_of-append (spaced b s) ps qs
end_of-append b (lexeme t ∷ ps) qs = end_of-append (left_by t.kind) ps qs

pub mark_stands : (b : Before) (t : Lexeme) → is_mark t.kind ≡ true → may_stand b t ≡ true
mark_stands closed t y = refl
mark_stands bang t y = rw y refl
mark_stands open_ t y = y

-- What may stand behind a token that goes on may stand behind anything.
pub joins_any : (b : Before) (ps : List Piece) → joins open_ ps ≡ true → joins b ps ≡ true
joins_any b [] h = refl
joins_any b (gap [] ∷ ps) h = joins_any b ps h
joins_any b (gap (c ∷ s) ∷ ps) h = h
joins_any b (lexeme t ∷ ps) h =
    let a = and_parts (is_mark t.kind) (joins (left_by t.kind) ps) h in
    and_from (may_stand b t) (joins (left_by t.kind) ps) (mark_stands b t a.0) a.1

pub joins_closed : (ps : List Piece) → joins open_ ps ≡ true → joins closed ps ≡ true
joins_closed ps h = joins_any closed ps h
