-- Tokens that are laid out from their texts are these tokens, and join.
use Rattle.std.proofs.Common.{◌≡◌, ℕ, true, false, ◌||◌, List, [], ◌∷◌, ◌++◌, Some, refl, ap, ◌∙◌, subst, inl, inr}
use Rattle.std.specs.Prelude.{map, codes}
use Rattle.std.specs.List.{AllByRecursion}
use Rattle.std.proofs.lemmas.Bool.{and_parts, and_from}
use Rattle.text_forms.specs.Form.{Lexeme, texts, same_text, is_one_of}
use Rattle.text_forms.specs.Lexical.{kind_of, table, Lexes}
use Rattle.text_forms.proofs.Begins.{test, or_true, or_right}
use Rattle.text_forms.proofs.Tokens.{is_text}
use Rattle.text_lex.specs.Layout.{Piece, lexeme, text_of, tokens_of, AreTokens, is_mark, begins_quoted, closed, bang, open_, left_by, may_stand, joins, end_of}
use Rattle.text_lex.specs.KeptText.{token_of, IsToken, AreLexed, no_space_before, no_space_behind, is_node, touches, between, kept_behind, kept_pieces, line_pieces}
use Rattle.text_lex.proofs.Layouts.{pieces_lexed, joins-from, joins_any, mark_stands}
use Rattle.text_lex.proofs.Lexed.{tokens_again, lexed_are_tokens}

-- ---- a token

pub token_text : (w : List ℕ) → (token_of w).text ≡ w
unfolding token_of
token_text w = refl

pub token_kind : (w : List ℕ) → IsToken w → kind_of (token_of w).text ≡ Some (token_of w).kind
unfolding token_of
token_kind w h = rw h.1 refl

-- ---- the text, one token at a time

pub touching_text : (v w : List ℕ) (ws : List (List ℕ)) → touches v w ≡ true → text_of (kept_behind v (w ∷ ws)) ≡ w ++ text_of (kept_behind w ws)
unfolding token_of
touching_text v w ws y = rw y refl

pub parted_text : (v w : List ℕ) (ws : List (List ℕ)) → touches v w ≡ false → text_of (kept_behind v (w ∷ ws)) ≡ 32 ∷ (w ++ text_of (kept_behind w ws))
unfolding token_of
parted_text v w ws n = rw n refl

pub kept_text : (w : List ℕ) (ws : List (List ℕ)) → text_of (kept_pieces (w ∷ ws)) ≡ w ++ text_of (kept_behind w ws)
unfolding token_of
kept_text w ws = refl

pub line_text : (w : List ℕ) (ws : List (List ℕ)) → same_text (codes "=") w ≡ false → text_of (line_pieces (w ∷ ws)) ≡ w ++ (32 ∷ text_of (line_pieces ws))
unfolding token_of
line_text w ws n = rw n refl

pub line_equal_text : (w : List ℕ) (ws : List (List ℕ)) → same_text (codes "=") w ≡ true → text_of (line_pieces (w ∷ ws)) ≡ w ++ (32 ∷ text_of (kept_pieces ws))
unfolding token_of
line_equal_text w ws y = rw y refl

-- ---- which tokens

tokens_between : (v w : List ℕ) (ps : List Piece) → tokens_of (between v w ++ ps) ≡ tokens_of ps
tokens_between v w ps = elim (test (touches v w)) [ inl y ↦ rw y refl | inr n ↦ rw n refl ]

kept_behind_tokens : (v : List ℕ) (ws : List (List ℕ)) → tokens_of (kept_behind v ws) ≡ map token_of ws
kept_behind_tokens v [] = refl
kept_behind_tokens v (w ∷ ws) = tokens_between v w (lexeme (token_of w) ∷ kept_behind w ws) ∙ ap (λ (ts : List Lexeme). token_of w ∷ ts) (kept_behind_tokens w ws)

pub kept_tokens : (ws : List (List ℕ)) → tokens_of (kept_pieces ws) ≡ map token_of ws
kept_tokens [] = refl
kept_tokens (w ∷ ws) = ap (λ (ts : List Lexeme). token_of w ∷ ts) (kept_behind_tokens w ws)

pub line_tokens : (ws : List (List ℕ)) → tokens_of (line_pieces ws) ≡ map token_of ws
line_tokens [] = refl
line_tokens (w ∷ ws) = elim (test (same_text (codes "=") w)) [
  | inl y ↦ rw y (ap (λ (ts : List Lexeme). token_of w ∷ ts) (kept_tokens ws))
  | inr n ↦ rw n (ap (λ (ts : List Lexeme). token_of w ∷ ts) (line_tokens ws))
]

-- ---- that they are tokens

are_between : (v w : List ℕ) (ps : List Piece) → AreTokens ps → AreTokens (between v w ++ ps)
are_between v w ps h = elim (test (touches v w)) [ inl y ↦ rw y h | inr n ↦ rw n h ]

are_behind : (v : List ℕ) (ws : List (List ℕ)) → AllByRecursion IsToken ws → AreTokens (kept_behind v ws)
are_behind v [] h = tt
are_behind v (w ∷ ws) h = are_between v w (lexeme (token_of w) ∷ kept_behind w ws) (token_kind w h.0, are_behind w ws h.1)

pub kept_are : (ws : List (List ℕ)) → AllByRecursion IsToken ws → AreTokens (kept_pieces ws)
kept_are [] h = tt
kept_are (w ∷ ws) h = (token_kind w h.0, are_behind w ws h.1)

pub line_are : (ws : List (List ℕ)) → AllByRecursion IsToken ws → AreTokens (line_pieces ws)
line_are [] h = tt
line_are (w ∷ ws) h = elim (test (same_text (codes "=") w)) [
  | inl y ↦ rw y (token_kind w h.0, kept_are ws h.1)
  | inr n ↦ rw n (token_kind w h.0, line_are ws h.1)
]

-- ---- that they join

-- what holds for each of these texts
among : (P : List ℕ → Type 0) (vs : List (List ℕ)) (w : List ℕ) → AllByRecursion P vs → is_one_of vs w ≡ true → P w
among P [] w a h = absurd cc
among P (v ∷ vs) w a h = elim (or_true (same_text v w) (is_one_of vs w) h) [
  | inl i ↦ subst P (is_text v w i) a.0
  | inr i ↦ among P vs w a.1 i
]

closes_mark : (w : List ℕ) → is_one_of no_space_before w ≡ true → is_mark (token_of w).kind ≡ true
unfolding token_of table
closes_mark w h = among (λ v. is_mark (token_of v).kind ≡ true) no_space_before w (refl, (refl, (refl, (refl, (refl, (refl, tt)))))) h

brace_mark : (w : List ℕ) → same_text (codes "{") w ≡ true → is_mark (token_of w).kind ≡ true
unfolding token_of table
brace_mark w h = subst (λ (v : List ℕ). is_mark (token_of v).kind ≡ true) (is_text (codes "{") w h) refl

opens_left : (v : List ℕ) → is_one_of no_space_behind v ≡ true → left_by (token_of v).kind ≡ closed
unfolding token_of table
opens_left v h = among (λ w. left_by (token_of w).kind ≡ closed) no_space_behind v (refl, (refl, (refl, (refl, tt)))) h

bang_left : (v : List ℕ) → same_text (codes "!") v ≡ true → left_by (token_of v).kind ≡ bang
unfolding token_of table
bang_left v h = subst (λ (w : List ℕ). left_by (token_of w).kind ≡ bang) (is_text (codes "!") v h) refl

quoted_stands : (w : List ℕ) → begins_quoted w ≡ true → may_stand bang (token_of w) ≡ true
unfolding token_of
quoted_stands w h = or_right (is_mark (token_of w).kind) (begins_quoted w) h

node_stands : (v w : List ℕ) → is_node v w ≡ true → may_stand (left_by (token_of v).kind) (token_of w) ≡ true
node_stands v w h =
    let a = and_parts (same_text (codes "!") v) (begins_quoted w || same_text (codes "{") w) h in
    rw (bang_left v a.0) (elim (or_true (begins_quoted w) (same_text (codes "{") w) a.1) [
      | inl q ↦ quoted_stands w q
      | inr i ↦ mark_stands bang (token_of w) (brace_mark w i)
    ])

-- a neighbour that touches may stand there
touching_stands : (v w : List ℕ) → touches v w ≡ true → may_stand (left_by (token_of v).kind) (token_of w) ≡ true
unfolding touches
touching_stands v w h = elim (or_true (is_one_of no_space_before w) (is_one_of no_space_behind v || is_node v w) h) [
  | inl c ↦ mark_stands (left_by (token_of v).kind) (token_of w) (closes_mark w c)
  | inr g ↦ elim (or_true (is_one_of no_space_behind v) (is_node v w) g) [
    | inl o ↦ rw (opens_left v o) refl
    | inr n ↦ node_stands v w n
  ]
]

between_joins : (v w : List ℕ) (ps : List Piece) → joins (left_by (token_of w).kind) ps ≡ true → joins (left_by (token_of v).kind) (between v w ++ (lexeme (token_of w) ∷ ps)) ≡ true
between_joins v w ps h = elim (test (touches v w)) [
  | inl y ↦ rw y (and_from _ _ (touching_stands v w y) h)
  | inr n ↦ rw n h
]

behind_joins : (v : List ℕ) (ws : List (List ℕ)) → joins (left_by (token_of v).kind) (kept_behind v ws) ≡ true
behind_joins v [] = refl
behind_joins v (w ∷ ws) = between_joins v w (kept_behind w ws) (behind_joins w ws)

pub kept_joins : (ws : List (List ℕ)) → joins closed (kept_pieces ws) ≡ true
kept_joins [] = refl
kept_joins (w ∷ ws) = behind_joins w ws

pub line_joins : (ws : List (List ℕ)) → joins closed (line_pieces ws) ≡ true
line_joins [] = refl
line_joins (w ∷ ws) = elim (test (same_text (codes "=") w)) [
  | inl y ↦ rw y (kept_joins ws)
  | inr n ↦ rw n (line_joins ws)
]

-- and what may stand behind a token that goes on may stand behind them
pub kept_then : (ws : List (List ℕ)) (ps : List Piece) → joins open_ ps ≡ true → joins closed (kept_pieces ws ++ ps) ≡ true
kept_then ws ps h = joins-from closed (kept_pieces ws) ps (kept_joins ws) (joins_any (end_of closed (kept_pieces ws)) ps h)

pub line_then : (ws : List (List ℕ)) (ps : List Piece) → joins open_ ps ≡ true → joins closed (line_pieces ws ++ ps) ≡ true
line_then ws ps h = joins-from closed (line_pieces ws) ps (line_joins ws) (joins_any (end_of closed (line_pieces ws)) ps h)

-- ---- the printed text has the kept tokens

lexed_pieces : (ps : List Piece) (ts : List Lexeme) → AreTokens ps → joins closed ps ≡ true → tokens_of ps ≡ ts → Lexes (text_of ps) ts
lexed_pieces ps ts a j e = subst (λ (us : List Lexeme). Lexes (text_of ps) us) e (pieces_lexed ps a j)

pub kept_lexed : (ts : List Lexeme) → AreLexed ts → Lexes (text_of (kept_pieces (texts ts))) ts
kept_lexed ts h =
    let ws = texts ts in
    lexed_pieces (kept_pieces ws) ts (kept_are ws (lexed_are_tokens ts h)) (kept_joins ws) (kept_tokens ws ∙ tokens_again ts h)

pub line_lexed : (ts : List Lexeme) → AreLexed ts → Lexes (text_of (line_pieces (texts ts))) ts
line_lexed ts h =
    let ws = texts ts in
    lexed_pieces (line_pieces ws) ts (line_are ws (lexed_are_tokens ts h)) (line_joins ws) (line_tokens ws ∙ tokens_again ts h)
