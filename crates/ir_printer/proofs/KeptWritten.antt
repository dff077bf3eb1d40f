-- The pieces that kept texts are printed as write what is kept.
use Rattle.std.proofs.Common.{◌≡◌, List, [], ◌∷◌, ◌++◌, refl, sym, ap, ◌∙◌, subst, append_assoc, inl, inr}
use Rattle.std.specs.Prelude.{map}
use Rattle.std.specs.List.{AllByRecursion}
use Rattle.std.proofs.lemmas.List.{append-nil}
use Rattle.text_forms.specs.Form.{Lexeme, Form, pair}
use Rattle.text_forms.specs.Lexical.{table}
use Rattle.text_forms.proofs.Begins.{test}
use Rattle.text_lex.specs.KeptText.{token_of, IsToken, touches, kept_behind, kept_pieces}
use Rattle.text_lex.specs.Layout.{Piece, AreTokens, tokens_of, closed, open_}
use Rattle.text_lex.proofs.KeptTexts.{kept_tokens, kept_are, kept_joins}
use Rattle.text_lex.proofs.Layouts.{tokens_of-append}
use Rattle.ir_types.specs.Tree.{KeptTexts}
use Rattle.ir_shape.specs.Shape.{IsKept}
use Rattle.ir_printer_types.specs.Pieces.{blank}
use Rattle.ir_printer_types.proofs.Laid.{IsLaid, IsBehind, nothing_behind, blank_laid, laid-append}
use Rattle.ir_printer_types.proofs.Says.{Says, pair_says}
use Rattle.ir_printer_types.proofs.Writes.{Writes, laid_writes, is_laid}
use Rattle.ir_printer.specs.Print.{kept_then_blank, blank_then_kept}

pub kept_says : {f : Form KeptTexts} {xs : KeptTexts} → IsKept f xs → Says f xs (map token_of xs)
kept_says h = record { spells = h.spelled }

-- ---- which tokens

pub then_blank_tokens : (xs : KeptTexts) → tokens_of (kept_then_blank xs) ≡ map token_of xs
then_blank_tokens [] = refl
then_blank_tokens (w ∷ ws) = tokens_of-append (kept_pieces (w ∷ ws)) _ ∙ append-nil _ ∙ kept_tokens (w ∷ ws)

pub blank_then_tokens : (xs : KeptTexts) → tokens_of (blank_then_kept xs) ≡ map token_of xs
blank_then_tokens [] = refl
blank_then_tokens (w ∷ ws) = kept_tokens (w ∷ ws)

pub behind_tokens : (xs : KeptTexts) → tokens_of (kept_behind [] xs) ≡ map token_of xs
behind_tokens xs = let e = kept_tokens ([] ∷ xs) in cc

-- ---- that they join

kept_laid : (xs : KeptTexts) → AllByRecursion IsToken xs → IsLaid (kept_pieces xs)
kept_laid xs h = record { tokens = kept_are xs h; joined = kept_joins xs }

pub then_blank_laid : (xs : KeptTexts) (ps : List Piece) → AllByRecursion IsToken xs → IsLaid ps → IsLaid (kept_then_blank xs ++ ps)
then_blank_laid [] ps h g = g
then_blank_laid (w ∷ ws) ps h g = rw (append_assoc (kept_pieces (w ∷ ws))) (laid-append (kept_pieces (w ∷ ws)) (blank ∷ ps) (kept_laid (w ∷ ws) h) (blank_laid g))

pub blank_then_behind : (xs : KeptTexts) → AllByRecursion IsToken xs → IsBehind (blank_then_kept xs)
blank_then_behind [] h = nothing_behind
blank_then_behind (w ∷ ws) h = blank_laid (kept_laid (w ∷ ws) h)

-- behind a token that goes on
pub behind_laid : (xs : KeptTexts) → AllByRecursion IsToken xs → IsBehind (kept_behind [] xs)
unfolding token_of table
behind_laid xs h = record { tokens = are xs h; joined = kept_joins ([] ∷ xs) }
  where
    are : (xs : KeptTexts) → AllByRecursion IsToken xs → AreTokens (kept_behind [] xs)
    are [] h = tt
    are (w ∷ ws) h = elim (test (touches [] w)) [ inl y ↦ rw y (kept_are (w ∷ ws) h) | inr n ↦ rw n (kept_are (w ∷ ws) h) ]

-- ---- that they write what is kept

written_behind : {f : Form KeptTexts} {xs : KeptTexts} (ps : List Piece) → IsKept f xs → tokens_of ps ≡ map token_of xs → IsBehind ps → Writes open_ f xs ps
written_behind {f = f} {xs = xs} ps h e l = record { says = subst (λ (ts : List Lexeme). Says f xs ts) (sym e) (kept_says h); tokens = l.tokens; joined = l.joined }

-- behind a space
pub spaced_kept : {f : Form KeptTexts} {xs : KeptTexts} → IsKept f xs → Writes open_ f xs (blank_then_kept xs)
spaced_kept {xs = xs} h = written_behind (blank_then_kept xs) h (blank_then_tokens xs) (blank_then_behind xs h.tokens)

-- behind other tokens
pub behind_kept : {f : Form KeptTexts} {xs : KeptTexts} → IsKept f xs → Writes open_ f xs (kept_behind [] xs)
behind_kept {xs = xs} h = written_behind (kept_behind [] xs) h (behind_tokens xs) (behind_laid xs h.tokens)

-- before others, with a space between them
pub kept_before : {A : Type 0} {f : Form KeptTexts} {g : Form A} {xs : KeptTexts} {a : A} {ps : List Piece} → IsKept f xs → Writes closed g a ps → Writes closed (pair f g) (xs, a) (kept_then_blank xs ++ ps)
kept_before {f = f} {g = g} {xs = xs} {a = a} {ps = ps} h w =
    let tokens : tokens_of (kept_then_blank xs ++ ps) ≡ map token_of xs ++ tokens_of ps = tokens_of-append (kept_then_blank xs) ps ∙ ap (λ (ts : List Lexeme). ts ++ tokens_of ps) (then_blank_tokens xs) in
    laid_writes (subst (λ (ts : List Lexeme). Says (pair f g) (xs, a) ts) (sym tokens) (pair_says (map token_of xs) (tokens_of ps) (kept_says h) w.says)) (then_blank_laid xs ps h.tokens (is_laid w))
