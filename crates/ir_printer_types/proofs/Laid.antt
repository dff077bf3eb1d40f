-- Pieces that are tokens and join, and how they are put together.
use Rattle.std.proofs.Common.{◌≡◌, ℕ, true, List, [], ◌∷◌, ◌++◌, Some, refl}
use Rattle.std.specs.Prelude.{map}
use Rattle.std.specs.List.{AllByRecursion}
use Rattle.std.proofs.lemmas.Bool.{and_from}
use Rattle.text_forms.specs.declared.TokenKind.{TokenKind}
use Rattle.text_forms.specs.Form.{Lexeme}
use Rattle.text_forms.specs.Lexical.{kind_of, is_space}
use Rattle.text_lex.specs.Layout.{Piece, gap, lexeme, AreTokens, is_mark, closed, open_, left_by, joins, end_of}
use Rattle.text_lex.specs.Neighbours.{all_of}
use Rattle.text_lex.proofs.Layouts.{AreTokens-append, joins-from, joins_closed, joins_any}
use Rattle.ir_printer_types.specs.Pieces.{token, blank, line_feed, each_behind, separated}

-- tokens that join
pub record IsLaid (ps : List Piece) : Type 0 where
  pub tokens : AreTokens ps
  pub joined : joins closed ps ≡ true

-- and may stand behind any token
pub record IsBehind (ps : List Piece) : Type 0 where
  pub tokens : AreTokens ps
  pub joined : joins open_ ps ≡ true

-- what can stand behind any token is laid out
pub loose : {ps : List Piece} → IsBehind ps → IsLaid ps
loose {ps} h = record { tokens = h.tokens; joined = joins_closed ps h.joined }

-- nothing can stand behind any token
pub nothing_behind : IsBehind []
nothing_behind = record { tokens = tt; joined = refl }

-- a space can, before what is laid out
pub blank_laid : {ps : List Piece} → IsLaid ps → IsBehind (blank ∷ ps)
blank_laid h = record { tokens = h.tokens; joined = h.joined }

-- and the end of a line
pub feed_laid : {ps : List Piece} → IsLaid ps → IsBehind (line_feed ∷ ps)
feed_laid h = record { tokens = h.tokens; joined = h.joined }

-- the same of any white space
pub gap_laid : {ps : List Piece} (c : ℕ) (s : List ℕ) → all_of is_space (c ∷ s) ≡ true → IsLaid ps → IsBehind (gap (c ∷ s) ∷ ps)
gap_laid c s e h = record { tokens = h.tokens; joined = and_from _ _ e h.joined }

-- and a mark
pub mark_laid : {ps : List Piece} (k : TokenKind) (s : List ℕ) → is_mark k ≡ true → kind_of s ≡ Some k → IsLaid ps → IsBehind (lexeme (token k s) ∷ ps)
mark_laid k s m e h = record { tokens = (e, h.tokens); joined = rw m (h.joined) }

-- a token is laid out before what can stand behind any
pub token_laid : {ps : List Piece} (t : Lexeme) → kind_of t.text ≡ Some t.kind → IsBehind ps → IsLaid (lexeme t ∷ ps)
token_laid {ps} t e h = record { tokens = (e, h.tokens); joined = joins_any (left_by t.kind) ps h.joined }

-- what is laid out stays so before what can stand behind any token
pub laid-append : (ps qs : List Piece) → IsLaid ps → IsBehind qs → IsLaid (ps ++ qs)
laid-append ps qs h g = record { tokens = AreTokens-append ps qs h.tokens g.tokens; joined = joins-from closed ps qs h.joined (joins_any (end_of closed ps) qs g.joined) }

-- and so does what can stand there itself
pub behind-append : (ps qs : List Piece) → IsBehind ps → IsBehind qs → IsBehind (ps ++ qs)
behind-append ps qs h g = record { tokens = AreTokens-append ps qs h.tokens g.tokens; joined = joins-from open_ ps qs h.joined (joins_any (end_of open_ ps) qs g.joined) }

-- ---- lists

-- what is laid may stand behind these pieces, and these behind anything
pub record Separates (s : List Piece) : Type 0 where
  pub apart : (ps : List Piece) → IsLaid ps → IsBehind (s ++ ps)

-- parts that are laid out can stand there, each behind what separates
pub each_laid : (s : List Piece) (parts : List (List Piece)) → Separates s → AllByRecursion IsLaid parts → IsBehind (each_behind s parts)
each_laid s [] a h = nothing_behind
each_laid s (p ∷ parts) a h = a.apart (p ++ each_behind s parts) (laid-append p (each_behind s parts) h.0 (each_laid s parts a h.1))

-- and with what separates between them they are laid out
pub separated_laid : (s : List Piece) (parts : List (List Piece)) → Separates s → AllByRecursion IsLaid parts → IsLaid (separated s parts)
separated_laid s [] a h = loose nothing_behind
separated_laid s (p ∷ parts) a h = laid-append p (each_behind s parts) h.0 (each_laid s parts a h.1)

-- what is laid out for each is so for all
pub all_laid : {B : Type 0} (P : B → Type 0) (pieces : B → List Piece) → ((b : B) → P b → IsLaid (pieces b)) → (items : List B) → AllByRecursion P items → AllByRecursion IsLaid (map pieces items)
all_laid P pieces laid [] h = tt
all_laid P pieces laid (b ∷ items) h = (laid b h.0, all_laid P pieces laid items h.1)
