-- Reading on, with places.
use Rattle.std.proofs.Common.{◌≡◌, ◌≤◌, ◌<◌, ◌+◌, ℕ, List, [], ◌∷◌, ◌++◌, length, take, drop, arith}
use Rattle.std.proofs.lemmas.List.{length-drop, drop-drop, append-nil}
use Rattle.text_forms.specs.declared.TokenKind.{TokenKind}
use Rattle.text_forms.specs.declared.Token.{Token}
use Rattle.text_forms.specs.Lexical.{LexesTo, here, space, comment, Places, here_placed, space_placed, comment_placed, token_placed}
use Rattle.text_lex.specs.Scan.{blank, At}
use Rattle.text_lex.proofs.Reading.{blank_reads}

places_on : {size : ℕ} {a b c : List ℕ} {ts us : List Token} → Places size a ts b → Places size b us c → Places size a (ts ++ us) c
places_on here_placed more = more
places_on (space_placed c e r) more = space_placed c e (places_on r more)
places_on (comment_placed c e r) more = comment_placed c e (places_on r more)
places_on (token_placed t w s e l r) more = token_placed t w s e l (places_on r more)

blank_placed : (size : ℕ) {a b : List ℕ} → LexesTo a [] b → Places size a [] b
blank_placed size here = here_placed
blank_placed size (space c e r) = space_placed c e (blank_placed size r)
blank_placed size (comment c e r) = comment_placed c e (blank_placed size r)

pub skip_placed : (text : List ℕ) (ts : List Token) (i n : ℕ) → Places (length text) text ts (drop i text) → n ≡ blank (drop i text) → 0 < n → Places (length text) text ts (drop (i + n) text)
skip_placed text ts i n r e lt =
    let s : LexesTo (drop i text) [] (drop n (drop i text)) = rw e (blank_reads (drop i text) (omega arith)) in
    let q : Places (length text) text (ts ++ []) (drop n (drop i text)) = places_on r (blank_placed (length text) s) in
    rw (drop-drop n i text, append-nil) at q

pub token_on_placed : (text : List ℕ) (ts : List Token) (i n : ℕ) (k : TokenKind) → i ≤ length text → Places (length text) text ts (drop i text) → At (drop i text) k n → Places (length text) text (ts ++ record { kind = k; start = i; end = i + n } ∷ []) (drop (i + n) text)
token_on_placed text ts i n k le r a =
    let w = a.within in
    let q : Places (length text) text (ts ++ record { kind = k; start = i; end = i + n } ∷ []) (drop n (drop i text)) =
    places_on r (token_placed (record { kind = k; start = i; end = i + n }) (take n (drop i text)) (omega (arith, length-drop i text)) (omega (arith, length-drop i text, length-drop n (drop i text))) a.longest here_placed) in
    rw (drop-drop n i text) at q
