-- Reading on.
use Rattle.std.proofs.Common.{◌≡◌, ◌<◌, ◌+◌, ◌-◌, ℕ, false, ◌||◌, eqb, List, [], ◌∷◌, ◌++◌, length, add-one, take, drop, refl, sym, ◌∙◌, arith, inl, inr}
use Rattle.std.proofs.lemmas.Bool.{eqb-true}
use Rattle.std.proofs.lemmas.List.{take_all, length-drop, drop-drop, append-nil, map_push}
use Rattle.std.specs.Prelude.{map}
use Rattle.text_forms.specs.declared.Token.{Token}
use Rattle.text_forms.specs.declared.TokenKind.{TokenKind}
use Rattle.text_forms.specs.Form.{Lexeme}
use Rattle.text_forms.proofs.Begins.{test}
use Rattle.text_forms.specs.Lexical.{is_space, next_line, LexesTo, here, space, comment, token, is_blank, NoToken, StopsAt}
use Rattle.text_forms.specs.View.{lexeme_in}
use Rattle.text_lex.specs.Scan.{line, blank, At}

pub reads_on : {a b c : List ℕ} {ts us : List Lexeme} → LexesTo a ts b → LexesTo b us c → LexesTo a (ts ++ us) c
reads_on here more = more
reads_on (space c e r) more = space c e (reads_on r more)
reads_on (comment c e r) more = comment c e (reads_on r more)
reads_on (token k w l r) more = token k w l (reads_on r more)

line_is : (cs : List ℕ) → next_line cs ≡ drop (line cs) cs
line_is [] = refl
line_is (c ∷ cs) = elim (test (eqb c 10 || eqb c 13)) [
  | inl e ↦ rw e refl
  | inr e ↦ rw (e, add-one) (line_is cs)
]

behind_comment : (c : ℕ) (cs : List ℕ) → c ≡ 59 → LexesTo (c ∷ cs) [] (drop (line cs) cs)
behind_comment c cs e =
    let r : LexesTo (next_line cs) [] (drop (line cs) cs) = rw (line_is cs) here in
    comment c e r

pub blank_reads : (text : List ℕ) → 0 < blank text → LexesTo text [] (drop (blank text) text)
blank_reads [] lt = absurd (omega arith)
blank_reads (c ∷ cs) lt = elim (test (is_space c)) [
  | inl e ↦ rw e (space c e here)
  | inr e ↦ elim (test (eqb c 59)) [
    | inl f ↦ rw (e, f, add-one) (behind_comment c cs (eqb-true c 59 f))
    | inr f ↦ absurd (let z : blank (c ∷ cs) ≡ 0 = rw (e, f) refl in omega arith)
  ]
]

pub blank_none : (text : List ℕ) → blank text ≡ 0 → is_blank text ≡ false
blank_none [] z = refl
blank_none (c ∷ cs) z = elim (test (is_space c)) [
  | inl e ↦ absurd (let o : blank (c ∷ cs) ≡ 1 = rw e refl in omega arith)
  | inr e ↦ elim (test (eqb c 59)) [
    | inl f ↦ absurd (let o : blank (c ∷ cs) ≡ line cs + 1 = rw (e, f) refl in omega arith)
    | inr f ↦ rw (e, f) refl
  ]
]

pub at_reads : (text : List ℕ) (k : TokenKind) (n : ℕ) → At text k n → LexesTo text (record { kind = k; text = take n text } ∷ []) (drop n text)
at_reads text k n a = token k (take n text) a.longest here

pub skip_on : (text : List ℕ) (ts : List Lexeme) (i n : ℕ) → LexesTo text ts (drop i text) → n ≡ blank (drop i text) → 0 < n → LexesTo text ts (drop (i + n) text)
skip_on text ts i n r e lt =
    let s : LexesTo (drop i text) [] (drop n (drop i text)) = rw e (blank_reads (drop i text) (omega arith)) in
    let q : LexesTo text (ts ++ []) (drop n (drop i text)) = reads_on r s in
    rw (drop-drop n i text, append-nil) at q

pub token_on : (text : List ℕ) (ts : List Token) (i n : ℕ) (k : TokenKind) → LexesTo text (map (lexeme_in text) ts) (drop i text) → At (drop i text) k n → LexesTo text (map (lexeme_in text) (ts ++ record { kind = k; start = i; end = i + n } ∷ [])) (drop (i + n) text)
token_on text ts i n k r a =
    let size : i + n - i ≡ n = omega arith in
    let q : LexesTo text (map (lexeme_in text) ts ++ record { kind = k; text = take n (drop i text) } ∷ []) (drop n (drop i text)) = reads_on r (at_reads (drop i text) k n a) in
    rw (map_push (lexeme_in text) ts, size, ← drop-drop n i text) q

pub stops_at : (text : List ℕ) (ts : List Lexeme) (i n : ℕ) → LexesTo text ts (drop i text) → i < length text → n ≡ blank (drop i text) → n ≡ 0 → NoToken (drop i text) → StopsAt text i
stops_at text ts i n r lt e z free = record { before = ts; reads = r; within = lt; filled = blank_none (drop i text) (sym e ∙ z); none = free }

-- what the code takes as the rest
pub rest_is : (i : ℕ) (text : List ℕ) → take (length text - i) (drop i text) ≡ drop i text
rest_is i text = take_all (length text - i) (drop i text) (omega (arith, length-drop i text))
