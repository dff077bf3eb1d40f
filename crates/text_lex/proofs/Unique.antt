-- A text has at most one list of tokens.
use Rattle.std.proofs.Common.{◌≡◌, ℕ, true, false, ◌||◌, eqb, List, [], ◌∷◌, ◌++◌, length, drop, None, refl, sym, ap, ◌∙◌, subst, arith, inl, inr}
use Rattle.std.proofs.lemmas.List.{length-drop}
use Rattle.std.proofs.lemmas.Bool.{eqb-true}
use Rattle.text_forms.specs.declared.TokenKind.{TokenKind}
use Rattle.text_forms.specs.Form.{Lexeme}
use Rattle.text_forms.proofs.Begins.{or_true, or_left, or_right, not_both}
use Rattle.text_forms.specs.Lexical.{is_space, kind_of, table, Longest, LexesTo, here, space, comment, token, Lexes, NoToken, StopsAt, is_blank}

-- no token begins with white space or a semicolon
no_space : (c : ℕ) (w : List ℕ) → c ≡ 32 → kind_of (c ∷ w) ≡ None
unfolding table
no_space c w e = rw e refl

no_tab : (c : ℕ) (w : List ℕ) → c ≡ 9 → kind_of (c ∷ w) ≡ None
unfolding table
no_tab c w e = rw e refl

no_feed : (c : ℕ) (w : List ℕ) → c ≡ 10 → kind_of (c ∷ w) ≡ None
unfolding table
no_feed c w e = rw e refl

no_return : (c : ℕ) (w : List ℕ) → c ≡ 13 → kind_of (c ∷ w) ≡ None
unfolding table
no_return c w e = rw e refl

no_semicolon : (c : ℕ) (w : List ℕ) → c ≡ 59 → kind_of (c ∷ w) ≡ None
unfolding table
no_semicolon c w e = rw e refl

no_empty : kind_of [] ≡ None
unfolding table
no_empty = refl

blank_kind : (c : ℕ) (w : List ℕ) → (is_space c || eqb c 59) ≡ true → kind_of (c ∷ w) ≡ None
blank_kind c w e = elim (or_true (is_space c) (eqb c 59) e) [
  | inr h ↦ no_semicolon c w (eqb-true c 59 h)
  | inl h ↦ elim (or_true (eqb c 32) _ h) [
    | inl i ↦ no_space c w (eqb-true c 32 i)
    | inr i ↦ elim (or_true (eqb c 9) _ i) [
      | inl j ↦ no_tab c w (eqb-true c 9 j)
      | inr j ↦ elim (or_true (eqb c 10) _ j) [ inl k ↦ no_feed c w (eqb-true c 10 k) | inr k ↦ no_return c w (eqb-true c 13 k) ]
    ]
  ]
]

-- where white space or a comment begins, no token does
pub blank_no_token : (c : ℕ) (cs : List ℕ) → (is_space c || eqb c 59) ≡ true → NoToken (c ∷ cs)
blank_no_token c cs e other [] more same k = absurd (let z = no_empty in cc)
blank_no_token c cs e other (d ∷ w) more same k = absurd (let z = blank_kind c w e in let h : c ≡ d = cc in cc)

pub not_at_end : NoToken []
not_at_end other [] more same k = absurd (let z = no_empty in cc)
not_at_end other (d ∷ w) more same k = absurd cc

not_longest : {text word rest : List ℕ} {kind : TokenKind} → NoToken text → Longest text kind word rest → ⊥
not_longest {text} {word} {rest} {kind} free l = free kind word rest l.parts l.token

same_front : (a b c d : List ℕ) → a ++ b ≡ c ++ d → length a ≡ length c → (a ≡ c) × (b ≡ d)
same_front [] b [] d e l = (refl, e)
same_front [] b (y ∷ c) d e l = absurd (omega arith)
same_front (x ∷ a) b [] d e l = absurd (omega arith)
same_front (x ∷ a) b (y ∷ c) d e l =
    let tail : a ++ b ≡ c ++ d = cc in
    let r = same_front a b c d tail (omega arith) in
    let h : x ≡ y = cc in (let r0 = r.0 in cc, r.1)

-- a text has one longest token
pub longest_unique : (text : List ℕ) (k l : TokenKind) (v w r s : List ℕ) → Longest text k v r → Longest text l w s → (k ≡ l) × (v ≡ w) × (r ≡ s)
longest_unique text k l v w r s a b =
    let le = b.longest k v r a.parts a.token in
    let ge = a.longest l w s b.parts b.token in
    let same = same_front v r w s (sym a.parts ∙ b.parts) (omega arith) in
    let v0 = same.0 in
    (let ak = a.token in let bk = b.token in cc, v0, same.1)

-- nothing can be read here: no white space, no comment and no token
pub record Stuck (text : List ℕ) : Type 0 where
  pub filled : is_blank text ≡ false
  pub none : NoToken text

pub end_stuck : Stuck []
end_stuck = record { filled = refl; none = not_at_end }

stuck_space : (c : ℕ) (cs : List ℕ) → Stuck (c ∷ cs) → is_space c ≡ true → ⊥
stuck_space c cs s e = not_both (is_space c || eqb c 59) (or_left (is_space c) (eqb c 59) e) s.filled

stuck_comment : (c : ℕ) (cs : List ℕ) → Stuck (c ∷ cs) → c ≡ 59 → ⊥
stuck_comment c cs s e = not_both (is_space c || eqb c 59) (or_right (is_space c) (eqb c 59) (rw e refl)) s.filled

space_comment : (c : ℕ) → is_space c ≡ true → c ≡ 59 → ⊥
space_comment c e f = let g : is_space 59 ≡ true = rw f at e in cc

space_token : (c : ℕ) {cs word rest : List ℕ} {kind : TokenKind} → is_space c ≡ true → Longest (c ∷ cs) kind word rest → ⊥
space_token c {cs} e l = not_longest (blank_no_token c cs (or_left (is_space c) (eqb c 59) e)) l

comment_token : (c : ℕ) {cs word rest : List ℕ} {kind : TokenKind} → c ≡ 59 → Longest (c ∷ cs) kind word rest → ⊥
comment_token c {cs} e l = not_longest (blank_no_token c cs (or_right (is_space c) (eqb c 59) (rw e refl))) l

pub reads_unique : {t r s : List ℕ} {ts us : List Lexeme} → LexesTo t ts r → LexesTo t us s → Stuck r → Stuck s → (ts ≡ us) × (r ≡ s)
reads_unique here here a b = (refl, refl)
reads_unique here (space c e y) a b = absurd (stuck_space c _ a e)
reads_unique here (comment c e y) a b = absurd (stuck_comment c _ a e)
reads_unique here (token k w l y) a b = absurd (not_longest a.none l)
reads_unique (space c e x) here a b = absurd (stuck_space c _ b e)
reads_unique (space c e x) (space d f y) a b = reads_unique x y a b
reads_unique (space c e x) (comment d f y) a b = absurd (space_comment c e f)
reads_unique (space c e x) (token k w l y) a b = absurd (space_token c e l)
reads_unique (comment c e x) here a b = absurd (stuck_comment c _ b e)
reads_unique (comment c e x) (space d f y) a b = absurd (space_comment c f e)
reads_unique (comment c e x) (comment d f y) a b = reads_unique x y a b
reads_unique (comment c e x) (token k w l y) a b = absurd (comment_token c e l)
reads_unique (token k w l x) here a b = absurd (not_longest b.none l)
reads_unique (token k w l x) (space d f y) a b = absurd (space_token d f l)
reads_unique (token k w l x) (comment d f y) a b = absurd (comment_token d f l)
reads_unique {t} {r} {s} (token k w {behind = behind} {ts = ts} l x) (token k2 w2 {behind = behind2} {ts = us} l2 y) a b =
    let same = longest_unique t k k2 w w2 behind behind2 l l2 in
    let y2 : LexesTo behind us s = subst (λ (z : List ℕ). LexesTo z us s) (sym same.2) y in
    let more = reads_unique x y2 a b in
    let k0 = same.0 in
    let w0 = same.1 in
    let m0 = more.0 in
    (cc, more.1)

-- A text has at most one list of tokens.
pub lexes_unique : (text : List ℕ) (ts us : List Lexeme) → Lexes text ts → Lexes text us → ts ≡ us
lexes_unique text ts us x y = (reads_unique x y end_stuck end_stuck).0

stops_stuck : (text : List ℕ) (place : ℕ) → StopsAt text place → Stuck (drop place text)
stops_stuck text place h = record { filled = h.filled; none = h.none }

-- A text that is read only up to a place has no list of tokens.
pub stops_lexes : (text : List ℕ) (place : ℕ) (ts : List Lexeme) → StopsAt text place → Lexes text ts → ⊥
stops_lexes text place ts h x =
    let e = (reads_unique h.reads x (stops_stuck text place h) end_stuck).1 in
    let w = h.within in
    omega (arith, length-drop place text, ap length e)

-- And it is read up to one place.
pub stops_unique : (text : List ℕ) (i j : ℕ) → StopsAt text i → StopsAt text j → i ≡ j
stops_unique text i j a b =
    let e = (reads_unique a.reads b.reads (stops_stuck text i a) (stops_stuck text j b)).1 in
    let v = a.within in
    let w = b.within in
    omega (arith, length-drop i text, length-drop j text, ap length e)
