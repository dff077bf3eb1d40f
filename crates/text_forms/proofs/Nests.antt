-- Balanced lists are read as they are spelled.
use Rattle.std.proofs.Common.{◌≡◌, ℕ, Bool, true, false, not, ◌&&◌, ◌||◌, List, [], ◌∷◌, ◌++◌, Option, Some, None, eqb, refl, sym, ap, ◌∙◌, subst, append_assoc, ◌⊎◌, inl, inr}
use Rattle.std.proofs.lemmas.Bool.{and_parts}
use Rattle.text_forms.specs.declared.TokenKind.{TokenKind}
use Rattle.text_forms.specs.declared.TokenKind.TheVariants.{Word, Equal, RightParen, RightBracket, RightBrace, Greater}
use Rattle.text_forms.specs.Form.{kind_code, Lexeme, enclosed, up_to, Spells, step, is_closer, is_empty, for_some, nests, runs, texts, Stops, stops_at, has_kind, equal_next, is_one_of}
use Rattle.text_forms.specs.Reading.{◌>>=◌, read, read_inside, read_up_to, ends, next_in, going_on}
use Rattle.text_forms.proofs.Tokens.{same_kind, kind_is}

abbrev lexeme : TokenKind → List ℕ → Lexeme
lexeme k s = record { kind = k; text = s }

test : (b : Bool) → (b ≡ true) ⊎ (b ≡ false)
test true = inl refl
test false = inr refl

there_is : {A : Type 0} (x y : A) → Some x ≡ Some y → x ≡ y
there_is x y e = cc

bind : {A B : Type 0} (r : Option A) (f : A → Option B) (y : B) → (r >>= f) ≡ Some y → (x : A) × (r ≡ Some x) × (f x ≡ Some y)
bind None f y e = absurd cc
bind (Some x) f y e = (x, refl, e)

pub held : (o : Option (List TokenKind)) (p : List TokenKind → Bool) → for_some o p ≡ true → (u : List TokenKind) × (o ≡ Some u) × (p u ≡ true)
held None p e = absurd cc
held (Some u) p e = (u, refl, e)

-- ---- between brackets

abbrev Inside : TokenKind → List TokenKind → List Lexeme → List Lexeme × List Lexeme → Type 0
Inside c s ts x = (inner : List Lexeme) × (w : List ℕ) × (ts ≡ inner ++ (lexeme c w ∷ x.1)) × (nests s inner ≡ true) × (x.0 ≡ inner ++ lexeme c w ∷ [])

nests_on : (s u : List TokenKind) (t : Lexeme) (more : List Lexeme) → step s t.kind ≡ Some u → nests u more ≡ true → nests s (t ∷ more) ≡ true
nests_on s u t more e h = rw e h

inside_step : (c : TokenKind) (s : List TokenKind) (t : Lexeme) (ts : List Lexeme) (x : List Lexeme × List Lexeme) → ((u : List TokenKind) (y : List Lexeme × List Lexeme) → read_inside c u ts ≡ Some y → Inside c u ts y)
    → (step s t.kind >>= λ u. read_inside c u ts >>= λ y. Some (t ∷ y.0, y.1)) ≡ Some x → Inside c s (t ∷ ts) x
inside_step c s t ts x h e =
    let a = bind (step s t.kind) (λ u. read_inside c u ts >>= λ y. Some (t ∷ y.0, y.1)) x e in
    let b = bind (read_inside c a.0 ts) (λ y. Some (t ∷ y.0, y.1)) x a.2 in
    let n = h a.0 b.0 b.1 in
    let made : List Lexeme × List Lexeme = (t ∷ b.0.0, b.0.1) in
    subst (λ (y : List Lexeme × List Lexeme). Inside c s (t ∷ ts) y) (there_is made x b.2) (t ∷ n.0, n.1, ap (λ (l : List Lexeme). t ∷ l) n.2, nests_on s a.0 t n.0 a.1 n.3, ap (λ (l : List Lexeme). t ∷ l) n.4)

pub inside_used : (c : TokenKind) (s : List TokenKind) (ts : List Lexeme) (x : List Lexeme × List Lexeme) → read_inside c s ts ≡ Some x → Inside c s ts x
inside_used c s [] x e = absurd cc
inside_used c [] (t ∷ ts) x e =
    elim (test (eqb (kind_code t.kind) (kind_code c))) [
      | inl i ↦
          let made : List Lexeme × List Lexeme = (t ∷ [], ts) in
          let et : t ≡ lexeme c t.text = ap (λ (m : TokenKind). lexeme m t.text) (same_kind t.kind c i) in
          subst (λ (y : List Lexeme × List Lexeme). Inside c [] (t ∷ ts) y) (there_is made x (rw i at e)) ([], t.text, ap (λ (u : Lexeme). u ∷ ts) et, refl, ap (λ (u : Lexeme). u ∷ []) et)
      | inr i ↦ inside_step c [] t ts x (λ u y d. inside_used c u ts y d) (rw i at e)
    ]
inside_used c (z ∷ s) (t ∷ ts) x e = inside_step c (z ∷ s) t ts x (λ u y d. inside_used c u ts y d) e

closer_fails : (c : TokenKind) → is_closer c ≡ true → step [] c ≡ None
closer_fails RightParen e = refl
closer_fails RightBracket e = refl
closer_fails RightBrace e = refl
closer_fails Greater e = refl
closer_fails c e = absurd cc

goes_in : (c : TokenKind) → is_closer c ≡ true → (s u : List TokenKind) (k : TokenKind) → step s k ≡ Some u → ends c s k ≡ false
goes_in c h [] u k e =
    elim (test (eqb (kind_code k) (kind_code c))) [
      | inl i ↦ let n : step [] k ≡ None = subst (λ (j : TokenKind). step [] j ≡ None) (sym (same_kind k c i)) (closer_fails c h) in absurd (cc (n, e))
      | inr i ↦ i
    ]
goes_in c h (z ∷ s) u k e = refl

inside_read : (c : TokenKind) → is_closer c ≡ true → (s : List TokenKind) (inner : List Lexeme) (w : List ℕ) (rest : List Lexeme) → nests s inner ≡ true → read_inside c s (inner ++ (lexeme c w ∷ rest)) ≡ Some (inner ++ lexeme c w ∷ [], rest)
inside_read c h [] [] w rest e = rw (kind_is c) refl
inside_read c h (z ∷ s) [] w rest e = absurd cc
inside_read c h s (t ∷ more) w rest e =
    let a = held (step s t.kind) (λ u. nests u more) e in
    let i = inside_read c h a.0 more w rest a.2 in
    rw (goes_in c h s a.0 t.kind a.1, a.1, i) refl

pub enclosed_complete : (o c : TokenKind) → is_closer c ≡ true → (a used rest : List Lexeme) → Spells (enclosed o c) a used → read (enclosed o c) (used ++ rest) ≡ Some (a, rest)
enclosed_complete o c h a used rest s =
    let whole : used ++ rest ≡ lexeme o s.0 ∷ (s.1 ++ (lexeme c s.2 ∷ rest)) = ap (λ (l : List Lexeme). l ++ rest) s.3 ∙ ap (λ (l : List Lexeme). lexeme o s.0 ∷ l) (append_assoc s.1 (lexeme c s.2 ∷ []) rest) in
    rw (whole, kind_is o, inside_read c h [] s.1 s.2 rest s.4, s.5, s.3) refl

-- ---- up to a stop

abbrev Run : Stops → List TokenKind → List Lexeme → List (List ℕ) × List Lexeme → Type 0
Run st s ts x = (used : List Lexeme) × (ts ≡ used ++ x.1) × (runs st s used ≡ true) × (x.0 ≡ texts used)

or_false : (x y : Bool) → (x || y) ≡ false → (x ≡ false) × (y ≡ false)
or_false true y e = absurd cc
or_false false y e = (refl, e)

pub and_false : (x y z : Bool) → (y ≡ false → z ≡ false) → (x && y) ≡ false → (x && z) ≡ false
and_false true y z h e = h e
and_false false y z h e = refl

not_stop : (st : Stops) (t : Lexeme) (ts us : List Lexeme) → (equal_next ts ≡ false → equal_next us ≡ false) → stops_at st (t ∷ ts) ≡ false → stops_at st (t ∷ us) ≡ false
not_stop st t ts us h e =
    let p = or_false (has_kind st.kinds t.kind || (eqb (kind_code t.kind) (kind_code Word) && is_one_of st.words t.text)) (has_kind st.before_equal t.kind && equal_next ts) e in
    rw (p.0, and_false (has_kind st.before_equal t.kind) (equal_next ts) (equal_next us) h p.1) refl

equal_front : (ts us : List Lexeme) → equal_next (ts ++ us) ≡ false → equal_next ts ≡ false
equal_front [] us e = refl
equal_front (t ∷ ts) us e = e

runs_on : (st : Stops) (s u : List TokenKind) (t : Lexeme) (more : List Lexeme) → (is_empty s && stops_at st (t ∷ more)) ≡ false → step s t.kind ≡ Some u → runs st u more ≡ true → runs st s (t ∷ more) ≡ true
runs_on st s u t more n e h = rw (n, e) h

run_step : (st : Stops) (s : List TokenKind) (t : Lexeme) (ts : List Lexeme) (x : List (List ℕ) × List Lexeme) → ((u : List TokenKind) (y : List (List ℕ) × List Lexeme) → read_up_to st u ts ≡ Some y → Run st u ts y)
    → (is_empty s && stops_at st (t ∷ ts)) ≡ false → (step s t.kind >>= λ u. read_up_to st u ts >>= λ y. Some (t.text ∷ y.0, y.1)) ≡ Some x → Run st s (t ∷ ts) x
run_step st s t ts x h go e =
    let a = bind (step s t.kind) (λ u. read_up_to st u ts >>= λ y. Some (t.text ∷ y.0, y.1)) x e in
    let b = bind (read_up_to st a.0 ts) (λ y. Some (t.text ∷ y.0, y.1)) x a.2 in
    let n = h a.0 b.0 b.1 in
    let made : List (List ℕ) × List Lexeme = (t.text ∷ b.0.0, b.0.1) in
    let before : stops_at st (t ∷ ts) ≡ false → stops_at st (t ∷ n.0) ≡ false = not_stop st t ts n.0 (λ d. equal_front n.0 b.0.1 (ap equal_next (sym n.1) ∙ d)) in
    subst (λ (y : List (List ℕ) × List Lexeme). Run st s (t ∷ ts) y) (there_is made x b.2)
    (t ∷ n.0, ap (λ (l : List Lexeme). t ∷ l) n.1, runs_on st s a.0 t n.0 (and_false (is_empty s) (stops_at st (t ∷ ts)) (stops_at st (t ∷ n.0)) before go) a.1 n.2, ap (λ (l : List (List ℕ)). t.text ∷ l) n.3)

pub up_to_used : (st : Stops) (s : List TokenKind) (ts : List Lexeme) (x : List (List ℕ) × List Lexeme) → read_up_to st s ts ≡ Some x → Run st s ts x
up_to_used st [] [] x e =
    let made : List (List ℕ) × List Lexeme = ([], []) in
    subst (λ (y : List (List ℕ) × List Lexeme). Run st [] [] y) (there_is made x e) ([], refl, refl, refl)
up_to_used st (z ∷ s) [] x e = absurd cc
up_to_used st [] (t ∷ ts) x e =
    elim (test (stops_at st (t ∷ ts))) [
      | inl i ↦
          let made : List (List ℕ) × List Lexeme = ([], t ∷ ts) in
          subst (λ (y : List (List ℕ) × List Lexeme). Run st [] (t ∷ ts) y) (there_is made x (rw i at e)) ([], refl, refl, refl)
      | inr i ↦ run_step st [] t ts x (λ u y d. up_to_used st u ts y d) i (rw i at e)
    ]
up_to_used st (z ∷ s) (t ∷ ts) x e = run_step st (z ∷ s) t ts x (λ u y d. up_to_used st u ts y d) refl e

not_true : (b : Bool) → not b ≡ true → b ≡ false
not_true true e = absurd cc
not_true false e = refl

ended : (st : Stops) (rest : List Lexeme) → next_in (going_on st ∷ []) rest ≡ false → (rest ≡ []) ⊎ (stops_at st rest ≡ true)
ended st [] e = inl refl
ended st (t ∷ ts) e = elim (test (stops_at st (t ∷ ts))) [ inl i ↦ inr i | inr i ↦ absurd (let n : true ≡ false = rw i at e in cc) ]

-- where a run ends no `=` stands
no_equal : (st : Stops) → has_kind st.kinds Equal ≡ false → has_kind st.before_equal Equal ≡ false → (rest : List Lexeme) → next_in (going_on st ∷ []) rest ≡ false → equal_next rest ≡ false
no_equal st h k [] e = refl
no_equal st h k (t ∷ ts) e =
    elim (test (eqb (kind_code t.kind) (kind_code Equal))) [
      | inl i ↦
          let q : t.kind ≡ Equal = same_kind t.kind Equal i in
          let n : stops_at st (t ∷ ts) ≡ false = rw (q, h, k) refl in
          absurd (let m : true ≡ false = rw n at e in cc)
      | inr i ↦ i
    ]

equal_on : (more rest : List Lexeme) → equal_next rest ≡ false → equal_next more ≡ false → equal_next (more ++ rest) ≡ false
equal_on [] rest n e = n
equal_on (t ∷ ts) rest n e = e

run_read : (st : Stops) → (rest : List Lexeme) → next_in (going_on st ∷ []) rest ≡ false → equal_next rest ≡ false → (s : List TokenKind) (used : List Lexeme) → runs st s used ≡ true → read_up_to st s (used ++ rest) ≡ Some (texts used, rest)
run_read st [] e n [] [] r = refl
run_read st (t ∷ ts) e n [] [] r = elim (test (stops_at st (t ∷ ts))) [ inl i ↦ rw i refl | inr i ↦ absurd (let m : true ≡ false = rw i at e in cc) ]
run_read st rest e n (z ∷ s) [] r = absurd cc
run_read st rest e n s (t ∷ more) r =
    let p = and_parts (not (is_empty s && stops_at st (t ∷ more))) (for_some (step s t.kind) (λ u. runs st u more)) r in
    let a = held (step s t.kind) (λ u. runs st u more) p.1 in
    let i = run_read st rest e n a.0 more a.2 in
    let behind : equal_next more ≡ false → equal_next (more ++ rest) ≡ false = equal_on more rest n in
    let go = and_false (is_empty s) (stops_at st (t ∷ more)) (stops_at st (t ∷ (more ++ rest))) (not_stop st t more (more ++ rest) behind) (not_true _ p.0) in
    rw (go, a.1, i) refl

pub up_to_complete : (st : Stops) → has_kind st.kinds Equal ≡ false → has_kind st.before_equal Equal ≡ false → (a : List (List ℕ)) (used rest : List Lexeme) → Spells (up_to st) a used → next_in (going_on st ∷ []) rest ≡ false → read_up_to st [] (used ++ rest) ≡ Some (a, rest)
up_to_complete st h k a used rest s stop = rw s.1 (run_read st rest stop (no_equal st h k rest stop) [] used s.0)
