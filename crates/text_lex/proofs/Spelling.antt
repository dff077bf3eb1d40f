-- The parts are taken from left to right as they stand.
use Rattle.std.proofs.Common.{◌≡◌, ℕ, Bool, true, false, not, ◌&&◌, eqb, List, [], ◌∷◌, ◌++◌, Some, refl, sym, subst, inl, inr}
use Rattle.std.proofs.lemmas.Bool.{and_parts, and_from, eqb-true}
use Rattle.text_forms.specs.declared.TokenKind.{TokenKind}
use Rattle.text_forms.proofs.Begins.{test, or_true, not_both, not_true}
use Rattle.text_forms.specs.declared.Class.{Class}
use Rattle.text_forms.specs.declared.Class.TheVariants.{Byte, Digit, HexDigit, NameStart, NamePart, WordStart, WordPart, Exponent, Sign, NotQuote}
use Rattle.text_forms.specs.declared.Part.{Part}
use Rattle.text_forms.specs.declared.Part.TheVariants.{One, Perhaps, Run}
use Rattle.text_forms.specs.Lexical.{has, after, may_end, spells, kind_by, kind_of, table}
use Rattle.text_lex.specs.Neighbours.{all_of}
use Rattle.text_lex.specs.Spelling.{Spelled, few, is_few, apart, none_begins, decides, all_decide, IsKind}
use Rattle.text_lex.proofs.Fronts.{cases}

-- ---- what the parts spell is spelled

spelled_end : (ps : List Part) → may_end ps ≡ true → Spelled ps []
spelled_end [] h = refl
spelled_end (One p ∷ ps) h = absurd cc
spelled_end (Perhaps p ∷ ps) h = inl (spelled_end ps h)
spelled_end (Run p ∷ ps) h = ([], [], refl, refl, spelled_end ps h)

spelled_step : (ps qs : List Part) (c : ℕ) (w : List ℕ) → after ps c ≡ Some qs → Spelled qs w → Spelled ps (c ∷ w)
spelled_step [] qs c w e s = absurd cc
spelled_step (One p ∷ ps) qs c w e s = elim (test (has p c)) [
  | inl y ↦ let f : ps ≡ qs = (let g = rw y at e in cc) in (c, w, refl, y, rw f s)
  | inr n ↦ absurd (let g = rw n at e in cc)
]
spelled_step (Perhaps p ∷ ps) qs c w e s = elim (test (has p c)) [
  | inl y ↦ let f : ps ≡ qs = (let g = rw y at e in cc) in inr (c, w, refl, y, rw f s)
  | inr n ↦ inl (spelled_step ps qs c w (rw n at e) s)
]
spelled_step (Run p ∷ ps) qs c w e s = elim (test (has p c)) [
  | inl y ↦
      let f : Run p ∷ ps ≡ qs = (let g = rw y at e in cc) in
      let t : Spelled (Run p ∷ ps) w = subst (λ (z : List Part). Spelled z w) (sym f) s in
      (c ∷ t.0, t.1, (let t2 = t.2 in cc), and_from (has p c) (all_of (has p) t.0) y t.3, t.4)
  | inr n ↦ ([], c ∷ w, refl, refl, spelled_step ps qs c w (rw n at e) s)
]

pub spelled : (ps : List Part) (w : List ℕ) → spells ps w ≡ true → Spelled ps w
spelled ps [] h = spelled_end ps h
spelled ps (c ∷ w) h = elim (cases (after ps c)) [
  | inl n ↦ absurd (let g = rw n at h in cc)
  | inr (qs, s) ↦ spelled_step ps qs c w s (spelled qs w (rw s at h))
]

-- ---- and the other way round, where one byte decides

-- a byte for which the list's test stands
in_list : (f : ℕ → Bool) (cs : List ℕ) (c : ℕ) → all_of f cs ≡ true → all_of (λ d. not (eqb c d)) cs ≡ false → f c ≡ true
in_list f [] c h e = absurd cc
in_list f (d ∷ cs) c h e = elim (test (eqb c d)) [
  | inl y ↦ let g = eqb-true c d y in rw g ((and_parts (f d) (all_of f cs) h).0)
  | inr n ↦ in_list f cs c ((and_parts (f d) (all_of f cs) h).1) (rw n at e)
]

is_in_few : (q : Class) (c : ℕ) → is_few q ≡ true → has q c ≡ true → all_of (λ d. not (eqb c d)) (few q) ≡ false
is_in_few (Byte b) c f h = rw h refl
is_in_few Digit c f h = absurd cc
is_in_few HexDigit c f h = absurd cc
is_in_few NameStart c f h = absurd cc
is_in_few NamePart c f h = absurd cc
is_in_few WordStart c f h = absurd cc
is_in_few WordPart c f h = absurd cc
is_in_few Exponent c f h = elim (or_true (eqb c 101) _ h) [ inl e ↦ rw e refl | inr e ↦ elim (test (eqb c 101)) [ inl i ↦ rw i refl | inr i ↦ rw (i, e) refl ] ]
is_in_few Sign c f h = elim (or_true (eqb c 43) _ h) [ inl e ↦ rw e refl | inr e ↦ elim (test (eqb c 43)) [ inl i ↦ rw i refl | inr i ↦ rw (i, e) refl ] ]
is_in_few NotQuote c f h = absurd cc

apart_is : (p q : Class) (c : ℕ) → apart p q ≡ true → has q c ≡ true → has p c ≡ false
apart_is p q c a h = elim (or_true (is_few q && all_of (λ d. not (has p d)) (few q)) _ a) [
  | inl l ↦
      let b = and_parts (is_few q) (all_of (λ d. not (has p d)) (few q)) l in
      not_true (has p c) (in_list (λ d. not (has p d)) (few q) c b.1 (is_in_few q c b.0 h))
  | inr r ↦ elim (test (has p c)) [
    | inr n ↦ n
    | inl y ↦ absurd (
        let b = and_parts (is_few p) (all_of (λ d. not (has q d)) (few p)) r in
        not_both (has q c) h (not_true (has q c) (in_list (λ d. not (has q d)) (few p) c b.1 (is_in_few p c b.0 y))))
  ]
]

-- with which byte a spelled word begins
begins : (p : Class) (ps : List Part) (c : ℕ) (w : List ℕ) → none_begins p ps ≡ true → Spelled ps (c ∷ w) → has p c ≡ false
begins p [] c w n s = absurd cc
begins p (One q ∷ ps) c w n (d, v, e, h, s) = let f : c ≡ d = cc in rw f (apart_is p q d n h)
begins p (Perhaps q ∷ ps) c w n (inl s) = begins p ps c w ((and_parts (apart p q) (none_begins p ps) n).1) s
begins p (Perhaps q ∷ ps) c w n (inr (d, v, e, h, s)) = let f : c ≡ d = cc in rw f (apart_is p q d ((and_parts (apart p q) (none_begins p ps) n).0) h)
begins p (Run q ∷ ps) c w n ([], v, e, h, s) = begins p ps c w ((and_parts (apart p q) (none_begins p ps) n).1) (subst (Spelled ps) (sym e) s)
begins p (Run q ∷ ps) c w n (d ∷ u, v, e, h, s) = let f : c ≡ d = cc in rw f (apart_is p q d ((and_parts (apart p q) (none_begins p ps) n).0) ((and_parts (has q d) (all_of (has q) u) h).0))

skip_perhaps : (p : Class) (ps : List Part) (w : List ℕ) → none_begins p ps ≡ true → Spelled ps w → spells ps w ≡ true → spells (Perhaps p ∷ ps) w ≡ true
skip_perhaps p ps [] n s h = h
skip_perhaps p ps (c ∷ w) n s h = rw (begins p ps c w n s) h

skip_run : (p : Class) (ps : List Part) (w : List ℕ) → none_begins p ps ≡ true → Spelled ps w → spells ps w ≡ true → spells (Run p ∷ ps) w ≡ true
skip_run p ps [] n s h = h
skip_run p ps (c ∷ w) n s h = rw (begins p ps c w n s) h

run_on : (p : Class) (ps : List Part) (u v : List ℕ) → all_of (has p) u ≡ true → spells (Run p ∷ ps) v ≡ true → spells (Run p ∷ ps) (u ++ v) ≡ true
run_on p ps [] v a h = h
run_on p ps (c ∷ u) v a h = let b = and_parts (has p c) (all_of (has p) u) a in rw b.0 (run_on p ps u v b.1 h)

-- What is spelled, the parts spell, where one byte decides.
pub spelled_spells : (ps : List Part) (w : List ℕ) → decides ps ≡ true → Spelled ps w → spells ps w ≡ true
spelled_spells [] w d s = rw s refl
spelled_spells (One p ∷ ps) w d (c, v, e, h, s) = rw (e, h) (spelled_spells ps v d s)
spelled_spells (Perhaps p ∷ ps) w d (inl s) =
    let a = and_parts (none_begins p ps) (decides ps) d in
    skip_perhaps p ps w a.0 s (spelled_spells ps w a.1 s)
spelled_spells (Perhaps p ∷ ps) w d (inr (c, v, e, h, s)) =
    let a = and_parts (none_begins p ps) (decides ps) d in
    rw (e, h) (spelled_spells ps v a.1 s)
spelled_spells (Run p ∷ ps) w d (u, v, e, h, s) =
    let a = and_parts (none_begins p ps) (decides ps) d in
    rw e (run_on p ps u v h (skip_run p ps v a.0 s (spelled_spells ps v a.1 s)))

kind_means : (rows : List (TokenKind × List Part)) (k : TokenKind) (w : List ℕ) → kind_by rows w ≡ Some k → IsKind rows k w
kind_means [] k w e = absurd cc
kind_means (r ∷ rs) k w e = elim (test (spells r.1 w)) [
  | inl y ↦ inl (let f = rw y at e in cc, spelled r.1 w y)
  | inr n ↦ inr (kind_means rs k w (rw n at e))
]

kind_there : (rows : List (TokenKind × List Part)) (k : TokenKind) (w : List ℕ) → all_decide rows ≡ true → IsKind rows k w → (l : TokenKind) × (kind_by rows w ≡ Some l)
kind_there [] k w d h = absurd h
kind_there (r ∷ rs) k w d h = elim (test (spells r.1 w)) [
  | inl y ↦ (r.0, rw y refl)
  | inr n ↦ elim h [
    | inl (e, s) ↦ absurd (not_both (spells r.1 w) (spelled_spells r.1 w ((and_parts (decides r.1) (all_decide rs) d).0) s) n)
    | inr more ↦ let t = kind_there rs k w ((and_parts (decides r.1) (all_decide rs) d).1) more in (t.0, rw n t.1)
  ]
]

table_decides : all_decide table ≡ true
unfolding table
table_decides = refl

-- A token of this kind is what a row of this kind spells.
pub kind_spelled : (k : TokenKind) (w : List ℕ) → kind_of w ≡ Some k → IsKind table k w
kind_spelled k w e = kind_means table k w e

pub spelled_kind : (k : TokenKind) (w : List ℕ) → IsKind table k w → (l : TokenKind) × (kind_of w ≡ Some l)
spelled_kind k w h = kind_there table k w table_decides h
