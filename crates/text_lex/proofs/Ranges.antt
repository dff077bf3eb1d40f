-- Only the rows of its range can begin with a byte.
use Rattle.std.proofs.Common.{◌≡◌, ◌<◌, ◌+◌, ℕ, zero, suc, Bool, true, false, not, List, [], ◌∷◌, ◌++◌, get_or, Fits, w8, length, take, drop, None, refl, sym, ap, ◌∙◌, arith, inl, inr}
use Rattle.std.proofs.lemmas.Bool.{and_parts, cases_lt}
use Rattle.std.proofs.lemmas.List.{take-append-drop, drop-drop}
use Rattle.text_forms.specs.declared.TokenKind.{TokenKind}
use Rattle.text_forms.proofs.Begins.{or_false, not_true}
use Rattle.text_forms.specs.declared.Part.{Part}
use Rattle.text_forms.specs.Lexical.{after, may_end, table}
use Rattle.text_lex.specs.Scan.{front, join, best, range, starts, none_starts, is_covered, all_below}
use Rattle.text_lex.proofs.Fronts.{cases}

all_covered : all_below 256 is_covered ≡ true
unfolding is_covered table
all_covered = refl

pub below_all : (n : ℕ) (p : ℕ → Bool) (c : ℕ) → all_below n p ≡ true → c < n → p c ≡ true
below_all zero p c h lt = absurd (omega arith)
below_all (suc n) p c h lt =
    let a = and_parts (p n) (all_below n p) h in
    elim (cases_lt c n) [
      | inl less ↦ below_all n p c a.1 less
      | inr le ↦ let e : c ≡ n = omega arith in rw e a.0
    ]

no_front : (ps : List Part) (c : ℕ) (cs : List ℕ) → starts c ps ≡ false → front ps (c ∷ cs) ≡ None
no_front ps c cs h =
    let a = or_false (may_end ps) _ h in
    elim (cases (after ps c)) [
      | inl n ↦ rw (n, a.0) refl
      | inr (qs, s) ↦ absurd (let g = rw s at a.1 in cc)
    ]

none_best : (rows : List (TokenKind × List Part)) (c : ℕ) (cs : List ℕ) → none_starts c rows ≡ true → best rows (c ∷ cs) ≡ None
none_best [] c cs h = refl
none_best (r ∷ rs) c cs h =
    let a = and_parts (not (starts c r.1)) (none_starts c rs) h in
    rw (no_front r.1 c cs (not_true (starts c r.1) a.0)) (none_best rs c cs a.1)

best_front : (rows more : List (TokenKind × List Part)) (c : ℕ) (cs : List ℕ) → none_starts c rows ≡ true → best (rows ++ more) (c ∷ cs) ≡ best more (c ∷ cs)
best_front [] more c cs h = refl
best_front (r ∷ rs) more c cs h =
    let a = and_parts (not (starts c r.1)) (none_starts c rs) h in
    rw (no_front r.1 c cs (not_true (starts c r.1) a.0)) (best_front rs more c cs a.1)

best_back : (rows more : List (TokenKind × List Part)) (c : ℕ) (cs : List ℕ) → none_starts c more ≡ true → best (rows ++ more) (c ∷ cs) ≡ best rows (c ∷ cs)
best_back [] more c cs h = none_best more c cs h
best_back (r ∷ rs) more c cs h = ap (join r.0 (front r.1 (c ∷ cs))) (best_back rs more c cs h)

best_slice : (rows : List (TokenKind × List Part)) (i n c : ℕ) (cs : List ℕ) → none_starts c (take i rows) ≡ true → none_starts c (drop (i + n) rows) ≡ true → best (take n (drop i rows)) (c ∷ cs) ≡ best rows (c ∷ cs)
best_slice rows i n c cs f b =
    let p = best_back (take n (drop i rows)) (drop n (drop i rows)) c cs (rw (drop-drop n i rows) b) in
    let q = best_front (take i rows) (drop i rows) c cs f in
    sym (rw (take-append-drop n (drop i rows)) at p) ∙ sym (rw (take-append-drop i rows) at q)

-- The best of the range is the best of the table.
pub best_range : (c : ℕ) (cs : List ℕ) → c < 256 → best (take (range c).1 (drop (range c).0 table)) (c ∷ cs) ≡ best table (c ∷ cs)
unfolding is_covered
best_range c cs lt =
    let a = and_parts (none_starts c (take (range c).0 table)) _ (below_all 256 is_covered c all_covered lt) in
    best_slice table (range c).0 (range c).1 c cs a.0 a.1

pub best_nil : best table [] ≡ None
unfolding table
best_nil = refl

pub best_empty : (text : List ℕ) → length text ≡ 0 → None ≡ best table text
best_empty [] e = sym best_nil
best_empty (c ∷ cs) e = absurd (omega arith)

pub first_fits : (text : List ℕ) (c : ℕ) (cs : List ℕ) → text ≡ c ∷ cs → Fits w8 (get_or text 0 0) → c < 256
first_fits text c cs e h = let g : Fits w8 (get_or (c ∷ cs) 0 0) = rw e at h in omega (arith, g)
