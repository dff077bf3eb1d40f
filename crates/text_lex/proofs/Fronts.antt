-- The longest front of a text that a row of the table spells, and that any row does.
use Rattle.std.proofs.Common.{◌≡◌, ◌≤◌, ◌<◌, ◌+◌, ℕ, zero, suc, Bool, true, false, cond, List, [], ◌∷◌, ◌++◌, length, add-one, take, drop, drop-cons, get_or, Option, Some, None, refl, sym, ap, ◌∙◌, arith, ◌⊎◌, inl, inr}
use Rattle.std.specs.Prelude.{nat_lt, MatchOption, map}
use Rattle.std.proofs.lemmas.Bool.{cases_lt}
use Rattle.std.proofs.lemmas.List.{take-append-drop, length-take}
use Rattle.text_forms.specs.declared.TokenKind.{TokenKind}
use Rattle.text_forms.proofs.Begins.{test}
use Rattle.text_forms.specs.declared.Part.{Part}
use Rattle.text_forms.specs.Lexical.{after, may_end, spells, kind_by, kind_of, table, NoToken}
use Rattle.text_lex.specs.Scan.{far, front, join, best, At}

abbrev pub cases : {A : Type 0} (o : Option A) → (o ≡ None) ⊎ ((a : A) × (o ≡ Some a))
cases None = inl refl
cases (Some a) = inr (a, refl)

-- nothing longer than this is a front of the text and passes
pub record Within (p : List ℕ → Bool) (text : List ℕ) (n : ℕ) : Type 0 where
  pub fits : n ≤ length text
  pub passes : p (take n text) ≡ true
  pub longest : (w more : List ℕ) → text ≡ w ++ more → n < length w → p w ≡ false

-- nothing but the empty front passes
abbrev pub Nothing : (List ℕ → Bool) → List ℕ → Type 0
Nothing p text = (c : ℕ) (w more : List ℕ) → text ≡ (c ∷ w) ++ more → p (c ∷ w) ≡ false

abbrev pub Far : List Part → List ℕ → ℕ → Option ℕ → Type 0
Far ps text n b = ((far ps text n b ≡ b) × Nothing (spells ps) text) ⊎ ((m : ℕ) × (far ps text n b ≡ Some (n + m)) × Within (spells ps) text m)

one_step : (ps qs : List Part) (c : ℕ) (cs : List ℕ) → after ps c ≡ Some qs → (w more : List ℕ) (d : ℕ) → c ∷ cs ≡ (d ∷ w) ++ more → spells qs w ≡ false → spells ps (d ∷ w) ≡ false
one_step ps qs c cs e w more d same h = let cd : d ≡ c = cc in rw (cd, e) h

far_is : (ps : List Part) (text : List ℕ) (n : ℕ) (b : Option ℕ) → Far ps text n b
far_is ps [] n b = inl (refl, λ c w more e. absurd cc)
far_is ps (c ∷ cs) n b = elim (cases (after ps c)) [
  | inl e ↦ inl (rw e refl, λ d w more same. let cd : d ≡ c = cc in rw (cd, e) refl)
  | inr (qs, e) ↦ elim (far_is qs cs (n + 1) (cond (may_end qs) (Some (n + 1)) b)) [
    | inl h ↦ elim (test (may_end qs)) [
      | inl done ↦ inr (
        1,
        rw e (h.0 ∙ rw done refl),
        record {
          fits = omega arith;
          passes = rw e done;
          longest = λ w more. elim w as (λ w. c ∷ cs ≡ w ++ more → 1 < length w → spells ps w ≡ false) [
            | [] ↦ λ same lt. absurd (omega arith)
            | d ∷ v ↦ elim v as (λ v. c ∷ cs ≡ (d ∷ v) ++ more → 1 < length (d ∷ v) → spells ps (d ∷ v) ≡ false) [
              | [] ↦ λ same lt. absurd (omega arith)
              | f ∷ u ↦ λ same lt. let tail : cs ≡ (f ∷ u) ++ more = cc in one_step ps qs c cs e (f ∷ u) more d same (h.1 f u more tail)
            ]
          ];
        },
      )
      | inr open_ ↦ inl (
        rw e (h.0 ∙ rw open_ refl),
        λ d v more. elim v as (λ v. c ∷ cs ≡ (d ∷ v) ++ more → spells ps (d ∷ v) ≡ false) [
          | [] ↦ λ same. one_step ps qs c cs e [] more d same open_
          | f ∷ u ↦ λ same. let tail : cs ≡ (f ∷ u) ++ more = cc in one_step ps qs c cs e (f ∷ u) more d same (h.1 f u more tail)
        ],
      )
    ]
    | inr (m, is, h) ↦ inr (
      suc m,
      rw e (is ∙ ap (λ (k : ℕ). Some k) (omega arith)),
      record {
        fits = let k : m ≤ length cs = h.fits in omega arith;
        passes = rw e h.passes;
        longest = λ w more. elim w as (λ w. c ∷ cs ≡ w ++ more → suc m < length w → spells ps w ≡ false) [
          | [] ↦ λ same lt. absurd (omega arith)
          | d ∷ v ↦ λ same lt. let tail : cs ≡ v ++ more = cc in one_step ps qs c cs e v more d same (h.longest v more tail (omega arith))
        ];
      },
    )
  ]
]

-- what a front is the longest of
abbrev pub Fits : List Part → List ℕ → Option ℕ → Type 0
Fits ps text None = (w more : List ℕ) → text ≡ w ++ more → spells ps w ≡ false
Fits ps text (Some n) = Within (spells ps) text n

from_nothing : (ps : List Part) (text : List ℕ) → Nothing (spells ps) text → Fits ps text (cond (may_end ps) (Some 0) None)
from_nothing ps text h = elim (test (may_end ps)) [
  | inl done ↦ rw done (record {
    fits = omega arith;
    passes = done;
    longest = λ w more. elim w as (λ w. text ≡ w ++ more → 0 < length w → spells ps w ≡ false) [
      | [] ↦ λ same lt. absurd (omega arith)
      | d ∷ v ↦ λ same lt. h d v more same
    ];
  })
  | inr open_ ↦ rw open_ (λ w more. elim w as (λ w. text ≡ w ++ more → spells ps w ≡ false) [ [] ↦ λ same. open_ | d ∷ v ↦ λ same. h d v more same ])
]

-- The front is the longest that the parts spell.
pub front_is : (ps : List Part) (text : List ℕ) → Fits ps text (front ps text)
front_is ps text = elim (far_is ps text 0 (cond (may_end ps) (Some 0) None)) [
  | inl h ↦ rw h.0 (from_nothing ps text h.1)
  | inr (m, is, h) ↦ let z : 0 + m ≡ m = omega arith in rw (is, z) h
]

-- the longest front that is a token by these rows
pub record ByRows (rows : List (TokenKind × List Part)) (text : List ℕ) (k : TokenKind) (n : ℕ) : Type 0 where
  pub fits : n ≤ length text
  pub kind : kind_by rows (take n text) ≡ Some k
  pub longest : (w more : List ℕ) → text ≡ w ++ more → n < length w → kind_by rows w ≡ None

abbrev pub Best : List (TokenKind × List Part) → List ℕ → Option (TokenKind × ℕ) → Type 0
Best rows text None = (w more : List ℕ) → text ≡ w ++ more → kind_by rows w ≡ None
Best rows text (Some b) = ByRows rows text b.0 b.1

longer : (r : TokenKind × List Part) (rs : List (TokenKind × List Part)) (w : List ℕ) → spells r.1 w ≡ false → kind_by rs w ≡ None → kind_by (r ∷ rs) w ≡ None
longer r rs w a b = rw a b

length_front : (n : ℕ) (text : List ℕ) → n ≤ length text → length (take n text) ≡ n
length_front n text h = omega (arith, length-take n text)

join_is : (r : TokenKind × List Part) (rs : List (TokenKind × List Part)) (text : List ℕ) (f : Option ℕ) (b : Option (TokenKind × ℕ)) → Fits r.1 text f → Best rs text b → Best (r ∷ rs) text (join r.0 f b)
join_is r rs text None None f b = λ w more e. longer r rs w (f w more e) (b w more e)
join_is r rs text None (Some b) f g = record {
  fits = g.fits;
  kind = rw (f (take b.1 text) (drop b.1 text) (sym (take-append-drop b.1 text))) g.kind;
  longest = λ w more e lt. longer r rs w (f w more e) (g.longest w more e lt);
}
join_is r rs text (Some n) None f g = record {
  fits = f.fits;
  kind = rw f.passes refl;
  longest = λ w more e lt. longer r rs w (f.longest w more e lt) (g w more e);
}
join_is r rs text (Some n) (Some b) f g = elim (cases_lt n b.1) [
  | inl lt ↦
      let e : nat_lt n b.1 ≡ true = grind arith in
      let no : spells r.1 (take b.1 text) ≡ false = f.longest (take b.1 text) (drop b.1 text) (sym (take-append-drop b.1 text)) (omega (arith, length_front b.1 text g.fits)) in
      rw e (record {
        fits = g.fits;
        kind = rw no g.kind;
        longest = λ w more e lt2. longer r rs w (f.longest w more e (omega arith)) (g.longest w more e lt2);
      })
  | inr le ↦
      let e : nat_lt n b.1 ≡ false = grind arith in
      rw e (record {
        fits = f.fits;
        kind = rw f.passes refl;
        longest = λ w more e lt2. longer r rs w (f.longest w more e lt2) (g.longest w more e (omega arith));
      })
]

pub best_is : (rows : List (TokenKind × List Part)) (text : List ℕ) → Best rows text (best rows text)
best_is [] text = λ w more e. refl
best_is (r ∷ rs) text = join_is r rs text (front r.1 text) (best rs text) (front_is r.1 text) (best_is rs text)

no_empty : kind_of [] ≡ None
unfolding table
no_empty = refl

no_token : (text : List ℕ) → Best table text None → NoToken text
no_token text h other longer more e k = absurd (let n = h longer more e in cc)

at_front : (text : List ℕ) (k : TokenKind) (n : ℕ) → ByRows table text k n → At text k n
at_front text k zero h = absurd (let e = h.kind in let z = no_empty in cc)
at_front text k (suc n) h = record {
  within = h.fits;
  some = omega arith;
  longest = record {
    parts = sym (take-append-drop (suc n) text);
    token = h.kind;
    longest = λ other longer more e f. elim (cases_lt (suc n) (length longer)) [
      | inl lt ↦ absurd (let none = h.longest longer more e lt in cc)
      | inr le ↦ omega (arith, length_front (suc n) text h.fits)
    ];
  };
}

found_is : (text : List ℕ) (o : Option (TokenKind × ℕ)) → Best table text o → MatchOption o (NoToken text) (λ t. At text t.0 t.1)
found_is text None h = no_token text h
found_is text (Some b) h = at_front text b.0 b.1 h

-- What is found at the front is the longest token there.
pub found : (text : List ℕ) (o : Option (TokenKind × ℕ)) → o ≡ best table text → MatchOption o (NoToken text) (λ t. At text t.0 t.1)
found text o e = rw e (found_is text (best table text) (best_is table text))

-- the rows from the last to the first
pub best_step : {R : Type 0} (v : R → TokenKind × List Part) (rows : List R) (i : ℕ) (d : R) (text : List ℕ) → i < length rows → best (map v (drop i rows)) text ≡ join (v (get_or rows i d)).0 (front (v (get_or rows i d)).1 text) (best (map v (drop (i + 1) rows)) text)
best_step v rows i d text lt = rw (add-one, drop-cons rows i d lt) refl
