-- What stands behind a token, and ends it.
use Rattle.std.proofs.Common.{◌≡◌, ◌≤◌, ◌<◌, ℕ, Bool, true, false, not, ◌&&◌, ◌||◌, cond, eqb, List, [], ◌∷◌, ◌++◌, length, Option, Some, None, refl, sym, ap, ◌∙◌, arith, inl, inr}
use Rattle.std.proofs.lemmas.Bool.{and_parts, and_from, cases_lt, eqb-true}
use Rattle.text_forms.specs.declared.TokenKind.{TokenKind}
use Rattle.text_forms.proofs.Begins.{test, or_true, not_both, not_true}
use Rattle.text_forms.specs.declared.Class.{Class}
use Rattle.text_forms.specs.declared.Class.TheVariants.{Byte, Digit, HexDigit, NameStart, NamePart, WordStart, WordPart, Exponent, Sign, NotQuote}
use Rattle.text_forms.specs.declared.Part.{Part}
use Rattle.text_forms.specs.declared.Part.TheVariants.{One, Perhaps, Run}
use Rattle.text_forms.specs.Lexical.{has, after, may_end, and_then, spells, kind_by, kind_of, table, Longest}
use Rattle.text_lex.specs.Neighbours.{behind, nothing, ends, is_quoted, avoids, avoids_later, avoided, separates, is_quote, is_plain, Side, outside, inside, closing, in_pairs, all_in_pairs}
use Rattle.text_lex.proofs.Fronts.{cases}
use Rattle.std.specs.Prelude.{codes}
use Rattle.std.proofs.Common.{length-append}
use Rattle.text_lex.specs.Neighbours.{all_of}

-- ---- a byte with which no token goes on

is_nothing : (o : Option (List Part)) → nothing o ≡ true → o ≡ None
is_nothing None h = refl
is_nothing (Some ps) h = absurd cc

spells_none : (ps : List Part) (w v : List ℕ) (c : ℕ) → behind ps (w ++ c ∷ []) ≡ None → spells ps (w ++ c ∷ v) ≡ false
spells_none ps [] v c e = elim (cases (after ps c)) [
  | inl h ↦ rw h refl
  | inr (qs, h) ↦ absurd (let f = rw h at e in cc)
]
spells_none ps (d ∷ w) v c e = elim (cases (after ps d)) [
  | inl h ↦ rw h refl
  | inr (qs, h) ↦ rw h (spells_none qs w v c (rw h at e))
]

kind_none : (rows : List (TokenKind × List Part)) (w v : List ℕ) (c : ℕ) → ends rows w c ≡ true → kind_by rows (w ++ c ∷ v) ≡ None
kind_none [] w v c e = refl
kind_none (r ∷ rs) w v c e =
    let a = and_parts (nothing (behind r.1 (w ++ c ∷ []))) (ends rs w c) e in
    rw (spells_none r.1 w v c (is_nothing _ a.0)) (kind_none rs w v c a.1)

goes_on : (w rest longer more : List ℕ) (c : ℕ) → w ++ (c ∷ rest) ≡ longer ++ more → length w < length longer → (v : List ℕ) × (longer ≡ w ++ (c ∷ v))
goes_on [] rest [] more c e lt = absurd (omega arith)
goes_on [] rest (d ∷ longer) more c e lt = (longer, let h : c ≡ d = cc in cc)
goes_on (x ∷ w) rest [] more c e lt = absurd (omega arith)
goes_on (x ∷ w) rest (d ∷ longer) more c e lt =
    let tail : w ++ (c ∷ rest) ≡ longer ++ more = cc in
    let r = goes_on w rest longer more c tail (omega arith) in
    (r.0, let r1 = r.1 in let h : x ≡ d = cc in cc)

not_longer : (w rest : List ℕ) (c : ℕ) → ends table w c ≡ true → (other : TokenKind) (longer more : List ℕ) → w ++ (c ∷ rest) ≡ longer ++ more → kind_of longer ≡ Some other → length longer ≤ length w
not_longer w rest c ends other longer more e k = elim (cases_lt (length w) (length longer)) [
  | inr le ↦ le
  | inl lt ↦ absurd (
      let g = goes_on w rest longer more c e lt in
      let g1 = g.1 in
      let n = kind_none table w g.0 c ends in
      let m : kind_of (w ++ (c ∷ g.0)) ≡ Some other = ap kind_of (sym g1) ∙ k in cc)
]

-- A token is the longest where the byte behind it goes on with none.
pub ended : (kind : TokenKind) (word rest : List ℕ) (c : ℕ) → kind_of word ≡ Some kind → ends table word c ≡ true → Longest (word ++ c ∷ rest) kind word (c ∷ rest)
ended kind word rest c e ends = record { parts = refl; token = e; longest = not_longer word rest c ends }

-- ---- quotes come in pairs

flip : Bool → ℕ → Bool
flip b c = cond (eqb c 34) (not b) b

flips : Bool → List ℕ → Bool
flips b [] = b
flips b (c ∷ cs) = flips (flip b c) cs

side : Bool → Side
side true = inside
side false = outside

quote_byte : (p : Class) (c : ℕ) → is_quote p ≡ true → has p c ≡ true → eqb c 34 ≡ true
quote_byte (Byte b) c q h = let e = eqb-true b 34 q in let f = eqb-true c b h in rw (f, e) refl
quote_byte Digit c q h = absurd cc
quote_byte HexDigit c q h = absurd cc
quote_byte NameStart c q h = absurd cc
quote_byte NamePart c q h = absurd cc
quote_byte WordStart c q h = absurd cc
quote_byte WordPart c q h = absurd cc
quote_byte Exponent c q h = absurd cc
quote_byte Sign c q h = absurd cc
quote_byte NotQuote c q h = absurd cc

quoted_byte : (p : Class) (c : ℕ) → is_quoted p ≡ true → has p c ≡ true → eqb c 34 ≡ false
quoted_byte (Byte b) c q h = absurd cc
quoted_byte Digit c q h = absurd cc
quoted_byte HexDigit c q h = absurd cc
quoted_byte NameStart c q h = absurd cc
quoted_byte NamePart c q h = absurd cc
quoted_byte WordStart c q h = absurd cc
quoted_byte WordPart c q h = absurd cc
quoted_byte Exponent c q h = absurd cc
quoted_byte Sign c q h = absurd cc
quoted_byte NotQuote c q h = not_true (eqb c 34) h

plain_byte : (p : Class) (c : ℕ) → is_plain p ≡ true → has p c ≡ true → eqb c 34 ≡ false
plain_byte p c q h = elim (test (eqb c 34)) [
  | inr e ↦ e
  | inl e ↦ absurd (let f = eqb-true c 34 e in let g : has p 34 ≡ true = ap (has p) (sym f) ∙ h in not_both (has p 34) g (not_true (has p 34) ((and_parts (not (has p 34)) (not (is_quoted p)) q).0)))
]

step_plain : (ps : List Part) (c : ℕ) → eqb c 34 ≡ false → in_pairs ps outside ≡ true → in_pairs ps (side (flip false c)) ≡ true
unfolding flip side
step_plain ps c e h = rw e h

step_open : (ps : List Part) (c : ℕ) → eqb c 34 ≡ true → in_pairs ps inside ≡ true → in_pairs ps (side (flip false c)) ≡ true
unfolding flip side
step_open ps c e h = rw e h

step_in : (ps : List Part) (c : ℕ) → eqb c 34 ≡ false → in_pairs ps inside ≡ true → in_pairs ps (side (flip true c)) ≡ true
unfolding flip side
step_in ps c e h = rw e h

step_close : (ps : List Part) (c : ℕ) → eqb c 34 ≡ true → in_pairs ps outside ≡ true → in_pairs ps (side (flip true c)) ≡ true
unfolding flip side
step_close ps c e h = rw e h

-- what one step leaves, where the part has the byte
left_is : (ps qs : List Part) (b : Bool) (o : Option (List Part)) → b ≡ true → cond b (Some ps) o ≡ Some qs → ps ≡ qs
left_is ps qs true o e h = cc
left_is ps qs false o e h = absurd cc

left_on : (ps qs : List Part) (b : Bool) (o : Option (List Part)) → b ≡ false → cond b (Some ps) o ≡ Some qs → o ≡ Some qs
left_on ps qs true o e h = absurd cc
left_on ps qs false o e h = h

kept : (ps qs : List Part) (s : Side) → ps ≡ qs → in_pairs ps s ≡ true → in_pairs qs s ≡ true
kept ps qs s e h = rw (sym e) h

outside_step : (ps qs : List Part) (c : ℕ) → in_pairs ps outside ≡ true → after ps c ≡ Some qs → in_pairs qs (side (flip false c)) ≡ true
outside_step [] qs c h e = absurd cc
outside_step (One p ∷ ps) qs c h e = elim (test (has p c)) [
  | inr n ↦ absurd (let z = left_on ps qs (has p c) None n e in cc)
  | inl y ↦ elim (test (is_quote p)) [
    | inl q ↦ kept ps qs _ (left_is ps qs (has p c) None y e) (step_open ps c (quote_byte p c q y) (rw q at h))
    | inr q ↦ let a = and_parts (is_plain p) (in_pairs ps outside) (rw q at h) in kept ps qs _ (left_is ps qs (has p c) None y e) (step_plain ps c (plain_byte p c a.0 y) a.1)
  ]
]
outside_step (Perhaps p ∷ ps) qs c h e =
    let a = and_parts (is_plain p) (in_pairs ps outside) h in
    elim (test (has p c)) [
      | inl y ↦ kept ps qs _ (left_is ps qs (has p c) (after ps c) y e) (step_plain ps c (plain_byte p c a.0 y) a.1)
      | inr n ↦ outside_step ps qs c a.1 (left_on ps qs (has p c) (after ps c) n e)
    ]
outside_step (Run p ∷ ps) qs c h e =
    let a = and_parts (is_plain p) (in_pairs ps outside) h in
    elim (test (has p c)) [
      | inl y ↦ kept (Run p ∷ ps) qs _ (left_is (Run p ∷ ps) qs (has p c) (after ps c) y e) (step_plain (Run p ∷ ps) c (plain_byte p c a.0 y) h)
      | inr n ↦ outside_step ps qs c a.1 (left_on (Run p ∷ ps) qs (has p c) (after ps c) n e)
    ]

closing_step : (ps qs : List Part) (c : ℕ) → in_pairs ps closing ≡ true → after ps c ≡ Some qs → in_pairs qs (side (flip true c)) ≡ true
closing_step [] qs c h e = absurd cc
closing_step (One p ∷ ps) qs c h e =
    let a = and_parts (is_quote p) (in_pairs ps outside) h in
    elim (test (has p c)) [
      | inr n ↦ absurd (let z = left_on ps qs (has p c) None n e in cc)
      | inl y ↦ kept ps qs _ (left_is ps qs (has p c) None y e) (step_close ps c (quote_byte p c a.0 y) a.1)
    ]
closing_step (Perhaps p ∷ ps) qs c h e = absurd cc
closing_step (Run p ∷ ps) qs c h e = absurd cc

inside_step : (ps qs : List Part) (c : ℕ) → in_pairs ps inside ≡ true → after ps c ≡ Some qs → in_pairs qs (side (flip true c)) ≡ true
inside_step [] qs c h e = absurd cc
inside_step (One p ∷ ps) qs c h e = absurd cc
inside_step (Perhaps p ∷ ps) qs c h e = absurd cc
inside_step (Run p ∷ ps) qs c h e =
    let a = and_parts (is_quoted p) (in_pairs ps closing) h in
    elim (test (has p c)) [
      | inl y ↦ kept (Run p ∷ ps) qs _ (left_is (Run p ∷ ps) qs (has p c) (after ps c) y e) (step_in (Run p ∷ ps) c (quoted_byte p c a.0 y) h)
      | inr n ↦ closing_step ps qs c a.1 (left_on (Run p ∷ ps) qs (has p c) (after ps c) n e)
    ]

side_step : (b : Bool) (ps qs : List Part) (c : ℕ) → in_pairs ps (side b) ≡ true → after ps c ≡ Some qs → in_pairs qs (side (flip b c)) ≡ true
unfolding side
side_step true ps qs c h e = inside_step ps qs c h e
side_step false ps qs c h e = outside_step ps qs c h e

-- the parts that are left know whether a quote is open
open_behind : (b : Bool) (ps qs : List Part) (w : List ℕ) → in_pairs ps (side b) ≡ true → behind ps w ≡ Some qs → in_pairs qs (side (flips b w)) ≡ true
unfolding flips
open_behind b ps qs [] h e = let f : ps ≡ qs = cc in kept ps qs (side b) f h
open_behind b ps qs (c ∷ w) h e = elim (cases (after ps c)) [
  | inl n ↦ absurd (let z = rw n at e in cc)
  | inr (rs, s) ↦ open_behind (flip b c) rs qs w (side_step b ps rs c h s) (rw s at e)
]

not_open : (ps : List Part) (b : Bool) → may_end ps ≡ true → in_pairs ps (side b) ≡ true → b ≡ false
unfolding side
not_open ps false m h = refl
not_open [] true m h = absurd cc
not_open (One p ∷ ps) true m h = absurd cc
not_open (Perhaps p ∷ ps) true m h = absurd cc
not_open (Run p ∷ []) true m h = absurd (let a = (and_parts (is_quoted p) false h).1 in cc)
not_open (Run p ∷ One q ∷ ps) true m h = absurd cc
not_open (Run p ∷ Perhaps q ∷ ps) true m h = absurd (let a = (and_parts (is_quoted p) false h).1 in cc)
not_open (Run p ∷ Run q ∷ ps) true m h = absurd (let a = (and_parts (is_quoted p) false h).1 in cc)

-- ---- a byte that separates

avoids_on : (c d : ℕ) (ps qs : List Part) → avoids c ps ≡ true → after ps d ≡ Some qs → avoids c qs ≡ true
avoids_on c d [] qs h e = absurd cc
avoids_on c d (One p ∷ ps) qs h e = elim (test (has p d)) [
  | inr n ↦ absurd (let z = left_on ps qs (has p d) None n e in cc)
  | inl y ↦ rw (sym (left_is ps qs (has p d) None y e)) ((and_parts (not (has p c)) (avoids c ps) h).1)
]
avoids_on c d (Perhaps p ∷ ps) qs h e =
    let a = and_parts (not (has p c)) (avoids c ps) h in
    elim (test (has p d)) [
      | inr n ↦ avoids_on c d ps qs a.1 (left_on ps qs (has p d) (after ps d) n e)
      | inl y ↦ rw (sym (left_is ps qs (has p d) (after ps d) y e)) a.1
    ]
avoids_on c d (Run p ∷ ps) qs h e =
    let a = and_parts (is_quoted p || not (has p c)) (avoids c ps) h in
    elim (test (has p d)) [
      | inr n ↦ avoids_on c d ps qs a.1 (left_on (Run p ∷ ps) qs (has p d) (after ps d) n e)
      | inl y ↦ rw (sym (left_is (Run p ∷ ps) qs (has p d) (after ps d) y e)) h
    ]

avoids_first : (c d : ℕ) (ps qs : List Part) → avoids_later c ps ≡ true → after ps d ≡ Some qs → avoids c qs ≡ true
avoids_first c d [] qs h e = absurd cc
avoids_first c d (One p ∷ ps) qs h e = elim (test (has p d)) [
  | inr n ↦ absurd (let z = left_on ps qs (has p d) None n e in cc)
  | inl y ↦ rw (sym (left_is ps qs (has p d) None y e)) h
]
avoids_first c d (Perhaps p ∷ ps) qs h e = elim (test (has p d)) [
  | inr n ↦ avoids_on c d ps qs h (left_on ps qs (has p d) (after ps d) n e)
  | inl y ↦ rw (sym (left_is ps qs (has p d) (after ps d) y e)) h
]
avoids_first c d (Run p ∷ ps) qs h e = avoids_on c d (Run p ∷ ps) qs h e

avoids_behind : (c : ℕ) (ps qs : List Part) (w : List ℕ) → avoids c ps ≡ true → behind ps w ≡ Some qs → avoids c qs ≡ true
avoids_behind c ps qs [] h e = let f : ps ≡ qs = cc in rw (sym f) h
avoids_behind c ps qs (d ∷ w) h e = elim (cases (after ps d)) [
  | inl n ↦ absurd (let z = rw n at e in cc)
  | inr (rs, s) ↦ avoids_behind c rs qs w (avoids_on c d ps rs h s) (rw s at e)
]

stops : (c : ℕ) (ps : List Part) → in_pairs ps outside ≡ true → avoids c ps ≡ true → after ps c ≡ None
stops c [] h a = refl
stops c (One p ∷ ps) h a = rw (not_true (has p c) ((and_parts (not (has p c)) (avoids c ps) a).0)) refl
stops c (Perhaps p ∷ ps) h a =
    let b = and_parts (not (has p c)) (avoids c ps) a in
    let i = and_parts (is_plain p) (in_pairs ps outside) h in
    rw (not_true (has p c) b.0) (stops c ps i.1 b.1)
stops c (Run p ∷ ps) h a =
    let b = and_parts (is_quoted p || not (has p c)) (avoids c ps) a in
    let i = and_parts (is_plain p) (in_pairs ps outside) h in
    let j = and_parts (not (has p 34)) (not (is_quoted p)) i.0 in
    elim (or_true (is_quoted p) (not (has p c)) b.0) [
      | inl q ↦ absurd (not_both (is_quoted p) q (not_true (is_quoted p) j.1))
      | inr n ↦ rw (not_true (has p c) n) (stops c ps i.1 b.1)
    ]

behind_append : (ps : List Part) (w v : List ℕ) → behind ps (w ++ v) ≡ and_then (behind ps w) (λ qs. behind qs v) None
behind_append ps [] v = refl
behind_append ps (c ∷ w) v = elim (cases (after ps c)) [
  | inl h ↦ rw h refl
  | inr (qs, h) ↦ rw h (behind_append qs w v)
]

ends_row : (ps : List Part) (d : ℕ) (w : List ℕ) (c : ℕ) → in_pairs ps outside ≡ true → avoids_later c ps ≡ true → flips false (d ∷ w) ≡ false → behind ps ((d ∷ w) ++ c ∷ []) ≡ None
unfolding side flips
ends_row ps d w c h a f = elim (cases (after ps d)) [
  | inl n ↦ rw n refl
  | inr (rs, s) ↦ elim (cases (behind rs w)) [
    | inl n ↦ rw (s, behind_append rs w (c ∷ []), n) refl
    | inr (qs, t) ↦
        let o : in_pairs qs (side (flips (flip false d) w)) ≡ true = open_behind (flip false d) rs qs w (side_step false ps rs d h s) t in
        let p : in_pairs qs outside ≡ true = rw f at o in
        let z = stops c qs p (avoids_behind c rs qs w (avoids_first c d ps rs a s) t) in
        rw (s, behind_append rs w (c ∷ []), t, z) refl
  ]
]

ends_rows : (rows : List (TokenKind × List Part)) (d : ℕ) (w : List ℕ) (c : ℕ) → all_in_pairs rows ≡ true → avoided c rows ≡ true → flips false (d ∷ w) ≡ false → ends rows (d ∷ w) c ≡ true
ends_rows [] d w c h a f = refl
ends_rows (r ∷ rs) d w c h a f =
    let i = and_parts (in_pairs r.1 outside) (all_in_pairs rs) h in
    let j = and_parts (avoids_later c r.1) (avoided c rs) a in
    and_from _ _ (ap nothing (ends_row r.1 d w c i.0 j.0 f)) (ends_rows rs d w c i.1 j.1 f)

spells_end : (ps : List Part) (w : List ℕ) → spells ps w ≡ true → (qs : List Part) × (behind ps w ≡ Some qs) × (may_end qs ≡ true)
spells_end ps [] h = (ps, refl, h)
spells_end ps (c ∷ w) h = elim (cases (after ps c)) [
  | inl n ↦ absurd (let z = rw n at h in cc)
  | inr (qs, s) ↦ let r = spells_end qs w (rw s at h) in (r.0, rw s r.1, r.2)
]

-- the quotes of a token come in pairs
closed : (rows : List (TokenKind × List Part)) (w : List ℕ) (k : TokenKind) → all_in_pairs rows ≡ true → kind_by rows w ≡ Some k → flips false w ≡ false
unfolding side
closed [] w k h e = absurd cc
closed (r ∷ rs) w k h e =
    let i = and_parts (in_pairs r.1 outside) (all_in_pairs rs) h in
    elim (test (spells r.1 w)) [
      | inl s ↦ let t = spells_end r.1 w s in not_open t.0 (flips false w) t.2 (open_behind false r.1 t.0 w i.0 t.1)
      | inr n ↦ closed rs w k i.1 (rw n at e)
    ]

table_in_pairs : all_in_pairs table ≡ true
unfolding table
table_in_pairs = refl

no_empty : kind_of [] ≡ None
unfolding table
no_empty = refl

-- A token is the longest where a byte that separates is behind it.
pub parted : (kind : TokenKind) (word rest : List ℕ) (c : ℕ) → kind_of word ≡ Some kind → separates c ≡ true → Longest (word ++ c ∷ rest) kind word (c ∷ rest)
parted kind [] rest c e s = absurd (let z = no_empty in cc)
parted kind (d ∷ word) rest c e s = ended kind (d ∷ word) rest c e (ends_rows table d word c table_in_pairs s (closed table (d ∷ word) kind table_in_pairs e))

-- these separate: white space, and `; , ( ) [ ] { } < > * = ! | # @ %`
pub separators : all_of separates (codes "\t\n\r ;,()[]{}<>*=!|#@%") ≡ true
unfolding table
separators = refl

pub space_separates : separates 32 ≡ true
unfolding table
space_separates = refl

pub tab_separates : separates 9 ≡ true
unfolding table
tab_separates = refl

pub return_separates : separates 13 ≡ true
unfolding table
return_separates = refl

pub feed_separates : separates 10 ≡ true
unfolding table
feed_separates = refl

-- ---- at the end of the text

pub last : (kind : TokenKind) (word : List ℕ) → kind_of word ≡ Some kind → Longest (word ++ []) kind word []
last kind word e = record { parts = refl; token = e; longest = λ other longer more f k. omega (arith, ap length f, length-append word [], length-append longer more) }

-- ---- a token that goes on with no byte

abbrev pub whole : Option (List Part) → Bool
whole None = true
whole (Some []) = true
whole (Some (p ∷ ps)) = false

abbrev pub all_whole : List (TokenKind × List Part) → List ℕ → Bool
all_whole [] w = true
all_whole (r ∷ rs) w = whole (behind r.1 w) && all_whole rs w

whole_ends : (o : Option (List Part)) (c : ℕ) → whole o ≡ true → and_then o (λ qs. behind qs (c ∷ [])) None ≡ None
whole_ends None c h = refl
whole_ends (Some []) c h = refl
whole_ends (Some (p ∷ ps)) c h = absurd cc

whole_rows : (rows : List (TokenKind × List Part)) (w : List ℕ) (c : ℕ) → all_whole rows w ≡ true → ends rows w c ≡ true
whole_rows [] w c h = refl
whole_rows (r ∷ rs) w c h =
    let a = and_parts (whole (behind r.1 w)) (all_whole rs w) h in
    and_from _ _ (ap nothing (behind_append r.1 w (c ∷ []) ∙ whole_ends (behind r.1 w) c a.0)) (whole_rows rs w c a.1)

-- A mark is a token whatever is behind it.
pub alone : (kind : TokenKind) (word rest : List ℕ) → kind_of word ≡ Some kind → all_whole table word ≡ true → Longest (word ++ rest) kind word rest
alone kind word [] e h = last kind word e
alone kind word (c ∷ rest) e h = ended kind word rest c e (whole_rows table word c h)

-- each of these bytes is one
pub marks : all_of (λ c. all_whole table (c ∷ [])) (codes "=,()[]{}<>*:|") ≡ true
unfolding table
marks = refl

-- what else stands behind these with no blank between
pub bang_quote : ends table (codes "!") 34 ≡ true
unfolding table
bang_quote = refl
