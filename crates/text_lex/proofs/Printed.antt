-- Which tokens the texts of names and numbers are.
use Rattle.std.proofs.Common.{◌≡◌, ◌<◌, ℕ, Bool, true, false, not, ◌||◌, eqb, List, [], ◌∷◌, ◌++◌, Some, refl, arith, inl, inr}
use Rattle.std.proofs.lemmas.Bool.{and_parts, and_from, eqb-true}
use Rattle.std.proofs.lemmas.Bool.Decides.{nat_tests}
use Rattle.text_forms.specs.declared.TokenKind.TheVariants.{Quoted, Local, Global, Label, Word, Number, TextConstant, Metadata, AttributeGroup}
use Rattle.text_forms.specs.declared.Class.{Class}
use Rattle.text_forms.specs.declared.Class.TheVariants.{Byte, Digit, NameStart, NamePart, WordPart, NotQuote}
use Rattle.text_forms.specs.declared.Part.{Part}
use Rattle.text_forms.specs.declared.Part.TheVariants.{One, Run}
use Rattle.text_forms.specs.Lexical.{has, is_digit, is_letter, begins_name, spells, kind_of, table}
use Rattle.text_lex.specs.Names.{all_digits, is_digits, is_plain_name, is_quotable}
use Rattle.text_lex.specs.Neighbours.{all_of}
use Rattle.text_lex.proofs.Decimals.{digits_all}
use Rattle.text_lex.proofs.Ranges.{below_all}
use Rattle.text_lex.specs.Scan.{all_below}
use Rattle.text_forms.proofs.Begins.{test, or_true, not_true, or_left, or_right}

-- ---- what parts spell

-- a run alone
run_all : (p : Class) (w : List ℕ) → all_of (has p) w ≡ true → spells (Run p ∷ []) w ≡ true
run_all p [] h = refl
run_all p (c ∷ w) h = let a = and_parts (has p c) (all_of (has p) w) h in rw a.0 (run_all p w a.1)

-- a run, and what is behind it
run_then : (p : Class) (ps : List Part) (w v : List ℕ) → all_of (has p) w ≡ true → spells (Run p ∷ ps) v ≡ true → spells (Run p ∷ ps) (w ++ v) ≡ true
run_then p ps [] v h e = e
run_then p ps (c ∷ w) v h e = let a = and_parts (has p c) (all_of (has p) w) h in rw a.0 (run_then p ps w v a.1 e)

-- a run does not reach what has to follow it
run_short : (p : Class) (ps : List Part) (w v : List ℕ) → all_of (has p) w ≡ true → spells (Run p ∷ ps) v ≡ false → spells (Run p ∷ ps) (w ++ v) ≡ false
run_short p ps [] v h e = e
run_short p ps (c ∷ w) v h e = let a = and_parts (has p c) (all_of (has p) w) h in rw a.0 (run_short p ps w v a.1 e)

-- no colon behind the run
no_colon : (p : Class) (w : List ℕ) → all_of (has p) w ≡ true → spells (Run p ∷ One (Byte 58) ∷ []) w ≡ false
no_colon p [] h = refl
no_colon p (c ∷ w) h = let a = and_parts (has p c) (all_of (has p) w) h in rw a.0 (no_colon p w a.1)

-- ---- which bytes are in which classes

-- by trying each byte
implies : (ℕ → Bool) → (ℕ → Bool) → ℕ → Bool
implies p q c = not (p c) || q c

tried : (p q : ℕ → Bool) (c : ℕ) → all_below 58 (implies p q) ≡ true → c < 58 → p c ≡ true → q c ≡ true
unfolding implies
tried p q c h lt e = elim (or_true (not (p c)) (q c) (below_all 58 (implies p q) c h lt)) [
  | inr y ↦ y
  | inl n ↦ absurd (let f = not_true (p c) n in cc)
]

digit_below : (c : ℕ) → is_digit c ≡ true → c < 58
digit_below c h = grind (arith, nat_tests)

digit_no_name : (c : ℕ) → is_digit c ≡ true → begins_name c ≡ false
unfolding implies
digit_no_name c h = not_true (begins_name c) (tried is_digit (λ d. not (begins_name d)) c refl (digit_below c h) h)

digit_no_quote : (c : ℕ) → is_digit c ≡ true → eqb c 34 ≡ false
unfolding implies
digit_no_quote c h = not_true (eqb c 34) (tried is_digit (λ d. not (eqb d 34)) c refl (digit_below c h) h)

digit_no_minus : (c : ℕ) → is_digit c ≡ true → eqb c 45 ≡ false
unfolding implies
digit_no_minus c h = not_true (eqb c 45) (tried is_digit (λ d. not (eqb d 45)) c refl (digit_below c h) h)

name_no_quote : (c : ℕ) → begins_name c ≡ true → eqb c 34 ≡ false
name_no_quote c h = elim (test (eqb c 34)) [
  | inr n ↦ n
  | inl y ↦ absurd (let e = eqb-true c 34 y in let f : begins_name 34 ≡ true = rw e at h in cc)
]

-- a digit is a part of names and of words
digit_name : (c : ℕ) → is_digit c ≡ true → has NamePart c ≡ true
digit_name c h = or_right (begins_name c) (is_digit c) h

digit_word : (c : ℕ) → is_digit c ≡ true → has WordPart c ≡ true
digit_word c h = or_right (is_letter c) (is_digit c || (eqb c 95 || eqb c 46)) (or_left (is_digit c) (eqb c 95 || eqb c 46) h)

all_parts : (p : Class) (ds : List ℕ) → ((c : ℕ) → is_digit c ≡ true → has p c ≡ true) → all_digits ds ≡ true → all_of (has p) ds ≡ true
all_parts p [] f h = refl
all_parts p (d ∷ ds) f h =
    let a = and_parts (is_digit d) (all_of is_digit ds) h in
    and_from (has p d) (all_of (has p) ds) (f d a.0) (all_parts p ds f a.1)

-- ---- fronts of rows

name_parts : (s : List ℕ) → is_plain_name s ≡ true → spells (One NameStart ∷ Run NamePart ∷ []) s ≡ true
name_parts [] h = absurd cc
name_parts (c ∷ s) h = let a = and_parts (begins_name c) (all_of (has NamePart) s) h in rw a.0 (run_all NamePart s a.1)

name_colon : (s : List ℕ) → is_plain_name s ≡ true → spells (One NameStart ∷ Run NamePart ∷ One (Byte 58) ∷ []) (s ++ 58 ∷ []) ≡ true
name_colon [] h = absurd cc
name_colon (c ∷ s) h = let a = and_parts (begins_name c) (all_of (has NamePart) s) h in rw a.0 (run_then NamePart (One (Byte 58) ∷ []) s (58 ∷ []) a.1 refl)

digit_parts : (ds : List ℕ) → is_digits ds ≡ true → spells (One Digit ∷ Run Digit ∷ []) ds ≡ true
digit_parts [] h = absurd cc
digit_parts (d ∷ ds) h = let a = and_parts (is_digit d) (all_of is_digit ds) h in rw a.0 (run_all Digit ds a.1)

quoted_parts : (bs : List ℕ) → is_quotable bs ≡ true → spells (Run NotQuote ∷ One (Byte 34) ∷ []) (bs ++ 34 ∷ []) ≡ true
quoted_parts bs h = run_then NotQuote (One (Byte 34) ∷ []) bs (34 ∷ []) h refl

-- a row that begins with the byte of a name has no digit there
name_row : (ps : List Part) (ds : List ℕ) → is_digits ds ≡ true → spells (One NameStart ∷ ps) ds ≡ false
name_row ps [] h = absurd cc
name_row ps (d ∷ ds) h = rw (digit_no_name d ((and_parts (is_digit d) (all_of is_digit ds) h).0)) refl

quote_row : (ps : List Part) (ds : List ℕ) → is_digits ds ≡ true → spells (One (Byte 34) ∷ ps) ds ≡ false
quote_row ps [] h = absurd cc
quote_row ps (d ∷ ds) h = rw (digit_no_quote d ((and_parts (is_digit d) (all_of is_digit ds) h).0)) refl

-- ---- names behind a byte that says of what

pub local_named : (s : List ℕ) → is_plain_name s ≡ true → kind_of (37 ∷ s) ≡ Some Local
unfolding table
local_named s h = rw (name_parts s h) refl

pub local_quoted : (bs : List ℕ) → is_quotable bs ≡ true → kind_of (37 ∷ 34 ∷ (bs ++ 34 ∷ [])) ≡ Some Local
unfolding table
local_quoted bs h = rw (quoted_parts bs h) refl

pub local_numbered : (ds : List ℕ) → is_digits ds ≡ true → kind_of (37 ∷ ds) ≡ Some Local
unfolding table
local_numbered ds h = rw (name_row (Run NamePart ∷ []) ds h, quote_row (Run NotQuote ∷ One (Byte 34) ∷ []) ds h, digit_parts ds h) refl

pub global_named : (s : List ℕ) → is_plain_name s ≡ true → kind_of (64 ∷ s) ≡ Some Global
unfolding table
global_named s h = rw (name_parts s h) refl

pub global_quoted : (bs : List ℕ) → is_quotable bs ≡ true → kind_of (64 ∷ 34 ∷ (bs ++ 34 ∷ [])) ≡ Some Global
unfolding table
global_quoted bs h = rw (quoted_parts bs h) refl

pub global_numbered : (ds : List ℕ) → is_digits ds ≡ true → kind_of (64 ∷ ds) ≡ Some Global
unfolding table
global_numbered ds h = rw (name_row (Run NamePart ∷ []) ds h, quote_row (Run NotQuote ∷ One (Byte 34) ∷ []) ds h, digit_parts ds h) refl

pub metadata_named : (s : List ℕ) → is_plain_name s ≡ true → kind_of (33 ∷ s) ≡ Some Metadata
unfolding table
metadata_named s h = rw (name_parts s h) refl

pub metadata_numbered : (ds : List ℕ) → is_digits ds ≡ true → kind_of (33 ∷ ds) ≡ Some Metadata
unfolding table
metadata_numbered ds h = rw (name_row (Run NamePart ∷ []) ds h, digit_parts ds h) refl

pub group_numbered : (ds : List ℕ) → is_digits ds ≡ true → kind_of (35 ∷ ds) ≡ Some AttributeGroup
unfolding table
group_numbered ds h = rw (digit_parts ds h) refl

-- ---- labels

pub label_named : (s : List ℕ) → is_plain_name s ≡ true → kind_of (s ++ 58 ∷ []) ≡ Some Label
unfolding table
label_named [] h = absurd cc
label_named (c ∷ s) h =
    let a = and_parts (begins_name c) (all_of (has NamePart) s) h in
    rw (name_no_quote c a.0, a.0, run_then NamePart (One (Byte 58) ∷ []) s (58 ∷ []) a.1 refl) refl

pub label_quoted : (bs : List ℕ) → is_quotable bs ≡ true → kind_of (34 ∷ (bs ++ 34 ∷ 58 ∷ [])) ≡ Some Label
unfolding table
label_quoted bs h = rw (run_then NotQuote (One (Byte 34) ∷ One (Byte 58) ∷ []) bs (34 ∷ 58 ∷ []) h refl) refl

pub label_numbered : (ds : List ℕ) → is_digits ds ≡ true → kind_of (ds ++ 58 ∷ []) ≡ Some Label
unfolding table
label_numbered [] h = absurd cc
label_numbered (d ∷ ds) h =
    let a = and_parts (is_digit d) (all_of is_digit ds) h in
    rw (digit_no_quote d a.0, digit_no_name d a.0, a.0, run_then Digit (One (Byte 58) ∷ []) ds (58 ∷ []) a.1 refl) refl

-- ---- numbers, strings, and words with a number

pub number_digits : (ds : List ℕ) → is_digits ds ≡ true → kind_of ds ≡ Some Number
unfolding table
number_digits [] h = absurd cc
number_digits (d ∷ ds) h =
    let a = and_parts (is_digit d) (all_of is_digit ds) h in
    rw (digit_no_quote d a.0, digit_no_name d a.0, a.0, digit_no_minus d a.0, no_colon Digit ds a.1, run_all Digit ds a.1) refl

pub number_negative : (ds : List ℕ) → is_digits ds ≡ true → kind_of (45 ∷ ds) ≡ Some Number
unfolding table
number_negative [] h = absurd cc
number_negative (d ∷ ds) h =
    let a = and_parts (is_digit d) (all_of is_digit ds) h in
    rw (no_colon NamePart (d ∷ ds) (all_parts NamePart (d ∷ ds) digit_name h), digit_parts (d ∷ ds) h) refl

pub quoted_text : (bs : List ℕ) → is_quotable bs ≡ true → kind_of (34 ∷ (bs ++ 34 ∷ [])) ≡ Some Quoted
unfolding table
quoted_text bs h = rw (run_short NotQuote (One (Byte 34) ∷ One (Byte 58) ∷ []) bs (34 ∷ []) h refl, quoted_parts bs h) refl

pub constant_text : (bs : List ℕ) → is_quotable bs ≡ true → kind_of (99 ∷ 34 ∷ (bs ++ 34 ∷ [])) ≡ Some TextConstant
unfolding table
constant_text bs h = rw (quoted_parts bs h) refl

-- an integer type: `i` and digits
pub integer_word : (ds : List ℕ) → is_digits ds ≡ true → kind_of (105 ∷ ds) ≡ Some Word
unfolding table
integer_word ds h =
    let a = digits_all ds h in
    rw (no_colon NamePart ds (all_parts NamePart ds digit_name a), run_all WordPart ds (all_parts WordPart ds digit_word a)) refl
