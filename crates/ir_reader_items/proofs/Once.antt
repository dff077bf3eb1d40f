-- No two sections, comdats or alignments: counted at the end, or refused as soon as there is a second one.
use Rattle.std.proofs.Common.{◌≡◌, ℕ, ◌+◌, Bool, true, false, cond, ◌&&◌, List, [], ◌∷◌, ◌++◌, Option, Some, None, refl, sym, ap, ◌∙◌, zero-add, arith}
use Rattle.std.specs.Prelude.{nat_le, map}
use Rattle.std.proofs.lemmas.Bool.Decides.{nat_tests}
use Rattle.std.proofs.lemmas.List.Sums.{sum_by-cons}
use Rattle.text_forms.specs.Nested.{concat}
use Rattle.text_forms.specs.Reading.{◌>>=◌}
use Rattle.text_forms.specs.Walk.{walk}
use Rattle.ir_types.specs.declared.opcode.Extra.{Extra}
use Rattle.ir_types.specs.declared.opcode.Extra.TheVariants.{Section, Comdat, Alignment, Attachment}
use Rattle.ir_types.specs.Tree.{KeptTexts}
use Rattle.ir_types.specs.ItemForms.{count_of, is_section, is_comdat, is_alignment, kept_once}
use Rattle.ir_reader_items.specs.declared.extras.Seen.{Seen}
use Rattle.ir_reader_items.specs.Extras.{nothing_seen, once_more}

abbrev Extras : Type 0
Extras = List (Extra × KeptTexts)

-- at most one, with one that is there already or not
abbrev fits : Bool → ℕ → Bool
fits seen n = nat_le (cond seen 1 0 + n) 1

-- the texts of all, where they may stand there
abbrev pub once_behind : Seen → Extras → Option KeptTexts
once_behind s xs =
    cond (fits s.section (count_of is_section xs) && (fits s.comdat (count_of is_comdat xs) && fits s.alignment (count_of is_alignment xs))) (Some (concat (map (λ x. x.1) xs))) None

abbrev pub joined_texts : Option (List KeptTexts × Seen) → Option KeptTexts
joined_texts o = o >>= λ y. Some (concat y.0)

abbrev before : KeptTexts → Option KeptTexts → Option KeptTexts
before k o = o >>= λ ks. Some (k ++ ks)

abbrev seen : Bool → Bool → Bool → Seen
seen a b c = record { section = a; comdat = b; alignment = c }

fits_none : (b : Bool) → fits b 0 ≡ true
fits_none true = refl
fits_none false = refl

abbrev texts_of : Extras → KeptTexts
texts_of xs = concat (map (λ x. x.1) xs)

abbrev if_fits : Bool → Bool → Bool → KeptTexts → Option KeptTexts
if_fits a b c k = cond (a && (b && c)) (Some k) None

-- a second one is one too many
too_many : (n : ℕ) → fits true (1 + n) ≡ false
too_many n = grind (arith, nat_tests)

if_before : (b : Bool) (k ks : KeptTexts) → before k (cond b (Some ks) None) ≡ cond b (Some (k ++ ks)) None
if_before true k ks = refl
if_before false k ks = refl

walked_on : (k : KeptTexts) (o : Option (List KeptTexts × Seen)) → joined_texts (o >>= λ q. Some (k ∷ q.0, q.1)) ≡ before k (joined_texts o)
walked_on k None = refl
walked_on k (Some q) = refl

last_false : (b : Bool) → (b && false) ≡ false
last_false true = refl
last_false false = refl

count_next : (p : Extra → Bool) (x : Extra × KeptTexts) (xs : Extras) → count_of p (x ∷ xs) ≡ cond (p x.0) 1 0 + count_of p xs
count_next p x xs = sum_by-cons (λ (y : Extra × KeptTexts). cond (p y.0) 1 0) x xs

-- the counts with one more
counted : (s : Seen) (k : Extra) (t : KeptTexts) (xs : Extras)
    → once_behind s ((k, t) ∷ xs) ≡ if_fits (fits s.section (cond (is_section k) 1 0 + count_of is_section xs)) (fits s.comdat (cond (is_comdat k) 1 0 + count_of is_comdat xs)) (fits s.alignment (cond (is_alignment k) 1 0 + count_of is_alignment xs)) (t ++ texts_of xs)
counted s k t xs = rw (count_next is_section (k, t) xs, count_next is_comdat (k, t) xs, count_next is_alignment (k, t) xs) refl

-- what is to be shown of some
abbrev Known : Extras → Type 0
Known xs = (a b c : Bool) → joined_texts (walk once_more (seen a b c) xs) ≡ once_behind (seen a b c) xs

pub once : (a b c : Bool) (xs : Extras) → joined_texts (walk once_more (seen a b c) xs) ≡ once_behind (seen a b c) xs
once a b c [] = rw (fits_none a, fits_none b, fits_none c) refl
once a b c (x ∷ xs) = by x.0 (λ p q r. once p q r xs) a b c
  where
    texts : KeptTexts
    texts = concat (map (λ (y : Extra × KeptTexts). y.1) xs)

    counts : Bool → Bool → Bool → Bool
    counts a b c = fits a (count_of is_section xs) && (fits b (count_of is_comdat xs) && fits c (count_of is_alignment xs))

    on : Known xs → (a b c : Bool) → joined_texts (walk once_more (seen a b c) xs >>= λ q. Some (x.1 ∷ q.0, q.1)) ≡ cond (counts a b c) (Some (x.1 ++ texts)) None
    on later a b c = walked_on x.1 (walk once_more (seen a b c) xs) ∙ ap (before x.1) (later a b c) ∙ if_before (counts a b c) x.1 texts

    by : (k : Extra) → Known xs → (a b c : Bool) → joined_texts (walk once_more (seen a b c) ((k, x.1) ∷ xs)) ≡ once_behind (seen a b c) ((k, x.1) ∷ xs)
    by Section later true b c = sym (counted (seen true b c) Section x.1 xs ∙ rw too_many refl)
    by Section later false b c = on later true b c ∙ sym (counted (seen false b c) Section x.1 xs ∙ simp zero-add)
    by Comdat later a true c = sym (counted (seen a true c) Comdat x.1 xs ∙ rw (too_many, last_false) refl)
    by Comdat later a false c = on later a true c ∙ sym (counted (seen a false c) Comdat x.1 xs ∙ simp zero-add)
    by Alignment later a b true = sym (counted (seen a b true) Alignment x.1 xs ∙ simp (too_many, last_false))
    by Alignment later a b false = on later a b true ∙ sym (counted (seen a b false) Alignment x.1 xs ∙ simp zero-add)
    by Attachment later a b c = on later a b c ∙ sym (counted (seen a b c) Attachment x.1 xs ∙ simp zero-add)

-- what is counted at the end
pub kept_walk : (xs : Extras) → kept_once xs ≡ joined_texts (walk once_more nothing_seen xs)
kept_walk xs = let plain : once_behind nothing_seen xs ≡ kept_once xs = simp zero-add in sym (once false false false xs ∙ plain)
