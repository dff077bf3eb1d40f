-- What is printed of a number is that number.
use Rattle.std.proofs.Common.{◌≡◌, ◌≤◌, ◌<◌, ◌+◌, ◌-◌, ◌%◌, ◌^◌, ℕ, zero, suc, Bool, true, false, List, [], ◌∷◌, Some, refl, ◌∙◌, arith, inl, inr}
use Rattle.std.specs.Prelude.{nat_lt, nat_le, decimal}
use Rattle.std.proofs.Math.Nat.{mod-eq_of_lt, two-pow-succ}
use Rattle.std.proofs.Math.Pow.{pow_mono}
use Rattle.std.proofs.lemmas.Nat.{pow_pos}
use Rattle.std.proofs.lemmas.Bool.Decides.{nat_tests}
use Rattle.text_forms.specs.declared.TokenKind.TheVariants.{Number}
use Rattle.text_forms.specs.Lexical.{kind_of}
use Rattle.text_lex.specs.Names.{is_digits}
use Rattle.text_forms.proofs.Begins.{test}
use Rattle.text_lex.proofs.Decimals.{decimal_digits}
use Rattle.text_lex.proofs.Printed.{number_digits, number_negative}
use Rattle.ir_types.specs.Written.{number_of, number_at, fits_width}
use Rattle.ir_printer_types.specs.Texts.{signed_text}
use Rattle.text_lex.proofs.Decimals.{number_of-decimal}
use Rattle.ir_printer_types.proofs.Numbers.{no_sign}

digits_at : (w : ℕ) (ds : List ℕ) → is_digits ds ≡ true → number_at w ds ≡ number_of ds % 2 ^ w
digits_at w [] h = absurd cc
digits_at w (d ∷ ds) h = rw (no_sign d ds h) refl

-- ---- powers of two

-- a power of two is two halves
pub two_halves : (w : ℕ) → 0 < w → 2 ^ w ≡ 2 ^ (w - 1) + 2 ^ (w - 1)
two_halves zero h = absurd (omega arith)
two_halves (suc w) h = let e : suc w - 1 ≡ w = omega arith in rw e (two-pow-succ w)

-- a number of at most 64 bits has few digits
few_digits : (w v : ℕ) → w ≤ 64 → v ≤ 2 ^ w → v < 10 ^ 64
few_digits w v h le = let m : 2 ^ w ≤ 2 ^ 64 = pow_mono h in omega arith

-- ---- numbers are read as they were printed

negative_again : (m v : ℕ) → 0 < v → v < m → (m - (m - v) % m) % m ≡ v
negative_again m v p lt =
    let n : m - v < m = omega arith in
    let back : m - (m - v) ≡ v = omega arith in
    rw (mod-eq_of_lt n, back) (mod-eq_of_lt lt)

-- a signed number is read as the number that it stands for
pub signed_again : (w v : ℕ) → 0 < w → w ≤ 64 → v < 2 ^ w → number_at w (signed_text w v) ≡ v
unfolding signed_text
signed_again w v p h lt = elim (test (nat_lt v (2 ^ (w - 1)))) [
  | inl y ↦ rw y (digits_at w (decimal v) (decimal_digits v (few_digits w v h (omega arith))) ∙ rw (number_of-decimal v (few_digits w v h (omega arith))) (mod-eq_of_lt lt))
  | inr n ↦
      let ge : 2 ^ (w - 1) ≤ v = grind (arith, nat_tests) in
      let half = pow_pos (w - 1) in
      let d = number_of-decimal (2 ^ w - v) (few_digits w (2 ^ w - v) h (omega arith)) in
      rw (n, d) (negative_again (2 ^ w) v (omega arith) lt)
]

-- ---- and they are in range

-- what is less is tested so
pub is_less : (m n : ℕ) → m < n → nat_lt m n ≡ true
is_less m n lt = by (nat_lt m n) refl
  where
    by : (b : Bool) → nat_lt m n ≡ b → nat_lt m n ≡ true
    by true e = e
    by false e = let ge : n ≤ m = grind (arith, nat_tests) in absurd (omega arith)

is_at_most : (m n : ℕ) → m ≤ n → nat_le m n ≡ true
is_at_most m n le = by (nat_le m n) refl
  where
    by : (b : Bool) → nat_le m n ≡ b → nat_le m n ≡ true
    by true e = e
    by false e = let gt : n < m = grind (arith, nat_tests) in absurd (omega arith)

digits_fit : (w : ℕ) (ds : List ℕ) → is_digits ds ≡ true → fits_width w ds ≡ nat_lt (number_of ds) (2 ^ w)
digits_fit w [] h = absurd cc
digits_fit w (d ∷ ds) h = rw (no_sign d ds h) refl

-- it fits its width
pub signed_fits : (w v : ℕ) → 0 < w → w ≤ 64 → v < 2 ^ w → fits_width w (signed_text w v) ≡ true
unfolding signed_text
signed_fits w v p h lt = elim (test (nat_lt v (2 ^ (w - 1)))) [
  | inl y ↦ rw y (digits_fit w (decimal v) (decimal_digits v (few_digits w v h (omega arith))) ∙ rw (number_of-decimal v (few_digits w v h (omega arith))) (is_less v (2 ^ w) lt))
  | inr n ↦
      let ge : 2 ^ (w - 1) ≤ v = grind (arith, nat_tests) in
      let both = two_halves w p in
      let most : 2 ^ w - v ≤ 2 ^ (w - 1) = omega (arith, both) in
      let d = number_of-decimal (2 ^ w - v) (few_digits w (2 ^ w - v) h (omega arith)) in
      rw (n, d) (is_at_most (2 ^ w - v) (2 ^ (w - 1)) most)
]

-- ---- their tokens

-- and is one token
pub signed_kind : (w v : ℕ) → w ≤ 64 → v < 2 ^ w → kind_of (signed_text w v) ≡ Some Number
unfolding signed_text
signed_kind w v h lt = elim (test (nat_lt v (2 ^ (w - 1)))) [
  | inl y ↦ rw y (number_digits (decimal v) (decimal_digits v (few_digits w v h (omega arith))))
  | inr n ↦ rw n (number_negative (decimal (2 ^ w - v)) (decimal_digits (2 ^ w - v) (few_digits w (2 ^ w - v) h (omega arith))))
]
