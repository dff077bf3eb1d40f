-- The digits of a number stand for the number.
use Rattle.std.proofs.Common.{◌≡◌, ◌≤◌, ◌<◌, ◌+◌, ◌-◌, ◌*◌, ◌/◌, ◌%◌, ◌^◌, ℕ, true, List, [], ◌∷◌, ◌++◌, length, refl, ◌∙◌, arith}
use Rattle.std.proofs.lemmas.Bool.{and_parts, and_from}
use Rattle.std.proofs.lemmas.Bool.Decides.{nat_tests}
use Rattle.std.proofs.lemmas.Fmt.{decimal_by_steps_wide}
use Rattle.std.specs.Fmt.{decimal}
use Rattle.text_forms.specs.Lexical.{is_digit}
use Rattle.text_lex.specs.Neighbours.{all_of}
use Rattle.text_lex.specs.Names.{all_digits, is_digits}
use Rattle.text_forms.specs.Numbers.{number_from, number_of}

number_from-append : (n d : ℕ) (ds : List ℕ) → number_from n (ds ++ d ∷ []) ≡ number_from n ds * 10 + (d - 48)
number_from-append n d [] = refl
number_from-append n d (c ∷ ds) = number_from-append (n * 10 + (c - 48)) d ds

all_digits-append : (d : ℕ) (ds : List ℕ) → all_digits ds ≡ true → is_digit d ≡ true → all_digits (ds ++ d ∷ []) ≡ true
all_digits-append d [] h e = and_from (is_digit d) true e refl
all_digits-append d (c ∷ ds) h e =
    let a = and_parts (is_digit c) (all_of is_digit ds) h in
    and_from (is_digit c) (all_of is_digit (ds ++ d ∷ [])) a.0 (all_digits-append d ds a.1 e)

is_digits-append : (d : ℕ) (ds : List ℕ) → is_digits ds ≡ true → is_digit d ≡ true → is_digits (ds ++ d ∷ []) ≡ true
is_digits-append d [] h e = absurd cc
is_digits-append d (c ∷ ds) h e =
    let a = and_parts (is_digit c) (all_of is_digit ds) h in
    and_from (is_digit c) (all_of is_digit (ds ++ d ∷ [])) a.0 (all_digits-append d ds a.1 e)

digit_is : (n : ℕ) → n < 10 → is_digit (48 + n) ≡ true
digit_is n lt = grind (arith, nat_tests)

-- the digits write the number
record Writes (n : ℕ) (ds : List ℕ) : Type 0 where
  digits : is_digits ds ≡ true
  value : number_of ds ≡ n

one : (n : ℕ) → n < 10 → Writes n ((48 + n) ∷ [])
one n lt = record { digits = and_from (is_digit (48 + n)) true (digit_is n lt) refl; value = omega arith }

more : (n : ℕ) (ds : List ℕ) → 10 ≤ n → Writes (n / 10) ds → Writes n (ds ++ ((48 + n % 10) ∷ []))
more n ds le w = record {
  digits = is_digits-append (48 + n % 10) ds w.digits (digit_is (n % 10) (omega arith));
  value = number_from-append 0 (48 + n % 10) ds ∙ (let v = w.value in omega arith);
}

written : (n : ℕ) → n < 10 ^ 64 → Writes n (decimal n)
written n lt = decimal_by_steps_wide Writes one more n lt

-- What is printed of a number is digits.
pub decimal_digits : (n : ℕ) → n < 10 ^ 64 → is_digits (decimal n) ≡ true
decimal_digits n lt = (written n lt).digits

-- And they stand for the number.
pub number_of-decimal : (n : ℕ) → n < 10 ^ 64 → number_of (decimal n) ≡ n
number_of-decimal n lt = (written n lt).value

pub digits_all : (ds : List ℕ) → is_digits ds ≡ true → all_digits ds ≡ true
digits_all [] h = absurd cc
digits_all (d ∷ ds) h = h

pub digits_filled : (ds : List ℕ) → is_digits ds ≡ true → 0 < length ds
digits_filled [] h = absurd cc
digits_filled (d ∷ ds) h = omega arith

pub is_digits-from : (ds : List ℕ) → all_digits ds ≡ true → 0 < length ds → is_digits ds ≡ true
is_digits-from [] h lt = absurd (omega arith)
is_digits-from (d ∷ ds) h lt = h
