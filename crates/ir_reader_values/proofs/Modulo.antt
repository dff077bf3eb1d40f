-- Decimal digits modulo 2^64, and modulo a lower power.
use Rattle.std.proofs.Common.{◌≡◌, ℕ, Bool, true, false, cond, eqb, ◌+◌, ◌*◌, ◌-◌, ◌/◌, ◌%◌, ◌^◌, ◌<◌, ◌≤◌, List, [], ◌∷◌, ap, ◌∙◌, arith}
use Rattle.std.proofs.lemmas.Nat.{mod-pow-add, mod-mul-add, pow-add, mod_below, pow_pos}
use Rattle.std.proofs.Math.Nat.{mul-add-mod_self_right}
use Rattle.ir_types.specs.Written.{number_from, number_of, number_at, negated}

-- a number counts only modulo 2^64
pub same_from : (m n : ℕ) (ds : List ℕ) → m % 2 ^ 64 ≡ n % 2 ^ 64 → number_from m ds % 2 ^ 64 ≡ number_from n ds % 2 ^ 64
same_from m n [] e = e
same_from m n (d ∷ ds) e = same_from (m * 10 + (d - 48)) (n * 10 + (d - 48)) ds (omega arith)

-- the low bits of the low bits
pub low_bits_of : (n w : ℕ) → w ≤ 64 → n % 2 ^ 64 % 2 ^ w ≡ n % 2 ^ w
low_bits_of n w le =
    let whole : 64 ≡ (64 - w) + w = omega arith in
    let lt : n % 2 ^ w < 2 ^ w = mod_below n (2 ^ w) (pow_pos w) in
    ap (λ x. n % 2 ^ x % 2 ^ w) whole ∙ ap (λ x. x % 2 ^ w) (mod-pow-add n (64 - w) w) ∙ mod-mul-add (n / 2 ^ w % 2 ^ (64 - w)) (2 ^ w) (n % 2 ^ w) lt

minus : (d a m s : ℕ) → s ≤ m → (d + a + 1) * m - (a * m + s) ≡ d * m + (m - s)
minus d a m s le = omega arith

-- minus the low part of a number that ends below so many
minus_low : (j a m s : ℕ) → a < j → s < m → (j * m - (a * m + s)) % m ≡ (m - s) % m
minus_low j a m s la ls =
    let d = j - a - 1 in
    let e : j ≡ d + a + 1 = omega arith in
    ap (λ x. (x * m - (a * m + s)) % m) e ∙ ap (λ x. x % m) (minus d a m s (omega arith)) ∙ mul-add-mod_self_right d m (m - s)

-- the low bits of minus a number
pub low_bits_of_minus : (n w : ℕ) → w ≤ 64 → (2 ^ 64 - n % 2 ^ 64) % 2 ^ 64 % 2 ^ w ≡ negated w n
low_bits_of_minus n w le =
    let j = 64 - w in
    let whole : 64 ≡ j + w = omega arith in
    let low : n % 2 ^ 64 ≡ (n / 2 ^ w % 2 ^ j) * 2 ^ w + n % 2 ^ w = ap (λ x. n % 2 ^ x) whole ∙ mod-pow-add n j w in
    let power : 2 ^ 64 ≡ 2 ^ j * 2 ^ w = ap (λ x. 2 ^ x) whole ∙ pow-add 2 j w in
    low_bits_of (2 ^ 64 - n % 2 ^ 64) w le
    ∙ ap (λ x. (x - n % 2 ^ 64) % 2 ^ w) power
    ∙ ap (λ x. (2 ^ j * 2 ^ w - x) % 2 ^ w) low
    ∙ minus_low (2 ^ j) (n / 2 ^ w % 2 ^ j) (2 ^ w) (n % 2 ^ w) (mod_below (n / 2 ^ w) (2 ^ j) (pow_pos j)) (mod_below n (2 ^ w) (pow_pos w))

-- a number that a token stands for, modulo 2^w, is below that
pub number_below : (w : ℕ) (text : List ℕ) → number_at w text < 2 ^ w
number_below w [] = pow_pos w
number_below w (c ∷ ds) = by (eqb c 45)
  where
    by : (b : Bool) → cond b (negated w (number_of ds)) (number_of (c ∷ ds) % 2 ^ w) < 2 ^ w
    by true = mod_below (2 ^ w - number_of ds % 2 ^ w) (2 ^ w) (pow_pos w)
    by false = mod_below (number_of (c ∷ ds)) (2 ^ w) (pow_pos w)
