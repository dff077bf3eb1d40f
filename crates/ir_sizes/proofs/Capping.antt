-- What is computed from capped sizes is right up to the cap.
use Rattle.std.proofs.Common.{◌≡◌, ℕ, zero, suc, ◌+◌, ◌-◌, ◌*◌, ◌≤◌, inl, inr, min, arith}
use Rattle.std.proofs.lemmas.Bool.{cases_lt}
use Rattle.std.proofs.Math.Nat.{div-mul-le_self, lt-div-mul-add}
use Rattle.ir_types.specs.Sizes.{aligned}

pub capped_array : (n s c : ℕ) → min (n * s) c ≡ min (n * min s c) c
capped_array zero s c = omega arith
capped_array (suc m) s c = elim (cases_lt s c) [
  | inl h ↦ let e : min s c ≡ s = omega arith in rw e
  | inr h ↦ let e : min s c ≡ c = omega arith in rw e (omega arith)
]

pub aligned_least : (a n : ℕ) → 1 ≤ a → n ≤ aligned a n
aligned_least a n h = omega (arith, lt-div-mul-add {a = n + (a - 1)} {b = a} (omega arith))

pub aligned_most : (a n : ℕ) → aligned a n ≤ n + (a - 1)
aligned_most a n = div-mul-le_self (n + (a - 1)) a

pub capped_member : (a n s c : ℕ) → 1 ≤ a → min (aligned a n + s) c ≡ min (aligned a (min n c) + min s c) c
capped_member a n s c h = elim (cases_lt n c) [
  | inl l ↦ let e : min n c ≡ n = omega arith in rw e (omega arith)
  | inr l ↦ let e : min n c ≡ c = omega arith in rw e (omega (arith, aligned_least a n h, aligned_least a c h))
]

pub capped_end : (a n c : ℕ) → 1 ≤ a → min (aligned a n) c ≡ min (aligned a (min n c)) c
capped_end a n c h = elim (cases_lt n c) [
  | inl l ↦ let e : min n c ≡ n = omega arith in rw e
  | inr l ↦ let e : min n c ≡ c = omega arith in rw e (omega (arith, aligned_least a n h, aligned_least a c h))
]
