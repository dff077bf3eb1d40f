-- Powers of two below one.
use Rattle.std.proofs.Common.{◌≡◌, ℕ, zero, suc, ◌+◌, ◌<◌, ◌^◌, Bool, true, false, ◌||◌, nat_eq, refl, ap, ◌∙◌, add-one, inl, inr, arith}
use Rattle.std.specs.List.{list_any}
use Rattle.std.proofs.lemmas.Bool.{cases_eq}
use Rattle.std.proofs.lemmas.Bool.Decides.{Decides-eqb}
use Rattle.ir_rules.specs.Mismatch.{powers_below}

-- a power of two is among those below a greater one
pub power_among : (n k m : ℕ) → k < m → n ≡ 2 ^ k → true ≡ list_any (nat_eq n) (powers_below m)
power_among n k zero lt e = absurd (omega arith)
power_among n k (suc m) lt e = elim (cases_eq k m) [
  | inl same ↦
      let here : nat_eq n (2 ^ m) ≡ true = (Decides-eqb n (2 ^ m)).1 (e ∙ ap (λ (j : ℕ). 2 ^ j) same) in
      rw here refl
  | inr other ↦ behind (nat_eq n (2 ^ m)) (list_any (nat_eq n) (powers_below m)) (power_among n k m (omega (arith, other)) e)
]
  where
    behind : (a b : Bool) → true ≡ b → true ≡ (a || b)
    behind true b h = refl
    behind false b h = h

-- one power more
pub power_more : (n k : ℕ) → nat_eq n (2 ^ k) ≡ false → list_any (nat_eq n) (powers_below k) ≡ false → list_any (nat_eq n) (powers_below (k + 1)) ≡ false
power_more n k other none = rw add-one (rw (other, none) refl)
