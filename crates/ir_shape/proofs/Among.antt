-- Numbers that are one of some.
use Rattle.std.proofs.Common.{ℕ, List, [], ◌∷◌, sym, subst, inl, inr}
use Rattle.std.specs.List.{AllByRecursion}
use Rattle.ir_shape.specs.Shape.{IsOneOf}

-- what holds of each of them
pub of_each : (P : ℕ → Type 0) (xs : List ℕ) (n : ℕ) → AllByRecursion P xs → IsOneOf xs n → P n
of_each P [] n all h = absurd h
of_each P (x ∷ xs) n all (inl e) = subst P (sym e) all.0
of_each P (x ∷ xs) n all (inr h) = of_each P xs n all.1 h
