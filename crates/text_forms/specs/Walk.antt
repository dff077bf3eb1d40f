-- A list whose elements are completed from left to right, as by numbers that are counted on, where that can be done.
use Rattle.std.specs.Prelude.{List, [], ◌∷◌, Option, Some}
use Rattle.text_forms.specs.Bind.{◌>>=◌}

-- what the elements become one after another, each with what the one before it left, and what the last one leaves
abbrev pub walk : {S A B : Type 0} → (S → A → Option (B × S)) → S → List A → Option (List B × S)
walk step s [] = Some ([], s)
walk step s (a ∷ more) = step s a >>= λ p. walk step p.1 more >>= λ q. Some (p.0 ∷ q.0, q.1)

-- what was read, completed
abbrev pub completed : {A B R : Type 0} → (A → Option B) → Option (A × R) → Option (B × R)
completed f r = r >>= λ x. f x.0 >>= λ b. Some (b, x.1)
