-- The next step of a partial computation.
use Rattle.std.specs.Prelude.{Option, Some, None}

-- what the next step makes of a value, where there is one
infixl 10 ◌>>=◌
abbrev pub ◌>>=◌ : {A B : Type 0} → Option A → (A → Option B) → Option B
None >>= f = None
(Some a) >>= f = f a
