-- The first that is found.
use Rattle.std.specs.Prelude.{List, [], ◌∷◌, Option, Some, None}

-- what is there, or else what the other has
abbrev pub or_else : {B : Type 0} → Option B → Option B → Option B
or_else None other = other
or_else (Some b) other = Some b

-- the first that a function finds in a list
abbrev pub first_of : {A B : Type 0} → (A → Option B) → List A → Option B
first_of f [] = None
first_of f (x ∷ xs) = or_else (f x) (first_of f xs)
