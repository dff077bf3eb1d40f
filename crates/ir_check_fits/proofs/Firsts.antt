-- The first of lists behind one another.
use Rattle.std.proofs.Common.{◌≡◌, List, [], ◌∷◌, ◌++◌, Option, Some, None, refl}
use Rattle.ir_rules.specs.Breaches.{first}

-- the first of two
abbrev pub or_first : {A : Type 0} → Option A → Option A → Option A
or_first (Some x) o = Some x
or_first None o = o

pub first_both : {A : Type 0} (xs ys : List A) → first (xs ++ ys) ≡ or_first (first xs) (first ys)
first_both [] ys = refl
first_both (x ∷ xs) ys = refl

-- where one is found in front
pub found_first : {A : Type 0} (xs ys : List A) (x : A) → Some x ≡ first xs → Some x ≡ first (xs ++ ys)
found_first [] ys x e = absurd cc
found_first (y ∷ xs) ys x e = e

-- where none is
pub none_first : {A : Type 0} (xs ys : List A) → None ≡ first xs → first (xs ++ ys) ≡ first ys
none_first [] ys e = refl
none_first (x ∷ xs) ys e = absurd cc
