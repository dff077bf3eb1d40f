-- The first long name of names behind one another.
use Rattle.std.proofs.Common.{◌≡◌, ◌<◌, ◌≤◌, ℕ, zero, suc, List, [], ◌∷◌, ◌++◌, length, get_or, drop, Option, Some, None, refl, sym, ap, ◌∙◌, drop-cons, arith}
use Rattle.std.specs.Prelude.{map}
use Rattle.std.proofs.lemmas.List.{drop_all}
use Rattle.text_forms.specs.Nested.{concat}
use Rattle.ir_types.specs.declared.name.Name.{Name}
use Rattle.ir_types.specs.Names.{name_at}
use Rattle.ir_types.specs.Tree.{ParamTree}
use Rattle.ir_limits.specs.Limits.{long_name, or_else, first_long}
pub use Rattle.ir_limits.specs.Limits.{first_of}

-- a place behind the table
pub none_behind : (ns : List Name) (i : ℕ) → length ns ≤ i → long_name (name_at ns i) ≡ None
none_behind [] i le = refl
none_behind (n ∷ ns) zero le = absurd (omega arith)
none_behind (n ∷ ns) (suc i) le = none_behind ns i (omega arith)

or_else_assoc : (a b c : Option ℕ) → or_else (or_else a b) c ≡ or_else a (or_else b c)
or_else_assoc None b c = refl
or_else_assoc (Some n) b c = refl

-- the first long name in two lists is that of the one, or else that of the other
pub first_of_both : (xs ys : List Name) → first_long (xs ++ ys) ≡ or_else (first_long xs) (first_long ys)
first_of_both [] ys = refl
first_of_both (x ∷ xs) ys = ap (or_else (long_name x)) (first_of_both xs ys) ∙ sym (or_else_assoc (long_name x) (first_long xs) (first_long ys))

-- what is there, or else nothing, is what is there
pub or_nothing : (a : Option ℕ) → or_else a None ≡ a
or_nothing None = refl
or_nothing (Some n) = refl

-- ---- the first that a function finds

-- the first that is found list by list is the first in the lists joined
pub first_of_concat : {A : Type 0} (g : A → List Name) (xs : List A) → first_of (λ x. first_long (g x)) xs ≡ first_long (concat (map g xs))
first_of_concat g [] = refl
first_of_concat g (x ∷ xs) = ap (or_else (first_long (g x))) (first_of_concat g xs) ∙ sym (first_of_both (g x) (concat (map g xs)))

-- the first long name of some things is the first among their names
pub first_of_map : {A : Type 0} (g : A → Name) (xs : List A) → first_of (λ x. long_name (g x)) xs ≡ first_long (map g xs)
first_of_map g [] = refl
first_of_map g (x ∷ xs) = ap (or_else (long_name (g x))) (first_of_map g xs)

-- the same of what a function makes of them
pub first_of_mapped : {A B : Type 0} (h : A → B) (f : B → Option ℕ) (xs : List A) → first_of (λ x. f (h x)) xs ≡ first_of f (map h xs)
first_of_mapped h f [] = refl
first_of_mapped h f (x ∷ xs) = ap (or_else (f (h x))) (first_of_mapped h f xs)

-- none is found in front of the next one, so it is the one there, or behind it
pub first_next : {A : Type 0} (f : A → Option ℕ) (xs : List A) (i : ℕ) (d : A) (whole : Option ℕ) → i < length xs → first_of f (drop i xs) ≡ whole → or_else (f (get_or xs i d)) (first_of f (drop (suc i) xs)) ≡ whole
first_next f xs i d whole lt h = sym (ap (first_of f) (drop-cons xs i d lt)) ∙ h

-- behind the last one nothing is found, so nothing was
pub first_none : {A : Type 0} (f : A → Option ℕ) (xs : List A) (i : ℕ) (whole : Option ℕ) → length xs ≤ i → first_of f (drop i xs) ≡ whole → whole ≡ None
first_none f xs i whole le h = sym h ∙ ap (first_of f) (drop_all i xs le)

-- where the first of two has something, that is what is found
pub found : (a b whole : Option ℕ) (n : ℕ) → a ≡ Some n → or_else a b ≡ whole → whole ≡ Some n
found a b whole n e h = sym h ∙ ap (λ (o : Option ℕ). or_else o b) e

-- ---- as the loops need them

-- where none is found before a place, and something there, that is the first
pub found_here : {A : Type 0} (f : A → Option ℕ) (xs : List A) (i : ℕ) (d : A) (n : ℕ) → i < length xs → first_of f (drop i xs) ≡ first_of f xs → f (get_or xs i d) ≡ Some n → Some n ≡ first_of f xs
found_here f xs i d n lt h s = sym (found (f (get_or xs i d)) (first_of f (drop (suc i) xs)) (first_of f xs) n s (first_next f xs i d (first_of f xs) lt h))

-- where none is found before the end, there is none
pub none_at_all : {A : Type 0} (f : A → Option ℕ) (xs : List A) (i : ℕ) → length xs ≤ i → first_of f (drop i xs) ≡ first_of f xs → None ≡ first_of f xs
none_at_all f xs i le h = sym (first_none f xs i (first_of f xs) le h)

-- of what a function makes of some things
pub first_of_each : {A B : Type 0} (h : A → B) (g : B → List Name) (xs : List A) → first_of (λ x. first_long (g (h x))) xs ≡ first_long (concat (map g (map h xs)))
first_of_each h g xs = first_of_mapped h (λ x. first_long (g x)) xs ∙ first_of_concat g (map h xs)

-- of the names of parameters
pub first_of_names : {A : Type 0} (h : A → ParamTree) (xs : List A) → first_of (λ x. long_name (h x).name) xs ≡ first_long (map (λ (p : ParamTree). p.name) (map h xs))
first_of_names h xs = first_of_mapped h (λ (p : ParamTree). long_name p.name) xs ∙ first_of_map (λ (p : ParamTree). p.name) (map h xs)

-- the one at the place is this
pub found_item : {A : Type 0} (f : A → Option ℕ) (xs : List A) (i : ℕ) (x : A) (n : ℕ) → i < length xs → x ≡ get_or xs i x → first_of f (drop i xs) ≡ first_of f xs → f x ≡ Some n → Some n ≡ first_of f xs
found_item f xs i x n lt e h s = found_here f xs i x n lt h (sym (ap f e) ∙ s)
