-- The first that is found, in lists behind one another and in what is made of them.
use Rattle.std.proofs.Common.{Result, Ok, Err, ◌≡◌, List, [], ◌∷◌, ◌++◌, map, Option, Some, None, refl, sym, ap, ◌∙◌}
use Rattle.std.specs.Prelude.{IfOk}
use Rattle.std.specs.Option.{option_map}
use Rattle.std.specs.List.{AllByRecursion, filter_map, cons_option}
use Rattle.text_forms.specs.Nested.{concat}
use Rattle.ir_rules.specs.Breaches.{first}
use Rattle.ir_check_names.specs.Choice.{or_else, first_of}

-- ---- of two

-- of two lists behind one another the first is that of the one, or else of the other
pub first_both : {A : Type 0} (xs ys : List A) → first (xs ++ ys) ≡ or_else (first xs) (first ys)
first_both [] ys = refl
first_both (x ∷ xs) ys = refl

-- a function goes over what is found first
pub mapped_both : {A B : Type 0} (f : A → B) (a b : Option A) → option_map f (or_else a b) ≡ or_else (option_map f a) (option_map f b)
mapped_both f None b = refl
mapped_both f (Some x) b = refl

-- three are looked at in turn
pub in_turn : {A : Type 0} (a b c : Option A) → or_else (or_else a b) c ≡ or_else a (or_else b c)
in_turn None b c = refl
in_turn (Some x) b c = refl

-- or else nothing
pub or_none : {A : Type 0} (a : Option A) → or_else a None ≡ a
or_none None = refl
or_none (Some x) = refl

-- one function behind another
pub mapped_twice : {A B C : Type 0} (f : B → C) (g : A → B) (o : Option A) → option_map f (option_map g o) ≡ option_map (λ x. f (g x)) o
mapped_twice f g None = refl
mapped_twice f g (Some x) = refl

-- ---- of a list

-- the first of what is mapped is what the first is mapped to
pub first_map : {A B : Type 0} (f : A → B) (xs : List A) → first (map f xs) ≡ option_map f (first xs)
first_map f [] = refl
first_map f (x ∷ xs) = refl

-- the first of lists behind one another is the first that one of them has
pub first_concat : {A B : Type 0} (g : A → List B) (xs : List A) → first (concat (map g xs)) ≡ first_of (λ x. first (g x)) xs
first_concat g [] = refl
first_concat g (x ∷ xs) = first_both (g x) (concat (map g xs)) ∙ ap (or_else (first (g x))) (first_concat g xs)

-- a function goes over the first that is found
pub mapped_first : {A B C : Type 0} (f : B → C) (g : A → Option B) (xs : List A) → option_map f (first_of g xs) ≡ first_of (λ x. option_map f (g x)) xs
mapped_first f g [] = refl
mapped_first f g (x ∷ xs) = mapped_both f (g x) (first_of g xs) ∙ ap (or_else (option_map f (g x))) (mapped_first f g xs)

-- the first found in what is mapped
pub first_of_mapped : {A B C : Type 0} (h : A → B) (f : B → Option C) (xs : List A) → first_of f (map h xs) ≡ first_of (λ x. f (h x)) xs
first_of_mapped h f [] = refl
first_of_mapped h f (x ∷ xs) = ap (or_else (f (h x))) (first_of_mapped h f xs)

-- the first found in two lists behind one another
pub first_of_both : {A B : Type 0} (f : A → Option B) (xs ys : List A) → first_of f (xs ++ ys) ≡ or_else (first_of f xs) (first_of f ys)
first_of_both f [] ys = refl
first_of_both f (x ∷ xs) ys = ap (or_else (f x)) (first_of_both f xs ys) ∙ sym (in_turn (f x) (first_of f xs) (first_of f ys))

-- what is found in what there is
abbrev pub in_some : {B C : Type 0} → (B → Option C) → Option B → Option C
in_some f None = None
in_some f (Some b) = f b

-- the first found in what is kept of a list
pub first_of_some : {A B C : Type 0} (h : A → Option B) (f : B → Option C) (xs : List A) → first_of f (filter_map h xs) ≡ first_of (λ x. in_some f (h x)) xs
first_of_some h f [] = refl
first_of_some h f (x ∷ xs) = by (h x) (first_of_some h f xs)
  where
    by : (o : Option _) → first_of f (filter_map h xs) ≡ first_of (λ x. in_some f (h x)) xs → first_of f (cons_option o (filter_map h xs)) ≡ or_else (in_some f o) (first_of (λ x. in_some f (h x)) xs)
    by None e = e
    by (Some b) e = ap (or_else (f b)) e

-- what finds the same in each finds the same first
pub same_firsts : {A B : Type 0} (P : A → Type 0) (f g : A → Option B) → ((x : A) → P x → f x ≡ g x) → (xs : List A) → AllByRecursion P xs → first_of f xs ≡ first_of g xs
same_firsts P f g same [] h = refl
same_firsts P f g same (x ∷ xs) h = let e = same x h.0 in let es = same_firsts P f g same xs h.1 in cc

-- an answer is this one where it is an equal one
pub same_answer : {A E : Type 0} (r : Result A E) (a b : A) → a ≡ b → IfOk r (λ found. found ≡ a) → IfOk r (λ found. found ≡ b)
same_answer (Ok x) a b e h = h ∙ e
same_answer (Err x) a b e h = tt
