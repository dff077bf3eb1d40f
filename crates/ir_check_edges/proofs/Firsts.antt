-- What is found first in functions behind one another.
use Rattle.std.proofs.Common.{◌≡◌, ℕ, zero, suc, ◌+◌, ◌<◌, IfOk, Result, subst, List, [], ◌∷◌, ◌++◌, map, length, get_or, drop, Option, Some, None, refl, sym, ap, ◌∙◌, arith}
use Rattle.text_forms.specs.Nested.{concat}
use Rattle.ir_types.specs.declared.module.Function.{Function}
use Rattle.ir_types.specs.declared.module.Module.{Module}
use Rattle.ir_types.specs.Tree.{FunctionTree}
use Rattle.ir_types.specs.Denotes.{tables_of, tree_of, function_in}
use Rattle.ir_rules.specs.Breaches.{first, Found, inside, in_functions}
use Rattle.ir_check_edges.specs.Targets.{or_else, first_of}

pub first_of_both : {A : Type 0} (xs ys : List A) → first (xs ++ ys) ≡ or_else (first xs) (first ys)
first_of_both [] ys = refl
first_of_both (x ∷ xs) ys = refl

pub in_each : (m : Module) (found : FunctionTree → List Found) (fs : List Function) → first (concat (map (λ (f : FunctionTree). map (inside f.name) (found f)) (map (function_in (tables_of m)) fs))) ≡ first_of (λ (f : Function). first (map (inside f.name) (found (function_in (tables_of m) f)))) fs
in_each m found [] = refl
in_each m found (f ∷ fs) =
    let g = function_in (tables_of m) f in
    first_of_both (map (inside f.name) (found g)) (concat (map (λ (f : FunctionTree). map (inside f.name) (found f)) (map (function_in (tables_of m)) fs))) ∙ ap (or_else (first (map (inside f.name) (found g)))) (in_each m found fs)

pub in_module : (m : Module) (found : FunctionTree → List Found) → first (in_functions found (tree_of m)) ≡ first_of (λ (f : Function). first (map (inside f.name) (found (function_in (tables_of m) f)))) m.functions
in_module m found = in_each m found m.functions

-- the same answer, in other words
pub same_answer : {A E : Type 0} (r : Result A E) (a b : A) → a ≡ b → IfOk r (λ x. x ≡ a) → IfOk r (λ x. x ≡ b)
same_answer r a b e h = subst (λ y. IfOk r (λ x. x ≡ y)) e h

-- ---- as a loop over functions needs them

drop_next : {A : Type 0} (xs : List A) (k : ℕ) (x : A) → k < length xs → x ≡ get_or xs k x → drop k xs ≡ x ∷ drop (k + 1) xs
drop_next [] k x lt is = absurd (omega (arith, lt))
drop_next (y ∷ ys) zero x lt is = ap (λ z. z ∷ ys) (sym is)
drop_next (y ∷ ys) (suc k) x lt is = let next : suc k + 1 ≡ suc (k + 1) = omega arith in drop_next ys k x (omega (arith, lt)) is ∙ ap (λ j. x ∷ drop j (y ∷ ys)) (sym next)

pub first_passed : {A B : Type 0} (f : A → Option B) (xs : List A) (k : ℕ) (x : A) (o whole : Option B) → first_of f (drop k xs) ≡ whole → k < length xs → x ≡ get_or xs k x → o ≡ f x → o ≡ None → first_of f (drop (k + 1) xs) ≡ whole
first_passed f xs k x o whole h lt is e none = ap (λ y. or_else y (first_of f (drop (k + 1) xs))) (sym none ∙ e) ∙ sym (ap (first_of f) (drop_next xs k x lt is)) ∙ h

pub first_found : {A B : Type 0} (f : A → Option B) (xs : List A) (k : ℕ) (x : A) (o whole : Option B) (b : B) → first_of f (drop k xs) ≡ whole → k < length xs → x ≡ get_or xs k x → o ≡ f x → o ≡ Some b → Some b ≡ whole
first_found f xs k x o whole b h lt is e found = ap (λ y. or_else y (first_of f (drop (k + 1) xs))) (sym found ∙ e) ∙ sym (ap (first_of f) (drop_next xs k x lt is)) ∙ h
