-- Causes of refusals.
use Rattle.std.proofs.Common.{◌≡◌, List, [], ◌∷◌, Option, Some, None, refl, sym, ap, ◌∙◌, subst, suc, inl, inr, arith}
use Rattle.std.specs.Prelude.{Contains}
use Rattle.ir_types.specs.declared.module.Module.{Module}
use Rattle.ir_types.specs.Tree.{FunctionTree, ModuleTree}
use Rattle.ir_types.specs.Denotes.{tree_of}
use Rattle.ir_shape.specs.Modules.{IsModule}
use Rattle.ir_rules.specs.declared.fault.Rule.{Rule}
use Rattle.ir_rules.specs.declared.fault.Breach.{Breach}
use Rattle.ir_rules.specs.declared.fault.CheckFault.TheVariants.{Broken}
use Rattle.ir_rules.specs.Breaches.{first}
use Rattle.ir_rules.specs.Available.{LocalUse, IsFirstOf, here, behind, IsUnavailableUse, module_uses, breach_at, IsFirstUnavailable}
use Rattle.ir_rules.specs.WellFormed.{KeepsRules, Cause, early_breaches}
use Rattle.ir_check.specs.WellFormed.{IsWellFormed}

-- one of a list is one of a longer one
contains_behind : {A : Type 0} (x : A) (xs : List A) (y : A) → Contains xs y → Contains (x ∷ xs) y
contains_behind x xs y (k, lt, e) = (suc k, omega arith, e)

-- the first of which something holds is one of the list, and it holds of it
pub is_among : {A : Type 0} (P : A → Type 0) (xs : List A) (x : A) → IsFirstOf P xs x → Contains xs x
is_among P _ _ (here x xs p) = (0, omega arith, refl)
is_among P _ _ (behind x y xs n rest) = contains_behind x xs y (is_among P xs y rest)

pub it_holds : {A : Type 0} (P : A → Type 0) (xs : List A) (x : A) → IsFirstOf P xs x → P x
it_holds P _ _ (here x xs p) = p
it_holds P _ _ (behind x y xs n rest) = it_holds P xs y rest

-- there is one
pub one_first : {A : Type 0} (P : A → Type 0) (xs : List A) (x y : A) → IsFirstOf P xs x → IsFirstOf P xs y → x ≡ y
one_first P _ _ _ (here x xs p) (here _ _ q) = refl
one_first P _ _ _ (here x xs p) (behind _ y _ n rest) = absurd (n p)
one_first P _ _ _ (behind x y xs n rest) (here _ _ p) = absurd (n p)
one_first P _ _ _ (behind x y xs n rest) (behind _ z _ k other) = one_first P xs y z rest other

-- what breaks no rule has no breach
early_verdict : (xs : List (Rule × Breach)) (x : Rule × Breach) → xs ≡ [] → first xs ≡ Some x → ⊥
early_verdict [] x e f = absurd (cc)
early_verdict (y ∷ xs) x e f = absurd (cc)

last_verdict : (m : ModuleTree) (b : Breach) → KeepsRules m → IsFirstUnavailable m b → ⊥
last_verdict m b keeps is = keeps.available is.used (is_among IsUnavailableUse (module_uses m) is.used is.first) (it_holds IsUnavailableUse (module_uses m) is.used is.first)

-- what keeps the rules has no cause of a broken one
pub verdict : (m : ModuleTree) (r : Rule) (b : Breach) → KeepsRules m → Cause m (Broken r b) → ⊥
verdict m r b keeps (inl early) = early_verdict (early_breaches m) (r, b) keeps.early early
verdict m r b keeps (inr last) = last_verdict m b keeps last.1.first

-- one cause
same_use : (x y : FunctionTree × LocalUse) → x ≡ y → breach_at x ≡ breach_at y
same_use x y e = ap breach_at e

rule_or : Rule → Option (Rule × Breach) → Rule
rule_or r None = r
rule_or r (Some x) = x.0

breach_or : Breach → Option (Rule × Breach) → Breach
breach_or b None = b
breach_or b (Some x) = x.1

-- a module has one cause at most
pub cause_is_one : (m : ModuleTree) (r s : Rule) (b c : Breach) → Cause m (Broken r b) → Cause m (Broken s c) → (r ≡ s) × (b ≡ c)
unfolding rule_or breach_or
cause_is_one m r s b c (inl x) (inl y) = (ap (rule_or r) (sym x ∙ y), ap (breach_or b) (sym x ∙ y))
cause_is_one m r s b c (inl x) (inr y) = absurd (early_verdict (early_breaches m) (r, b) y.1.early x)
cause_is_one m r s b c (inr x) (inl y) = absurd (early_verdict (early_breaches m) (s, c) x.1.early y)
cause_is_one m r s b c (inr x) (inr y) =
    let used = same_use x.1.first.used y.1.first.used (one_first IsUnavailableUse (module_uses m) x.1.first.used y.1.first.used x.1.first.first y.1.first.first) in
    (x.0 ∙ sym y.0, x.1.first.breach ∙ (used ∙ sym y.1.first.breach))

-- well-formedness is about what a module says
pub same_is_well_formed : (m n : Module) → IsWellFormed m → tree_of m ≡ tree_of n → IsModule n → IsWellFormed n
same_is_well_formed m n w same is = record { is_module = is; keeps = subst KeepsRules same w.keeps }
