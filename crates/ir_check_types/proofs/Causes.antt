-- What breaks no rule has no first breach.
use Rattle.std.proofs.Common.{◌≡◌, List, [], ◌∷◌, Some}
use Rattle.ir_types.specs.Tree.{ModuleTree}
use Rattle.ir_rules.specs.declared.fault.Rule.{Rule}
use Rattle.ir_rules.specs.declared.fault.Breach.{Breach}
use Rattle.ir_rules.specs.declared.fault.CheckFault.TheVariants.{Broken}
use Rattle.ir_rules.specs.Breaches.{first}
use Rattle.ir_rules.specs.WellFormed.{type_breaches, TypeCause}

no_first : (xs : List (Rule × Breach)) (x : Rule × Breach) → xs ≡ [] → first xs ≡ Some x → ⊥
no_first [] x e f = absurd (cc)
no_first (y ∷ xs) x e f = absurd (cc)

pub verdict : (m : ModuleTree) (rule : Rule) (breach : Breach) → type_breaches m ≡ [] → TypeCause m (Broken rule breach) → ⊥
verdict m rule breach kept cause = no_first (type_breaches m) (rule, breach) kept cause
