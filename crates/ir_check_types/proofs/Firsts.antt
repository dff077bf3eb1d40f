-- The first breach of rules that are tried one after another.
use Rattle.std.proofs.Common.{◌≡◌, List, [], ◌∷◌, ◌++◌, map, Option, Some, None, refl, sym, ap, ◌∙◌, subst}
use Rattle.ir_rules.specs.declared.fault.Rule.{Rule}
use Rattle.ir_rules.specs.declared.fault.Breach.{Breach}
use Rattle.ir_rules.specs.Breaches.{first}
use Rattle.ir_rules.specs.WellFormed.{of_rule, FirstCause}
use Rattle.ir_rules.specs.declared.fault.CheckFault.{CheckFault}
use Rattle.ir_rules.specs.declared.fault.CheckFault.TheVariants.{Broken}

-- a list has no first, so it is empty
pub none_first : {A : Type 0} (xs : List A) → None ≡ first xs → xs ≡ []
none_first [] e = refl
none_first (x ∷ xs) e = absurd (cc)

-- no breach of this rule, so the first is one of the next
pub next_rule : (r : Rule) (bs : List Breach) (more : List (Rule × Breach)) → bs ≡ [] → of_rule r bs ++ more ≡ more
next_rule r bs more e = ap (λ (xs : List Breach). of_rule r xs ++ more) e

-- a breach of this rule is the first
pub this_rule : (r : Rule) (bs : List Breach) (b : Breach) (more : List (Rule × Breach)) → Some b ≡ first bs → first (of_rule r bs ++ more) ≡ Some (r, b)
this_rule r [] b more e = absurd (cc)
this_rule r (x ∷ bs) b more e = cc

-- this rule is broken, and no earlier one
pub broken : (whole more : List (Rule × Breach)) (r : Rule) (bs : List Breach) (b : Breach) (fault : CheckFault) → whole ≡ of_rule r bs ++ more → Some b ≡ first bs → fault ≡ Broken r b → FirstCause whole fault
broken whole more r bs b fault w f e = subst (FirstCause whole) (sym e) (ap first w ∙ this_rule r bs b more f)
