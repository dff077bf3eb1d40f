-- In what breaks no rule no instruction is wide.
use Rattle.std.proofs.Common.{◌≡◌, List, [], ◌∷◌, ◌++◌, refl}
use Rattle.ir_types.specs.declared.module.Module.{Module}
use Rattle.ir_types.specs.Tree.{ModuleTree}
use Rattle.ir_types.specs.Denotes.{tree_of}
use Rattle.ir_shape.specs.Narrow.{IsNarrow}
use Rattle.ir_rules.specs.WellFormed.{type_breaches, edge_breaches, KeepsRules}
use Rattle.ir_check.specs.WellFormed.{IsWellFormed}
use Rattle.ir_check_types.proofs.Narrowed as types

nothing_first : {A : Type 0} (xs ys : List A) → xs ++ ys ≡ [] → xs ≡ []
nothing_first [] ys e = refl
nothing_first (x ∷ xs) ys e = absurd (cc)

-- what keeps the rules has no number out of range
pub narrow : (m : ModuleTree) → KeepsRules m → IsNarrow m
narrow m keeps = types.narrow m (nothing_first (type_breaches m) (edge_breaches m) keeps.early)

-- and so of a well-formed module
pub narrow_module : (m : Module) → IsWellFormed m → IsNarrow (tree_of m)
narrow_module m w = narrow (tree_of m) w.keeps
