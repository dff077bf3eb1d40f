-- Trees that keep the rules, and the first rule that another one breaks.
use Rattle.std.specs.Prelude.{◌≡◌, ◌⊎◌, List, [], ◌++◌, map, Some}
use Rattle.ir_types.specs.Tree.{ModuleTree}
use Rattle.ir_rules.specs.declared.fault.Rule.{Rule}
use Rattle.ir_rules.specs.declared.fault.Rule.TheVariants.{DuplicateName, UnknownName, TypeMismatch, UnknownCallee, Numbering, EntryHasPredecessor, PhiEdges, NotAvailable}
use Rattle.ir_rules.specs.declared.fault.Breach.{Breach}
use Rattle.ir_rules.specs.declared.fault.CheckFault.{CheckFault}
use Rattle.ir_rules.specs.declared.fault.CheckFault.TheVariants.{Broken, Memory}
use Rattle.ir_rules.specs.Breaches.{first}
use Rattle.ir_rules.specs.Duplicates.{duplicate_names}
use Rattle.ir_rules.specs.Unknown.{unknown_names}
use Rattle.ir_rules.specs.Mismatch.{type_mismatches}
use Rattle.ir_rules.specs.Callees.{unknown_callees}
use Rattle.ir_rules.specs.Numbering.{misnumbered_names}
use Rattle.ir_rules.specs.Edges.{entries_with_predecessors, wrong_edges}
use Rattle.ir_rules.specs.Available.{AllAvailable, IsFirstUnavailable}

-- breaches of a rule
abbrev pub of_rule : Rule → List Breach → List (Rule × Breach)
of_rule r bs = map (λ b. (r, b)) bs

-- all breaches of the rules about names and types, rule by rule
abbrev pub type_breaches : ModuleTree → List (Rule × Breach)
type_breaches m =
    of_rule DuplicateName (duplicate_names m)
    ++ (of_rule UnknownName (unknown_names m)
    ++ (of_rule TypeMismatch (type_mismatches m)
    ++ (of_rule UnknownCallee (unknown_callees m)
    ++ of_rule Numbering (misnumbered_names m))))

-- all breaches of the rules about edges, rule by rule
abbrev pub edge_breaches : ModuleTree → List (Rule × Breach)
edge_breaches m = of_rule EntryHasPredecessor (entries_with_predecessors m) ++ of_rule PhiEdges (wrong_edges m)

-- all breaches but those of the last rule
abbrev pub early_breaches : ModuleTree → List (Rule × Breach)
early_breaches m = type_breaches m ++ edge_breaches m

-- a tree that breaks no rule
pub record KeepsRules (m : ModuleTree) : Type 0 where
  pub early : early_breaches m ≡ []
  pub available : AllAvailable m

-- a breach is the first of a list of all breaches
abbrev pub FirstCause : List (Rule × Breach) → CheckFault → Type 0
FirstCause breaches (Broken rule breach) = first breaches ≡ Some (rule, breach)
FirstCause breaches Memory = Unit {0}

-- why a module is refused by the rules about names and types
abbrev pub TypeCause : ModuleTree → CheckFault → Type 0
TypeCause m fault = FirstCause (type_breaches m) fault

-- no earlier rule is broken, and the last one is broken here first
pub record IsLastBroken (m : ModuleTree) (b : Breach) : Type 0 where
  pub early : early_breaches m ≡ []
  pub first : IsFirstUnavailable m b

-- why a module is refused by all rules
abbrev pub Cause : ModuleTree → CheckFault → Type 0
Cause m (Broken rule breach) = (first (early_breaches m) ≡ Some (rule, breach)) ⊎ ((rule ≡ NotAvailable) × IsLastBroken m breach)
Cause m Memory = Unit {0}
