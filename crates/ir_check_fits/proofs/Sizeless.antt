-- The first variable whose type has no size.
use Rattle.std.proofs.Common.{◌≡◌, Bool, true, false, not, List, ◌∷◌, Some, refl}
use Rattle.ir_types.specs.declared.memory_type.TypeId.{TypeId}
use Rattle.ir_types.specs.declared.module.Symbol.{Symbol}
use Rattle.ir_types.specs.declared.module.SymbolKind.{SymbolKind}
use Rattle.ir_types.specs.declared.module.SymbolKind.TheVariants as symbols
use Rattle.ir_types.specs.declared.module.Module.{Module}
use Rattle.ir_types.specs.Denotes.{nodes_in, tree_of}
use Rattle.ir_rules.specs.declared.fault.Subject.TheVariants.{Nothing}
use Rattle.ir_rules.specs.Breaches.{first, outside}
use Rattle.ir_rules.specs.Steps.{type_definitions, has_size}
use Rattle.ir_check_fits.specs.Variables.{is_sizeless, breaches_of}

-- the first symbol is one
pub sizeless_found : (m : Module) (s : Symbol) (rest : List Symbol) → is_sizeless m s ≡ true → first (breaches_of m (s ∷ rest)) ≡ Some (outside Nothing)
sizeless_found m s rest h = by s.kind refl
  where
    sized : (id : TypeId) (b : Bool) → has_size (type_definitions (tree_of m)) (nodes_in m id) ≡ b → not b ≡ true → has_size (type_definitions (tree_of m)) (nodes_in m id) ≡ false
    sized id true e n = absurd cc
    sized id false e n = e

    by : (k : SymbolKind) → s.kind ≡ k → first (breaches_of m (s ∷ rest)) ≡ Some (outside Nothing)
    by (symbols.Variable id writable) e =
        let none = rw e at h in
        rw (e, sized id (has_size (type_definitions (tree_of m)) (nodes_in m id)) refl none) refl
    by (symbols.Function f) e = let none = rw e at h in absurd cc
    by symbols.Missing e = let none = rw e at h in absurd cc

-- the first symbol is none
pub sizeless_behind : (m : Module) (s : Symbol) (rest : List Symbol) → is_sizeless m s ≡ false → first (breaches_of m (s ∷ rest)) ≡ first (breaches_of m rest)
sizeless_behind m s rest h = by s.kind refl
  where
    sized : (id : TypeId) (b : Bool) → has_size (type_definitions (tree_of m)) (nodes_in m id) ≡ b → not b ≡ false → has_size (type_definitions (tree_of m)) (nodes_in m id) ≡ true
    sized id true e n = e
    sized id false e n = absurd cc

    by : (k : SymbolKind) → s.kind ≡ k → first (breaches_of m (s ∷ rest)) ≡ first (breaches_of m rest)
    by (symbols.Variable id writable) e =
        let one = rw e at h in
        rw (e, sized id (has_size (type_definitions (tree_of m)) (nodes_in m id)) refl one) refl
    by (symbols.Function f) e = rw e refl
    by symbols.Missing e = rw e refl
