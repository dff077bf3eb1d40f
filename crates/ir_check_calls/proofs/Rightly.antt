-- Of names that no two functions have: what is said of a symbol by its function's place is what the rule says.
use Rattle.std.proofs.Common.{◌≡◌, ℕ, zero, suc, Bool, true, false, ◌&&◌, List, [], ◌∷◌, map, Option, Some, None, inl, inr, refl, sym, ap, ◌∙◌, true≢false, if◌then◌else◌}
use Rattle.std.specs.Prelude.{slice_get}
use Rattle.std.specs.List.{list_any}
use Rattle.text_forms.proofs.Begins.{test}
use Rattle.ir_types.specs.declared.name.Name.{Name}
use Rattle.ir_types.specs.declared.module.Function.{Function}
use Rattle.ir_types.specs.declared.module.Module.{Module}
use Rattle.ir_types.specs.declared.module.Symbol.{Symbol}
use Rattle.ir_types.specs.declared.module.SymbolKind.{SymbolKind}
use Rattle.ir_types.specs.declared.module.SymbolKind.TheVariants as symbols
use Rattle.ir_types.specs.Names.{same_name, has_name}
use Rattle.ir_types.specs.Denotes.{Tables, function_in, nodes_in, symbol_in}
use Rattle.ir_types.specs.Tree.{FunctionTree, SymbolTree, variable, function}
use Rattle.ir_shape.proofs.FunctionPlaces.{IsNamedAt, IsNamedRightly}
use Rattle.ir_rules.specs.declared.fault.Breach.{Breach}
use Rattle.ir_rules.specs.declared.fault.Subject.TheVariants.{Symbol as SymbolSubject}
use Rattle.ir_rules.specs.Breaches.{first, outside}
use Rattle.ir_rules.specs.Callees.{may_mean, means_rightly, misdeclared}
use Rattle.ir_intrinsics.specs.Intrinsics.{Meant, meant_by}
use Rattle.ir_check_calls.specs.Heads.{Apart, function_names, may_mean_of, means_rightly_of, misdeclared_of}
use Rattle.ir_check_calls.proofs.Agree.{may_mean_same}
use Rattle.ir_check_calls.proofs.Once.{same_name-Decides, none_of_name, or_false}

-- a name that a function at a place has is among theirs
there : (fs : List Function) (n : Name) (i : ℕ) → IsNamedAt fs n i → has_name n (function_names fs) ≡ true
there [] n i at = absurd cc
there (f ∷ fs) n zero at = let same : same_name n f.name ≡ true = (same_name-Decides n f.name).1 cc in rw same refl
there (f ∷ fs) n (suc i) at = elim (test (same_name n f.name)) [ inl e ↦ rw e refl | inr e ↦ rw (e, there fs n i at) refl ]

meant_once : (t : Tables) (fs : List Function) → Apart (function_names fs) → (n : Name) (i : ℕ) (meant : Meant) → IsNamedAt fs n i → ◌≡◌ {A = Bool} (list_any (λ f. same_name n f.name && may_mean f meant) (map (function_in t) fs)) (elim (slice_get fs i) [ Some f ↦ may_mean_of f meant | None ↦ true ])
meant_once t [] once n i meant at = absurd cc
meant_once t (f ∷ fs) once n zero meant at =
    let name : n ≡ f.name = cc in
    let none : has_name n (function_names fs) ≡ false = ap (λ (k : Name). has_name k (function_names fs)) name ∙ once.0 in
    let same : same_name n f.name ≡ true = (same_name-Decides n f.name).1 name in
    rw (same, none_of_name t n (λ f. may_mean f meant) fs none) (or_false (may_mean (function_in t f) meant) ∙ may_mean_same t f meant)
meant_once t (f ∷ fs) once n (suc i) meant at = elim (test (same_name n f.name)) [
  | inl e ↦ absurd (true≢false (sym (there fs n i at) ∙ ap (λ (k : Name). has_name k (function_names fs)) ((same_name-Decides n f.name).0 e) ∙ once.0))
  | inr e ↦ rw e (meant_once t fs once.1 n i meant at)
]

-- what a symbol breaks first, as the rule has it, for what it may mean
abbrev pub first_of_kind : List FunctionTree → Option SymbolTree → Option Breach
first_of_kind fs o = elim o [ Some s ↦ first (misdeclared fs s) | None ↦ None ]

first_of_meant : (fs : List FunctionTree) (s : SymbolTree) (b : Meant → Bool) (o : Option Meant) → ((meant : Meant) → means_rightly fs s.name s.kind meant ≡ b meant) → ◌≡◌ {A = Option Breach} (first (elim o [ Some meant ↦ if means_rightly fs s.name s.kind meant then [] else outside (SymbolSubject s.name) ∷ [] | None ↦ [] ])) (elim o [ Some meant ↦ if b meant then None else Some (outside (SymbolSubject s.name)) | None ↦ None ])
first_of_meant fs s b None same = refl
first_of_meant fs s b (Some meant) same = elim (test (b meant)) [ inl e ↦ rw (same meant, e) refl | inr e ↦ rw (same meant, e) refl ]

nothing_missing : (name : Name) (o : Option Meant) → ◌≡◌ {A = Option Breach} None (elim o [ Some meant ↦ if true then None else Some (outside (SymbolSubject name)) | None ↦ None ])
nothing_missing name None = refl
nothing_missing name (Some meant) = refl

-- a symbol is declared wrongly in the module as in its tree
pub misdeclared_same : (t : Tables) (m : Module) → Apart (function_names m.functions) → (s : Symbol) → IsNamedRightly m.functions s → first_of_kind (map (function_in t) m.functions) (symbol_in m s) ≡ misdeclared_of m.functions s
misdeclared_same t m once s = by s.kind where
  by : (k : SymbolKind) → IsNamedRightly m.functions (record s { kind = k }) → first_of_kind (map (function_in t) m.functions) (symbol_in m (record s { kind = k })) ≡ misdeclared_of m.functions (record s { kind = k })
  by (symbols.Variable id writable) named = first_of_meant (map (function_in t) m.functions) (record { name = s.name; kind = variable (nodes_in m id) writable; before = s.before; after = s.after }) (λ meant. false) (meant_by s.name) (λ meant. refl)
  by (symbols.Function id) named = first_of_meant (map (function_in t) m.functions) (record { name = s.name; kind = function; before = s.before; after = s.after }) (λ meant. means_rightly_of m.functions (symbols.Function id) meant) (meant_by s.name) (λ meant. meant_once t m.functions once s.name id.0 meant named)
  by symbols.Missing named = nothing_missing s.name (meant_by s.name)
