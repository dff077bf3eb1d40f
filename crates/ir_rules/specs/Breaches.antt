-- Lists of places at which a rule may be broken.
use Rattle.std.specs.Prelude.{ℕ, suc, List, [], ◌∷◌, ◌++◌, map, Some, None}
use Rattle.text_forms.specs.Nested.{concat}
use Rattle.ir_types.specs.declared.name.Name.{Name}
use Rattle.ir_types.specs.Tree.{InstTree, FunctionTree, ModuleTree}
use Rattle.ir_types.specs.Used.{insts_of}
pub use Rattle.ir_intrinsics.specs.Intrinsics.{first}
use Rattle.ir_rules.specs.declared.fault.Subject.{Subject}
use Rattle.ir_rules.specs.declared.fault.Subject.TheVariants.{Nothing, Local}
use Rattle.ir_rules.specs.declared.fault.Breach.{Breach}

-- each of a list, behind its number, which counts from this one
abbrev pub numbered_from : {A : Type 0} → ℕ → List A → List (ℕ × A)
numbered_from n [] = []
numbered_from n (x ∷ xs) = (n, x) ∷ numbered_from (suc n) xs

-- each of a list, behind those that stand before it, where these stand before all
abbrev pub behind_those : {A : Type 0} → List A → List A → List (List A × A)
behind_those before [] = []
behind_those before (x ∷ xs) = (before, x) ∷ behind_those (before ++ x ∷ []) xs

-- each of a list, behind those that stand before it
abbrev pub with_before : {A : Type 0} → List A → List (List A × A)
with_before xs = behind_those [] xs

-- a breach outside functions
abbrev pub outside : Subject → Breach
outside s = record { function = None; subject = s; place = 0 }

-- what a rule finds in a function: of what it is said, and the instruction's number
abbrev pub Found : Type 0
Found = Subject × ℕ

-- a breach in the function of this name
abbrev pub inside : Name → Found → Breach
inside n x = record { function = Some n; subject = x.0; place = x.1 }

-- the breaches in all functions, from what is found in each
abbrev pub in_functions : (FunctionTree → List Found) → ModuleTree → List Breach
in_functions by m = concat (map (λ (f : FunctionTree). map (inside f.name) (by f)) m.functions)

-- subjects at one place
abbrev pub all_at : ℕ → List Subject → List Found
all_at place subjects = map (λ s. (s, place)) subjects

-- what is found in all instructions of a function, from the subjects in each
abbrev pub in_insts : (InstTree → List Subject) → FunctionTree → List Found
in_insts found f = concat (map (λ i. all_at i.0 (found i.1)) (numbered_from 0 (insts_of f)))

-- the result of an instruction, where it has one
abbrev pub result_of : InstTree → Subject
result_of i = elim i.result [ Some n ↦ Local n | None ↦ Nothing ]
