-- Worked examples of the rule about paths, which no computation decides, and of causes.
use Rattle.std.proofs.Common.{◌≡◌, ◌⊎◌, ℕ, zero, suc, ◌<◌, false, List, [], ◌∷◌, length, codes, Option, Some, None, get_or, Contains, inl, inr, refl, sym, ap, ◌∙◌, subst, true≢false, arith}
use Rattle.ir_types.specs.declared.name.Name.{Name}
use Rattle.ir_types.specs.declared.name.Name.TheVariants.{Text}
use Rattle.ir_types.specs.Names.{same_name}
use Rattle.ir_types.specs.declared.inst.Ty.{Ty}
use Rattle.ir_types.specs.declared.inst.Ty.TheVariants.{Int, Void}
use Rattle.ir_types.specs.Kinds.{Kind, Freeze, Jump, Branch, Return}
use Rattle.ir_types.specs.Tree.{OperandTree, local, number, InstTree, BlockTree, FunctionTree, ModuleTree}
use Rattle.ir_rules.specs.declared.fault.Rule.TheVariants.{NotAvailable}
use Rattle.ir_rules.specs.declared.fault.CheckFault.TheVariants.{Broken}
use Rattle.ir_rules.specs.declared.fault.Subject.TheVariants.{Local}
use Rattle.ir_rules.specs.Breaches.{inside}
use Rattle.ir_graph.specs.Paths.{IsPath, at_entry, along}
use Rattle.ir_rules.specs.Available.{defined_on, IsUnavailable, here, behind, module_uses, AllAvailable, IsFirstUnavailable}
use Rattle.ir_graph.specs.Edges.{successors}
use Rattle.ir_rules.specs.WellFormed.{KeepsRules, Cause, early_breaches}

-- ---- parts of functions

abbrev a : Name
a = Text (codes "a")

abbrev b : Name
b = Text (codes "b")

abbrev c : Name
c = Text (codes "c")

abbrev d : Name
d = Text (codes "d")

abbrev x : Name
x = Text (codes "x")

abbrev inst : Kind → Ty → List OperandTree → List Name → Option Name → InstTree
inst kind ty args labels result = record { kind = kind; ty = ty; args = args; labels = labels; result = result; wide = false; kept = [] }

abbrev block : Name → List InstTree → BlockTree
block name insts = record { name = name; insts = insts }

-- %x = freeze i32 1
abbrev made : InstTree
made = inst Freeze (Int 32) (number 1 ∷ []) [] (Some x)

-- ret i32 %x
abbrev given_back : InstTree
given_back = inst (Return (Int 32)) Void (local x ∷ []) [] None

abbrev jump : Name → InstTree
jump to = inst Jump Void [] (to ∷ []) None

-- a function of i32 and its blocks, with a parameter %c of one bit
abbrev of_blocks : List BlockTree → FunctionTree
of_blocks body = record { name = Text (codes "f"); before = []; ret = Int 32; params = record { ty = Int 1; kept = []; name = c } ∷ []; varargs = false; after = []; body = body }

abbrev alone : FunctionTree → ModuleTree
alone f = record { head = []; type_names = []; symbols = []; functions = f ∷ []; tail = [] }

-- ---- a use to which one of two paths comes without its definition
-- define i32 @f(i1 %c) { a: br i1 %c, label %b, label %d  b: %x = freeze i32 1 br label %d  d: ret i32 %x }

abbrev parting : BlockTree
parting = block a (inst Branch Void (local c ∷ []) (b ∷ d ∷ []) None ∷ [])

abbrev making : BlockTree
making = block b (made ∷ jump d ∷ [])

abbrev ending : BlockTree
ending = block d (given_back ∷ [])

abbrev one_side : FunctionTree
one_side = of_blocks (parting ∷ making ∷ ending ∷ [])

none_there : {A : Type 0} (y : A) → Contains [] y → ⊥
none_there y n = omega (arith, n.1)

other_one : {A : Type 0} (y z : A) (zs : List A) → Contains (z ∷ zs) y → (z ≡ y) ⊎ Contains zs y
other_one y z zs n = at n.0 n.1 n.2 where
  at : (k : ℕ) → k < length (z ∷ zs) → get_or (z ∷ zs) k y ≡ y → (z ≡ y) ⊎ Contains zs y
  at zero lt e = inl e
  at (suc k) lt e = inr (k, omega (arith, lt), e)

-- the path past %b's block
past : IsPath one_side (parting ∷ []) ending
past = along [] parting ending (at_entry parting (making ∷ ending ∷ []) refl) (1, omega arith, refl) (2, omega arith, refl)

not_parameter : Contains (c ∷ []) x → ⊥
not_parameter n = elim (other_one x c [] n) [ inl e ↦ true≢false (sym (ap (λ y. same_name y x) e)) | inr rest ↦ none_there x rest ]

returned : IsUnavailable one_side (record { name = x; block = ending; before = []; place = 3 })
returned = record { passed = parting ∷ []; path = past; lacking = not_parameter }

one_side_uses : module_uses (alone one_side) ≡ (one_side, record { name = c; block = parting; before = []; place = 0 }) ∷ (one_side, record { name = x; block = ending; before = []; place = 3 }) ∷ []
one_side_uses = refl

unavailable : IsFirstUnavailable (alone one_side) (inside (Text (codes "f")) (Local x, 3))
unavailable = record {
  used = (one_side, record { name = x; block = ending; before = []; place = 3 });
  first = behind _ _ _ (λ missing. missing.lacking (0, omega arith, refl)) (here _ [] returned);
  breach = refl;
}

early : early_breaches (alone one_side) ≡ []
early = refl

pub refused : Cause (alone one_side) (Broken NotAvailable (inside (Text (codes "f")) (Local x, 3)))
refused = inr (refl, record { early = early; first = unavailable })

-- ---- one whose definition stands on all paths
-- define i32 @f(i1 %c) { a: %x = freeze i32 1 br label %b  b: ret i32 %x }

abbrev beginning : BlockTree
beginning = block a (made ∷ jump b ∷ [])

abbrev returning : BlockTree
returning = block b (given_back ∷ [])

abbrev straight : FunctionTree
straight = of_blocks (beginning ∷ returning ∷ [])

entry_is : (entry : BlockTree) (blocks : List BlockTree) → straight.body ≡ entry ∷ blocks → beginning ≡ entry
entry_is entry blocks e = cc

-- where a path comes to is a block of the function
comes_to : (passed : List BlockTree) (to : BlockTree) → IsPath straight passed to → (beginning ≡ to) ⊎ (returning ≡ to)
comes_to _ to (at_entry _ blocks e) = inl (entry_is to blocks e)
comes_to _ to (along passed from _ path goes there) = elim (other_one to beginning (returning ∷ []) there) [
  | inl e ↦ inl e
  | inr n ↦ elim (other_one to returning [] n) [ inl e ↦ inr e | inr none ↦ absurd (none_there to none) ]
]

apart : beginning ≡ returning → ⊥
apart e = true≢false (ap (λ (z : BlockTree). same_name z.name a) e)

-- each path to the second block has passed the first one
has_passed : (passed : List BlockTree) (to : BlockTree) → returning ≡ to → IsPath straight passed to → (more : List BlockTree) × (passed ≡ beginning ∷ more)
has_passed _ to is (at_entry _ blocks e) = absurd (apart (entry_is to blocks e ∙ sym is))
has_passed _ to is (along passed from _ path goes there) = elim (comes_to passed from path) [
  | inl e ↦ (passed, ap (λ z. z ∷ passed) (sym e))
  | inr e ↦ absurd (none_there to.name (subst (λ z. Contains (successors z) to.name) (sym e) goes))
]

available : AllAvailable (alone straight)
available u n missing = elim (other_one u (straight, record { name = x; block = returning; before = []; place = 2 }) [] n) [
  | inr none ↦ none_there u none
  | inl e ↦ by (subst (λ z. IsUnavailable z.0 z.1) (sym e) missing)
]
  where
    by : IsUnavailable straight (record { name = x; block = returning; before = []; place = 2 }) → ⊥
    by lacks = let first = has_passed lacks.passed returning refl lacks.path in
        lacks.lacking (subst (λ (p : List BlockTree). Contains (defined_on straight p []) x) (sym first.1) (1, omega arith, refl))

pub accepted : KeepsRules (alone straight)
accepted = record { early = refl; available = available }
