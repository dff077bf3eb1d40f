-- In a tree whose types fit no instruction is wide.
use Rattle.std.proofs.Common.{◌≡◌, ℕ, suc, Bool, true, false, not, ◌&&◌, List, [], ◌∷◌, ◌++◌, map, Option, Some, None, refl, sym, ap, ◌∙◌, if◌then◌else◌}
use Rattle.std.specs.List.{AllByRecursion, list_all}
use Rattle.text_forms.specs.Nested.{concat}
use Rattle.ir_types.specs.declared.module.Module.{Module}
use Rattle.ir_types.specs.Tree.{InstTree, BlockTree, FunctionTree, SymbolTree, ModuleTree}
use Rattle.ir_types.specs.Denotes.{tree_of}
use Rattle.ir_shape.specs.Narrow.{IsNarrowInst, IsNarrowBlock, IsNarrowFunction, IsNarrow}
use Rattle.ir_rules.specs.declared.fault.Rule.{Rule}
use Rattle.ir_rules.specs.declared.fault.Breach.{Breach}
use Rattle.ir_rules.specs.declared.fault.Subject.{Subject}
use Rattle.ir_rules.specs.Breaches.{Found, inside, all_at, numbered_from, in_functions, in_insts, result_of}
use Rattle.ir_rules.specs.Mismatch.{Around, around, result_fits, operands_fit, kind_fits, inst_fits, misfits, mismatches, sizeless, type_mismatches}
use Rattle.ir_rules.specs.declared.fault.Rule.TheVariants.{DuplicateName, UnknownName, TypeMismatch}
use Rattle.ir_rules.specs.Duplicates.{duplicate_names}
use Rattle.ir_rules.specs.Unknown.{unknown_names}
use Rattle.ir_rules.specs.Operands.{is_label}
use Rattle.ir_rules.specs.WellFormed.{of_rule, type_breaches}

-- ---- nothing in a list of lists

-- two lists behind one another with nothing in them
nothing_first : {A : Type 0} (xs ys : List A) → xs ++ ys ≡ [] → xs ≡ []
nothing_first [] ys e = refl
nothing_first (x ∷ xs) ys e = absurd (cc)

nothing_second : {A : Type 0} (xs ys : List A) → xs ++ ys ≡ [] → ys ≡ []
nothing_second [] ys e = e
nothing_second (x ∷ xs) ys e = absurd (cc)

nothing_mapped : {A B : Type 0} (h : A → B) (xs : List A) → map h xs ≡ [] → xs ≡ []
nothing_mapped h [] e = refl
nothing_mapped h (x ∷ xs) e = absurd (cc)

-- all of two lists behind one another
all_first : {A : Type 0} (P : A → Type 0) (xs ys : List A) → AllByRecursion P (xs ++ ys) → AllByRecursion P xs
all_first P [] ys h = tt
all_first P (x ∷ xs) ys h = (h.0, all_first P xs ys h.1)

all_second : {A : Type 0} (P : A → Type 0) (xs ys : List A) → AllByRecursion P (xs ++ ys) → AllByRecursion P ys
all_second P [] ys h = h
all_second P (x ∷ xs) ys h = all_second P xs ys h.1

-- ---- instructions

narrow_if : (wide rest : Bool) (s : Subject) → (if not wide && rest then [] else s ∷ []) ≡ [] → wide ≡ false
narrow_if true rest s e = absurd (cc)
narrow_if false rest s e = refl

fits_narrow : (x : Around) (i : InstTree) → misfits x i ≡ [] → i.wide ≡ false
fits_narrow x i e = narrow_if i.wide (result_fits i.ty i.result && (list_all (is_label x.locals) i.labels && (operands_fit x i.kind i.ty i.args && kind_fits x i.kind i.ty i.args))) (result_of i) e

narrow_from : (x : Around) (n : ℕ) (is : List InstTree) → concat (map (λ i. all_at i.0 (misfits x i.1)) (numbered_from n is)) ≡ [] → AllByRecursion IsNarrowInst is
narrow_from x n [] e = tt
narrow_from x n (i ∷ is) e = (
  fits_narrow x i (nothing_mapped (λ s. (s, n)) (misfits x i) (nothing_first (all_at n (misfits x i)) _ e)),
  narrow_from x (suc n) is (nothing_second (all_at n (misfits x i)) _ e),
)

-- ---- functions

narrow_blocks : (bs : List BlockTree) → AllByRecursion IsNarrowInst (concat (map (λ (b : BlockTree). b.insts) bs)) → AllByRecursion IsNarrowBlock bs
narrow_blocks [] h = tt
narrow_blocks (b ∷ bs) h = (all_first IsNarrowInst b.insts _ h, narrow_blocks bs (all_second IsNarrowInst b.insts _ h))

narrow_functions : (m : ModuleTree) (fs : List FunctionTree) → concat (map (λ (f : FunctionTree). map (inside f.name) (mismatches m f)) fs) ≡ [] → AllByRecursion IsNarrowFunction fs
narrow_functions m [] e = tt
narrow_functions m (f ∷ fs) e =
    let here : mismatches m f ≡ [] = nothing_mapped (inside f.name) (mismatches m f) (nothing_first (map (inside f.name) (mismatches m f)) _ e) in
    (narrow_blocks f.body (narrow_from (around m f) 0 _ here), narrow_functions m fs (nothing_second (map (inside f.name) (mismatches m f)) _ e))

-- the mismatches are among the breaches
no_mismatches : (m : ModuleTree) → type_breaches m ≡ [] → type_mismatches m ≡ []
no_mismatches m types =
    let behind_names : _ = nothing_second (of_rule DuplicateName (duplicate_names m)) _ types in
    let behind_unknown : _ = nothing_second (of_rule UnknownName (unknown_names m)) _ behind_names in
    nothing_mapped (λ b. (TypeMismatch, b)) (type_mismatches m) (nothing_first (of_rule TypeMismatch (type_mismatches m)) _ behind_unknown)

-- what keeps the rules on types has no number out of range
pub narrow : (m : ModuleTree) → type_breaches m ≡ [] → IsNarrow m
narrow m kept = narrow_functions m m.functions (nothing_second (concat (map (λ (s : SymbolTree). sizeless m s.kind) m.symbols)) _ (no_mismatches m kept))

-- and so of a module
pub narrow_module : (m : Module) → type_breaches (tree_of m) ≡ [] → IsNarrow (tree_of m)
narrow_module m kept = narrow (tree_of m) kept
