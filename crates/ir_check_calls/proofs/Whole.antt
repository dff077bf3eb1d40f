-- The first breach of the rule in a module.
use Rattle.std.proofs.Common.{◌≡◌, List, [], ◌∷◌, ◌++◌, map, Option, Some, None, refl, sym, ap, subst, ◌∙◌, if◌then◌else◌}
use Rattle.std.specs.Prelude.{filter_map}
use Rattle.std.specs.List.{AllByRecursion, cons_option}
use Rattle.std.proofs.lemmas.List.{map-append}
use Rattle.text_forms.specs.Nested.{concat}
use Rattle.ir_types.specs.declared.name.Name.{Name}
use Rattle.ir_types.specs.declared.inst.Ty.{Ty}
use Rattle.ir_types.specs.declared.module.Function.{Function}
use Rattle.ir_types.specs.declared.module.Module.{Module}
use Rattle.ir_types.specs.declared.module.Symbol.{Symbol}
use Rattle.ir_types.specs.Kinds.{Kind, Binary, Compare, Select, Freeze, Trunc, Zext, Sext, PtrToInt, Phi, Offset, Load, Store, Call, Extract, Insert, Shuffle, Jump, Branch, Switch, ReturnVoid, Return, Unreachable}
use Rattle.ir_types.specs.Tree.{InstTree, FunctionTree, SymbolTree, TypeNameTree, ModuleTree}
use Rattle.ir_types.specs.Denotes.{Tables, tables_of, function_in, symbol_in, tree_of}
use Rattle.ir_types.specs.Collected.{symbol_of, symbol_of_function, as_variable, as_function}
use Rattle.ir_shape.specs.Modules.{IsModule}
use Rattle.ir_shape.proofs.FunctionPlaces.{IsNamedRightly, functions_at}
use Rattle.ir_rules.specs.declared.fault.Breach.{Breach}
use Rattle.ir_rules.specs.declared.fault.Subject.TheVariants.{Symbol as SymbolSubject, TypeName as TypeSubject}
use Rattle.ir_rules.specs.Breaches.{first, outside, inside, in_insts, in_functions}
use Rattle.ir_rules.specs.Duplicates.{repeated, repeated_locals, duplicate_names}
use Rattle.ir_rules.specs.Callees.{misdeclared, miscalled_by, miscalls, unknown_callees}
use Rattle.ir_check_calls.specs.Heads.{Apart, function_names, misdeclared_of, miscalled_so, miscalled_in}
use Rattle.ir_check_calls.proofs.Rightly.{misdeclared_same}
use Rattle.ir_check_calls.proofs.Once.{called_once, not_repeated, apart_behind, none_mapped, none_before, none_behind, names_of_symbols, names_in}

-- ---- the first of lists behind one another

-- what is first, or else what another list has first
abbrev or_first : {A : Type 0} → Option A → Option A → Option A
or_first None b = b
or_first (Some x) b = Some x

first_of_both : {A : Type 0} (xs ys : List A) → first (xs ++ ys) ≡ or_first (first xs) (first ys)
first_of_both [] ys = refl
first_of_both (x ∷ xs) ys = refl

front_first : {B : Type 0} (ys rest firsts : List B) → first rest ≡ first firsts → first (ys ++ rest) ≡ first (cons_option (first ys) firsts)
front_first [] rest firsts e = e
front_first (y ∷ ys) rest firsts e = refl

first_each : {A B : Type 0} (g : A → List B) (xs : List A) → first (concat (map g xs)) ≡ first (filter_map (λ x. first (g x)) xs)
first_each g [] = refl
first_each g (x ∷ xs) = front_first (g x) (concat (map g xs)) (filter_map (λ x. first (g x)) xs) (first_each g xs)

filter_each : {A B C : Type 0} (h : B → Option C) (f : A → B) (xs : List A) → filter_map h (map f xs) ≡ filter_map (λ x. h (f x)) xs
filter_each h f [] = refl
filter_each h f (x ∷ xs) = ap (cons_option (h (f x))) (filter_each h f xs)

-- ---- symbols

first_cons : {C : Type 0} (o : Option C) (rest : List C) → first (cons_option o rest) ≡ or_first o (first rest)
first_cons None rest = refl
first_cons (Some c) rest = refl

of_one : {B C : Type 0} (g : B → List C) (o : Option B) (rest : List B) → first (concat (map g (cons_option o rest))) ≡ or_first (elim o [ Some b ↦ first (g b) | None ↦ None ]) (first (concat (map g rest)))
of_one g None rest = refl
of_one g (Some b) rest = first_of_both (g b) (concat (map g rest))

symbols_first : (t : Tables) (m : Module) → Apart (function_names m.functions) → (ss : List Symbol) → AllByRecursion (IsNamedRightly m.functions) ss → first (concat (map (misdeclared (map (function_in t) m.functions)) (filter_map (symbol_in m) ss))) ≡ first (filter_map (misdeclared_of m.functions) ss)
symbols_first t m once [] named = refl
symbols_first t m once (s ∷ ss) named =
    let wrong = misdeclared (map (function_in t) m.functions) in
    of_one wrong (symbol_in m s) (filter_map (symbol_in m) ss)
    ∙ ap (λ o. or_first o (first (concat (map wrong (filter_map (symbol_in m) ss))))) (misdeclared_same t m once s named.0)
    ∙ ap (or_first (misdeclared_of m.functions s)) (symbols_first t m once ss named.1)
    ∙ sym (first_cons (misdeclared_of m.functions s) (filter_map (misdeclared_of m.functions) ss))

-- ---- calls

miscalled_same : (t : Tables) (fs : List Function) → Apart (function_names fs) → (k : Kind) (ty : Ty) → miscalled_by (map (function_in t) fs) k ty ≡ miscalled_so (function_names fs) fs k ty
miscalled_same t fs once (Call callee) ty = ap (λ b. if b then [] else SymbolSubject callee.name ∷ []) (called_once t callee ty fs once)
miscalled_same t fs once (Binary op flags) ty = refl
miscalled_same t fs once (Compare p of) ty = refl
miscalled_same t fs once (Select condition last) ty = refl
miscalled_same t fs once Freeze ty = refl
miscalled_same t fs once (Trunc from nuw nsw) ty = refl
miscalled_same t fs once (Zext from nneg) ty = refl
miscalled_same t fs once (Sext from) ty = refl
miscalled_same t fs once PtrToInt ty = refl
miscalled_same t fs once Phi ty = refl
miscalled_same t fs once (Offset nodes widths inbounds nuw nusw) ty = refl
miscalled_same t fs once (Load align) ty = refl
miscalled_same t fs once (Store of align) ty = refl
miscalled_same t fs once (Extract of width) ty = refl
miscalled_same t fs once (Insert element width) ty = refl
miscalled_same t fs once (Shuffle of other mask) ty = refl
miscalled_same t fs once Jump ty = refl
miscalled_same t fs once Branch ty = refl
miscalled_same t fs once (Switch width cases) ty = refl
miscalled_same t fs once ReturnVoid ty = refl
miscalled_same t fs once (Return of) ty = refl
miscalled_same t fs once Unreachable ty = refl

functions_first : (m : Module) → Apart (function_names m.functions) → first (in_functions (miscalls (tree_of m)) (tree_of m)) ≡ first (filter_map (miscalled_in m (function_names m.functions)) m.functions)
functions_first m once =
    let t = tables_of m in
    first_each (λ (f : FunctionTree). map (inside f.name) (miscalls (tree_of m) f)) (map (function_in t) m.functions)
    ∙ ap first (filter_each (λ (f : FunctionTree). first (map (inside f.name) (miscalls (tree_of m) f))) (function_in t) m.functions)
    ∙ (λ j. first (filter_map (λ (f : Function). first (map (inside f.name) (in_insts (λ (i : InstTree). miscalled_same t m.functions once i.kind i.ty j) (function_in t f)))) m.functions))

-- ---- no two functions have one name

-- in a module without duplicates the names of functions are apart
pub once_each : (m : Module) → IsModule m → duplicate_names (tree_of m) ≡ [] → Apart (function_names m.functions)
once_each m is distinct =
    let h = is.shape in
    let variables = map symbol_of (filter_map as_variable h.items) in
    let functions = filter_map as_function h.items in
    let name : SymbolTree → Name = λ s. s.name in
    let symbols = map name (tree_of m).symbols in
    let none : repeated symbols ≡ [] = none_mapped (λ n. outside (SymbolSubject n)) (repeated symbols) (none_before (map (λ n. outside (SymbolSubject n)) (repeated symbols)) (in_functions repeated_locals (tree_of m)) (none_behind (map (λ n. outside (TypeSubject n)) (repeated (map (λ (t : TypeNameTree). t.name) (tree_of m).type_names))) (map (λ n. outside (SymbolSubject n)) (repeated symbols) ++ in_functions repeated_locals (tree_of m)) distinct)) in
    let names : map (λ (f : FunctionTree). f.name) functions ≡ function_names m.functions = ap (λ (t : ModuleTree). map (λ (f : FunctionTree). f.name) t.functions) h.says ∙ names_in (tables_of m) m.functions in
    let parts : symbols ≡ map name variables ++ function_names m.functions = ap (λ (t : ModuleTree). map name t.symbols) (sym h.says) ∙ map-append name variables (map symbol_of_function functions) ∙ ap (λ ns. map name variables ++ ns) (names_of_symbols functions ∙ names) in
    apart_behind (map name variables) (function_names m.functions) (subst Apart parts (not_repeated symbols none))

-- ---- the whole

whole : (m : Module) → IsModule m → Apart (function_names m.functions) → first (unknown_callees (tree_of m)) ≡ or_first (first (filter_map (misdeclared_of m.functions) m.symbols)) (first (in_functions (miscalls (tree_of m)) (tree_of m)))
whole m is once =
    let calls = in_functions (miscalls (tree_of m)) (tree_of m) in
    first_of_both (concat (map (misdeclared (tree_of m).functions) (tree_of m).symbols)) calls
    ∙ ap (λ o. or_first o (first calls)) (symbols_first (tables_of m) m once m.symbols (functions_at m is))

-- the first wrong declaration is the first breach
pub symbol_first : (m : Module) (b : Breach) → IsModule m → Apart (function_names m.functions) → Some b ≡ first (filter_map (misdeclared_of m.functions) m.symbols) → Some b ≡ first (unknown_callees (tree_of m))
symbol_first m b is once e = ap (λ o. or_first o (first (in_functions (miscalls (tree_of m)) (tree_of m)))) e ∙ sym (whole m is once)

-- and where there is none, the first wrong call
pub call_first : (m : Module) (o : Option Breach) → IsModule m → Apart (function_names m.functions) → None ≡ first (filter_map (misdeclared_of m.functions) m.symbols) → o ≡ first (filter_map (miscalled_in m (function_names m.functions)) m.functions) → o ≡ first (unknown_callees (tree_of m))
call_first m o is once none found = found ∙ sym (functions_first m once) ∙ ap (λ a. or_first a (first (in_functions (miscalls (tree_of m)) (tree_of m)))) none ∙ sym (whole m is once)
