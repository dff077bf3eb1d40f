-- The place of a function's symbol is that of the function of its name.
use Rattle.std.proofs.Common.{◌≡◌, ◌+◌, ℕ, List, [], ◌∷◌, ◌++◌, length, map, Option, Some, None, refl, sym, ap, append_assoc, ◌∙◌}
use Rattle.std.specs.Prelude.{slice_get}
use Rattle.std.specs.Option.{option_map}
use Rattle.std.specs.List.{AllByRecursion, filter_map, cons_option, range_with_len}
use Rattle.std.proofs.lemmas.List.{length-append}
use Rattle.ir_types.specs.declared.name.Name.{Name}
use Rattle.ir_types.specs.declared.module.Function.{Function}
use Rattle.ir_types.specs.declared.module.Symbol.{Symbol}
use Rattle.ir_types.specs.declared.module.SymbolKind.{SymbolKind}
use Rattle.ir_types.specs.declared.module.SymbolKind.TheVariants as symbols
use Rattle.ir_types.specs.declared.module.Module.{Module}
use Rattle.ir_types.specs.Denotes.{Tables, function_in, tables_of, symbol_in, tree_of, function_place}
use Rattle.ir_types.specs.Collected.{as_variable, as_function, symbol_of, symbol_of_function}
use Rattle.ir_types.specs.Tree.{FunctionTree, SymbolTree, VariableTree, variable, function, ModuleTree}
use Rattle.ir_shape.specs.Modules.{IsModule}
use Rattle.ir_shape.proofs.Sure.{IsThere}

-- ---- names of functions

-- a function's symbol's name
abbrev function_name : Symbol → Option Name
function_name s = option_map (λ (i : ℕ). s.name) (function_place s)

-- the same of a tree's
abbrev function_named : SymbolTree → Option Name
function_named s = elim s.kind [ variable nodes writable ↦ None | function ↦ Some s.name ]

abbrev names : List Function → List Name
names fs = map (λ (f : Function). f.name) fs

abbrev tree_names : List FunctionTree → List Name
tree_names fs = map (λ (f : FunctionTree). f.name) fs

one_named : (m : Module) (s : Symbol) (k : SymbolKind) (more : List SymbolTree) → filter_map function_named (cons_option (symbol_in m (record s { kind = k })) more) ≡ cons_option (function_name (record s { kind = k })) (filter_map function_named more)
one_named m s (symbols.Variable id writable) more = refl
one_named m s (symbols.Function id) more = refl
one_named m s symbols.Missing more = refl

all_named : (m : Module) (ss : List Symbol) → filter_map function_named (filter_map (symbol_in m) ss) ≡ filter_map function_name ss
all_named m [] = refl
all_named m (s ∷ ss) = one_named m s s.kind (filter_map (symbol_in m) ss) ∙ ap (cons_option (function_name s)) (all_named m ss)

functions_named : (fs : List FunctionTree) → filter_map function_named (map symbol_of_function fs) ≡ tree_names fs
functions_named [] = refl
functions_named (f ∷ fs) = ap (λ ns. f.name ∷ ns) (functions_named fs)

behind_variables : (vs : List VariableTree) (fs : List FunctionTree) → filter_map function_named (map symbol_of vs ++ map symbol_of_function fs) ≡ tree_names fs
behind_variables [] fs = functions_named fs
behind_variables (v ∷ vs) fs = behind_variables vs fs

names_in : (t : Tables) (fs : List Function) → tree_names (map (function_in t) fs) ≡ names fs
names_in t [] = refl
names_in t (f ∷ fs) = ap (λ ns. f.name ∷ ns) (names_in t fs)

-- of the symbols in a module those of functions have the names of its functions
names_of : (m : Module) → IsModule m → filter_map function_name m.symbols ≡ names m.functions
names_of m is =
    let h = is.shape in
    let tree = tree_of m in
    sym (all_named m m.symbols)
    ∙ ap (λ (t : ModuleTree). filter_map function_named t.symbols) (sym h.says)
    ∙ behind_variables (filter_map as_variable h.items) (filter_map as_function h.items)
    ∙ ap (λ (t : ModuleTree). tree_names t.functions) h.says
    ∙ names_in (tables_of m) m.functions

-- ---- places

got_behind : {A : Type 0} (xs : List A) (x : A) (ys : List A) → slice_get (xs ++ x ∷ ys) (length xs) ≡ Some x
got_behind [] x ys = refl
got_behind (y ∷ xs) x ys = got_behind xs x ys

-- the function at a place has the name
abbrev pub IsNamedAt : List Function → Name → ℕ → Type 0
IsNamedAt fs n i = option_map (λ (f : Function). f.name) (slice_get fs i) ≡ Some n

-- a symbol that stands for a function has the name of that
abbrev pub IsNamedRightly : List Function → Symbol → Type 0
IsNamedRightly fs s = IsThere (IsNamedAt fs s.name) (function_place s)

module _ (fs : List Function) where
  -- what is known of symbols behind which no others stand, of some functions behind others
  abbrev Counted : List Symbol → Type 0
  Counted ss = (before left : List Function) → before ++ left ≡ fs → filter_map function_place ss ≡ range_with_len (length before) (length left) → filter_map function_name ss ≡ names left → AllByRecursion (IsNamedRightly fs) ss

  next_counted : (ss : List Symbol) → Counted ss → (n : Name) (o : Option ℕ) (before left : List Function) → before ++ left ≡ fs → cons_option o (filter_map function_place ss) ≡ range_with_len (length before) (length left) → cons_option (option_map (λ (i : ℕ). n) o) (filter_map function_name ss) ≡ names left → IsThere (IsNamedAt fs n) o × AllByRecursion (IsNamedRightly fs) ss
  next_counted ss so n None before left joined places called = (tt, so before left joined places called)
  next_counted ss so n (Some i) before [] joined places called = absurd cc
  next_counted ss so n (Some i) before (f ∷ left) joined places called =
      let here : i ≡ length before = cc in
      let name : f.name ≡ n = cc in
      let rest : filter_map function_place ss ≡ range_with_len (length before + 1) (length left) = cc in
      let others : filter_map function_name ss ≡ names left = cc in
      let got : slice_get fs i ≡ Some f = ap (λ xs. slice_get xs i) (sym joined) ∙ ap (slice_get (before ++ f ∷ left)) here ∙ got_behind before f left in (
        ap (option_map (λ (g : Function). g.name)) got ∙ ap Some name,
        so (before ++ f ∷ []) left (append_assoc before (f ∷ []) left ∙ joined) (rest ∙ ap (λ k. range_with_len k (length left)) (sym (length-append before (f ∷ [])))) others,
      )

  counted : (ss : List Symbol) → Counted ss
  counted [] before left joined places called = tt
  counted (s ∷ ss) before left joined places called = next_counted ss (counted ss) s.name (function_place s) before left joined places called

-- In a module the function at the place of a function's symbol is there, and has the symbol's name.
pub functions_at : (m : Module) → IsModule m → AllByRecursion (IsNamedRightly m.functions) m.symbols
functions_at m is = counted m.functions m.symbols [] m.functions refl is.denotes.functions (names_of m is)
