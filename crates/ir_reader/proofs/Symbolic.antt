-- Symbols of functions, one after another, and their places.
use Rattle.std.proofs.Common.{◌≡◌, ℕ, suc, ◌+◌, List, [], ◌∷◌, ◌++◌, length, map, Option, Some, None, refl, sym, ap, ◌∙◌, append_assoc, arith}
use Rattle.std.specs.List.{filter_map, cons_option, range_with_len}
use Rattle.text_forms.proofs.Parts.{some_is}
use Rattle.ir_types.specs.declared.name.Name.{Name}
use Rattle.ir_types.specs.declared.module.Symbol.{Symbol}
use Rattle.ir_types.specs.declared.module.SymbolKind.{SymbolKind}
use Rattle.ir_types.specs.declared.module.SymbolKind.TheVariants as kinds
use Rattle.ir_types.specs.declared.memory_type.MemTy.{MemTy}
use Rattle.ir_types.specs.Tree.{FunctionTree, SymbolTree}
use Rattle.ir_types.specs.Collected.{symbol_of_function}
use Rattle.ir_types.specs.Denotes.{function_place}
use Rattle.ir_reader_items.specs.declared.part.Variable.{Variable}
use Rattle.ir_reader.specs.Trees.{symbol_over, variable_symbol, function_named, function_symbol, function_symbols, missing_symbol}

symbols_push : (i : ℕ) (names : List Name) (n : Name) → function_symbols i (names ++ n ∷ []) ≡ function_symbols i names ++ function_symbol (i + length names) n ∷ []
symbols_push i [] n = let e : i ≡ i + 0 = omega arith in ap (λ (k : ℕ). function_symbol k n ∷ []) e
symbols_push i (m ∷ names) n =
    let e : i + 1 + length names ≡ i + suc (length names) = omega arith in
    ap (λ (l : List Symbol). function_symbol i m ∷ l) (symbols_push (i + 1) names n ∙ ap (λ (k : ℕ). function_symbols (i + 1) names ++ function_symbol k n ∷ []) e)

-- one more function's symbol stands behind those before
pub function_more : (old before : List Symbol) (names : List Name) (n : Name) (place : ℕ) → before ≡ old ++ function_symbols 0 names → place ≡ length names → before ++ function_symbol place n ∷ [] ≡ old ++ function_symbols 0 (names ++ n ∷ [])
function_more old before names n place h e =
    let z : place ≡ 0 + length names = omega (arith, e) in
    let first = function_symbols 0 names in
    ap (λ (l : List Symbol). l ++ function_symbol place n ∷ []) h
    ∙ append_assoc old first (function_symbol place n ∷ [])
    ∙ ap (λ (k : ℕ). old ++ (first ++ function_symbol k n ∷ [])) z
    ∙ ap (λ (l : List Symbol). old ++ l) (sym (symbols_push 0 names n))

-- those of functions are those of their names
pub symbols_named : (fs : List FunctionTree) → map symbol_of_function fs ≡ map function_named (map (λ (f : FunctionTree). f.name) fs)
symbols_named [] = refl
symbols_named (f ∷ fs) = ap (λ (l : List SymbolTree). function_named f.name ∷ l) (symbols_named fs)

-- they stand for functions, over all names and types
pub functions_stand : (ns : List Name) (ts : List MemTy) (i : ℕ) (names : List Name) → map (symbol_over ns ts) (function_symbols i names) ≡ map Some (map function_named names)
functions_stand ns ts i [] = refl
functions_stand ns ts i (n ∷ names) = ap (λ (l : List (Option SymbolTree)). Some (function_named n) ∷ l) (functions_stand ns ts (i + 1) names)

-- ---- places

-- one function stands behind another
pub function_places : (i : ℕ) (names : List Name) → filter_map function_place (function_symbols i names) ≡ range_with_len i (length names)
function_places i [] = refl
function_places i (n ∷ names) = ap (λ (l : List ℕ). i ∷ l) (function_places (i + 1) names)

-- a variable's symbol stands for none
no_place : (ns : List Name) (ts : List MemTy) (s : Symbol) (v : Variable) → symbol_over ns ts s ≡ Some (variable_symbol v) → function_place s ≡ None
no_place ns ts s v e = by s.kind refl
  where
    by : (k : SymbolKind) → s.kind ≡ k → function_place s ≡ None
    by (kinds.Variable id writable) k = rw k refl
    by (kinds.Function f) k = absurd (cc (ap (λ (t : SymbolTree). t.kind) (some_is _ (variable_symbol v) (rw k at e))))
    by kinds.Missing k = rw k refl

pub no_places : (ns : List Name) (ts : List MemTy) (ss : List Symbol) (vs : List Variable) → map (symbol_over ns ts) ss ≡ map (λ (v : Variable). Some (variable_symbol v)) vs → filter_map function_place ss ≡ []
no_places ns ts [] vs e = refl
no_places ns ts (s ∷ ss) [] e = absurd cc
no_places ns ts (s ∷ ss) (v ∷ vs) e =
    let here : symbol_over ns ts s ≡ Some (variable_symbol v) = cc in
    let there : map (symbol_over ns ts) ss ≡ map (λ (v : Variable). Some (variable_symbol v)) vs = cc in
    ap (λ (o : Option ℕ). cons_option o (filter_map function_place ss)) (no_place ns ts s v here) ∙ no_places ns ts ss vs there

-- nor does that of a name that is only used
pub missing_places : (names : List Name) → filter_map function_place (map missing_symbol names) ≡ []
missing_places [] = refl
missing_places (n ∷ names) = missing_places names
