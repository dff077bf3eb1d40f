-- Symbols that are defined or declared, and those that are only used.
use Rattle.std.proofs.Common.{◌≡◌, List, [], ◌∷◌, ◌++◌, map, Option, Some, refl, ap}
use Rattle.std.specs.List.{AllByRecursion, filter_map}
use Rattle.text_forms.proofs.Parts.{some_is}
use Rattle.ir_types.specs.declared.name.Name.{Name}
use Rattle.ir_types.specs.declared.module.Symbol.{Symbol}
use Rattle.ir_types.specs.declared.module.SymbolKind.{SymbolKind}
use Rattle.ir_types.specs.declared.module.SymbolKind.TheVariants as kinds
use Rattle.ir_types.specs.declared.memory_type.MemTy.{MemTy}
use Rattle.ir_types.specs.Tree.{SymbolTree}
use Rattle.ir_types.specs.Denotes.{IsBare}
use Rattle.ir_reader.specs.Trees.{symbol_over, missing_symbol}

pub all_there : {A B : Type 0} (f : A → Option B) (xs : List A) (ys : List B) → map f xs ≡ map Some ys → filter_map f xs ≡ ys
all_there f [] [] e = refl
all_there f [] (y ∷ ys) e = absurd cc
all_there f (x ∷ xs) [] e = absurd cc
all_there f (x ∷ xs) (y ∷ ys) e =
    let here : f x ≡ Some y = cc in
    let there : map f xs ≡ map Some ys = cc in
    rw here (ap (λ (l : List _). y ∷ l) (all_there f xs ys there))

pub none_said : (names : List Name) (types : List MemTy) (ns : List Name) → filter_map (symbol_over names types) (map missing_symbol ns) ≡ []
none_said names types [] = refl
none_said names types (n ∷ ns) = none_said names types ns

pub missing_named : (ns : List Name) → map (λ (s : Symbol). s.name) (map missing_symbol ns) ≡ ns
missing_named [] = refl
missing_named (n ∷ ns) = ap (λ (l : List Name). n ∷ l) (missing_named ns)

module _ (names : List Name) (types : List MemTy) where
  -- one that stands for something has its name
  its_name : (s : Symbol) (tree : SymbolTree) → symbol_over names types s ≡ Some tree → s.name ≡ tree.name
  its_name s tree e = by s.kind refl
    where
      by : (k : SymbolKind) → s.kind ≡ k → s.name ≡ tree.name
      by (kinds.Variable id writable) k = ap (λ (u : SymbolTree). u.name) (some_is _ tree (rw k at e))
      by (kinds.Function f) k = ap (λ (u : SymbolTree). u.name) (some_is _ tree (rw k at e))
      by kinds.Missing k = absurd (cc (rw k at e))

  pub same_named : (ss : List Symbol) (trees : List SymbolTree) → map (symbol_over names types) ss ≡ map Some trees → map (λ (s : Symbol). s.name) ss ≡ map (λ (s : SymbolTree). s.name) trees
  same_named [] [] e = refl
  same_named [] (t ∷ ts) e = absurd cc
  same_named (s ∷ ss) [] e = absurd cc
  same_named (s ∷ ss) (t ∷ ts) e =
      let here : symbol_over names types s ≡ Some t = cc in
      let there : map (symbol_over names types) ss ≡ map Some ts = cc in
      rw (its_name s t here) (ap (λ (l : List Name). t.name ∷ l) (same_named ss ts there))

  is_bare : (s : Symbol) (tree : SymbolTree) → symbol_over names types s ≡ Some tree → IsBare s
  is_bare s tree e = by s.kind refl
    where
      by : (k : SymbolKind) → s.kind ≡ k → IsBare s
      by (kinds.Variable id writable) k = rw k tt
      by (kinds.Function f) k = rw k tt
      by kinds.Missing k = absurd (cc (rw k at e))

  missing_bare : (ns : List Name) → AllByRecursion IsBare (map missing_symbol ns)
  missing_bare [] = tt
  missing_bare (n ∷ ns) = ((refl, refl), missing_bare ns)

  pub bare_behind : (ss : List Symbol) (trees : List SymbolTree) → map (symbol_over names types) ss ≡ map Some trees → (ns : List Name) → AllByRecursion IsBare (ss ++ map missing_symbol ns)
  bare_behind [] trees e ns = missing_bare ns
  bare_behind (s ∷ ss) [] e ns = absurd cc
  bare_behind (s ∷ ss) (t ∷ ts) e ns =
      let here : symbol_over names types s ≡ Some t = cc in
      let there : map (symbol_over names types) ss ≡ map Some ts = cc in
      (is_bare s t here, bare_behind ss ts there ns)
