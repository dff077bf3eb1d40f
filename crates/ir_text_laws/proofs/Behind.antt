-- In a module's lists names that are only used stand behind those that are defined or declared.
use Rattle.std.proofs.Common.{◌≡◌, ◌≢◌, ℕ, zero, suc, ◌<◌, ◌≤◌, Bool, true, false, cond, ◌||◌, List, [], ◌∷◌, ◌++◌, map, length, Option, Some, None, refl, sym, ap, ◌∙◌, subst, arith, append_assoc}
use Rattle.std.specs.Prelude.{slice_get}
use Rattle.std.specs.List.{filter_map, cons_option, list_any, AllByRecursion}
use Rattle.std.proofs.lemmas.List.{length-map}
use Rattle.std.proofs.lemmas.Bool.Decides.{Decides-eqb}
use Rattle.std.proofs.lemmas.Slice.Eq.{bytes_eq-Decides}
use Rattle.text_forms.proofs.Begins.{or_right}
use Rattle.lists.specs.declared.texts.Texts.{Texts}
use Rattle.ir_types.specs.declared.name.Name.{Name}
use Rattle.ir_types.specs.Names.{same_name, has_name, unknown}
use Rattle.ir_types.specs.declared.name.Name.TheVariants.{Text, Number}
use Rattle.ir_types.specs.declared.memory_type.TypeName.{TypeName}
use Rattle.ir_types.specs.declared.memory_type.NamedType.{NamedType}
use Rattle.ir_types.specs.declared.memory_type.NamedType.TheVariants.{Defined, Opaque, Missing}
use Rattle.ir_types.specs.declared.module.Symbol.{Symbol}
use Rattle.ir_types.specs.declared.module.SymbolKind.{SymbolKind}
use Rattle.ir_types.specs.declared.module.SymbolKind.TheVariants as symbols
use Rattle.ir_types.specs.declared.module.Module.{Module}
use Rattle.ir_types.specs.Tree.{TypeNameTree, SymbolTree, ModuleTree}
use Rattle.ir_types.specs.Used.{with_unknown, types_used, symbols_used}
use Rattle.ir_types.specs.Denotes.{type_names_of, type_name_in, symbol_in, Denotes}

-- how many of some names are known
abbrev known_among : List Name → List Name → ℕ
known_among known [] = 0
known_among known (n ∷ ns) = cond (has_name n known) (suc (known_among known ns)) (known_among known ns)

-- a name that isn't known
abbrev IsNew : List Name → Name → Type 0
IsNew known n = has_name n known ≡ false

-- ---- what is unknown is new

any_front : (p : Name → Bool) (xs ys : List Name) → list_any p (xs ++ ys) ≡ false → list_any p xs ≡ false
any_front p [] ys e = refl
any_front p (x ∷ xs) ys e = by (p x) (any_front p xs ys) e
  where
    by : (b : Bool) → (list_any p (xs ++ ys) ≡ false → list_any p xs ≡ false) → (b || list_any p (xs ++ ys)) ≡ false → (b || list_any p xs) ≡ false
    by true h e = e
    by false h e = h e

still_new : (known more names : List Name) → AllByRecursion (IsNew (known ++ more)) names → AllByRecursion (IsNew known) names
still_new known more [] h = tt
still_new known more (n ∷ ns) h = (any_front (same_name n) known more h.0, still_new known more ns h.1)

unknown_new : (known names : List Name) → AllByRecursion (IsNew known) (unknown known names)
unknown_new known [] = tt
unknown_new known (n ∷ ns) = by (has_name n known) refl (unknown_new known ns) (still_new known (n ∷ []) (unknown (known ++ n ∷ []) ns) (unknown_new (known ++ n ∷ []) ns))
  where
    by : (b : Bool) → has_name n known ≡ b → AllByRecursion (IsNew known) (unknown known ns) → AllByRecursion (IsNew known) (unknown (known ++ n ∷ []) ns) → AllByRecursion (IsNew known) (cond b (unknown known ns) (n ∷ unknown (known ++ n ∷ []) ns))
    by true e there new = there
    by false e there new = (e, new)

-- ---- counting

count_new : (known names : List Name) → AllByRecursion (IsNew known) names → known_among known names ≡ 0
count_new known [] h = refl
count_new known (n ∷ ns) h = rw h.0 (count_new known ns h.1)

count_front : (known xs ys : List Name) → AllByRecursion (IsNew known) ys → known_among known (xs ++ ys) ≤ length xs
count_front known [] ys h = omega (arith, count_new known ys h)
count_front known (x ∷ xs) ys h = by (has_name x known) (count_front known xs ys h)
  where
    by : (b : Bool) → known_among known (xs ++ ys) ≤ length xs → cond b (suc (known_among known (xs ++ ys))) (known_among known (xs ++ ys)) ≤ suc (length xs)
    by true h = omega arith
    by false h = omega arith

module _ {A B : Type 0} (name : A → Name) (tree : A → Option B) (named : B → Name) (same : (x : A) (y : B) → tree x ≡ Some y → named y ≡ name x) (known : List Name) where
  abbrev IsKnown : B → Type 0
  IsKnown y = has_name (named y) known ≡ true

  -- what has a tree has a known name
  count_trees : (xs : List A) → AllByRecursion IsKnown (filter_map tree xs) → length (filter_map tree xs) ≤ known_among known (map name xs)
  count_trees [] h = omega arith
  count_trees (x ∷ xs) h = by (tree x) refl h (λ k. count_trees xs k)
    where
      least : (b : Bool) (n : ℕ) → n ≤ cond b (suc n) n
      least true n = omega arith
      least false n = omega arith

      by : (o : Option B) → tree x ≡ o → AllByRecursion IsKnown (cons_option o (filter_map tree xs)) → (AllByRecursion IsKnown (filter_map tree xs) → length (filter_map tree xs) ≤ known_among known (map name xs))
          → length (cons_option o (filter_map tree xs)) ≤ known_among known (map name (x ∷ xs))
      by None e h rest = omega (arith, rest h, least (has_name (name x) known) (known_among known (map name xs)))
      by (Some y) e h rest = rw (ap (λ (n : Name). has_name n known) (sym (same x y e)) ∙ h.0) (omega (arith, rest h.1))

  -- the first so many have a tree, and those behind them none
  abbrev StandsAt : List A → ℕ → Type 0
  StandsAt xs n = (i : ℕ) (x : A) → slice_get xs i ≡ Some x → (i < n → tree x ≢ None) × (n ≤ i → tree x ≡ None)

  none_first : (x : A) (xs : List A) → tree x ≡ None → StandsAt xs 0 → StandsAt (x ∷ xs) 0
  none_first x xs t h zero z at = let s : x ≡ z = cc in (λ lt. absurd (omega arith), λ le. ap tree (sym s) ∙ t)
  none_first x xs t h (suc i) z at = (λ lt. absurd (omega arith), λ le. (h i z at).1 (omega arith))

  one_first : (x : A) (y : B) (xs : List A) (n : ℕ) → tree x ≡ Some y → StandsAt xs n → StandsAt (x ∷ xs) (suc n)
  one_first x y xs n t h zero z at = let s : x ≡ z = cc in (λ lt none. absurd cc, λ le. absurd (omega arith))
  one_first x y xs n t h (suc i) z at = (λ lt. (h i z at).0 (omega arith), λ le. (h i z at).1 (omega arith))

  none_have : (xs : List A) → filter_map tree xs ≡ [] → StandsAt xs 0
  none_have [] e = λ i x at. absurd cc
  none_have (x ∷ xs) e = by (tree x) refl e (λ k. none_have xs k)
    where
      by : (o : Option B) → tree x ≡ o → cons_option o (filter_map tree xs) ≡ [] → (filter_map tree xs ≡ [] → StandsAt xs 0) → StandsAt (x ∷ xs) 0
      by None t e h = none_first x xs t (h e)
      by (Some y) t e h = absurd cc

  first_have : (xs : List A) (ys : List B) (us : List Name) → filter_map tree xs ≡ ys → map name xs ≡ map named ys ++ us → AllByRecursion IsKnown ys → AllByRecursion (IsNew known) us → StandsAt xs (length ys)
  first_have [] ys us e n k u = λ i x at. absurd cc
  first_have (x ∷ xs) [] us e n k u = none_have (x ∷ xs) e
  first_have (x ∷ xs) (y ∷ ys) us e n k u = by (tree x) refl e (λ trees. first_have xs ys us trees rest k.1 u)
    where
      rest : map name xs ≡ map named ys ++ us
      rest = cc

      by : (o : Option B) → tree x ≡ o → cons_option o (filter_map tree xs) ≡ y ∷ ys → (filter_map tree xs ≡ ys → StandsAt xs (length ys)) → StandsAt (x ∷ xs) (suc (length ys))
      by None t e h =
          let enough = count_trees xs (subst (AllByRecursion IsKnown) (sym e) k) in
          absurd (omega (arith, enough, ap length e, ap (known_among known) rest, count_front known (map named ys) us u, length-map ys named))
      by (Some z) t e h = one_first x z xs (length ys) t (h cc)

-- all names of a list are among it
same_itself : (n : Name) → same_name n n ≡ true
same_itself (Text s) = (bytes_eq-Decides s s).1 refl
same_itself (Number n) = (Decides-eqb n n).1 refl

among_all : {B : Type 0} (named : B → Name) (known : List Name) (ys : List B) → AllByRecursion (λ y. has_name (named y) (known ++ map named ys) ≡ true) ys
among_all named known [] = tt
among_all named known (y ∷ ys) = (here known, subst (λ (l : List Name). AllByRecursion (λ z. has_name (named z) l ≡ true) ys) (append_assoc known (named y ∷ []) (map named ys)) (among_all named (known ++ named y ∷ []) ys))
  where
    here : (known : List Name) → has_name (named y) (known ++ (named y ∷ map named ys)) ≡ true
    here [] = rw (same_itself (named y)) refl
    here (n ∷ ns) = or_right (same_name (named y) n) (has_name (named y) (ns ++ (named y ∷ map named ys))) (here ns)

lists_stand : {A B : Type 0} (name : A → Name) (tree : A → Option B) (named : B → Name) (same : (x : A) (y : B) → tree x ≡ Some y → named y ≡ name x) (xs : List A) (ys : List B) (used : List Name) → filter_map tree xs ≡ ys → map name xs ≡ with_unknown (map named ys) used
    → StandsAt name tree named same (map named ys) xs (length ys)
lists_stand name tree named same xs ys used e n = first_have name tree named same (map named ys) xs ys (unknown (map named ys) used) e n (among_all named [] ys) (unknown_new (map named ys) used)

-- ---- symbols

symbol_named : (m : Module) (name : Name) (kind : SymbolKind) (before after : Texts) (y : SymbolTree) → symbol_in m (record { name = name; kind = kind; before = before; after = after }) ≡ Some y → y.name ≡ name
symbol_named m name (symbols.Variable id writable) before after y e = cc
symbol_named m name (symbols.Function f) before after y e = cc
symbol_named m name symbols.Missing before after y e = absurd cc

is_missing_symbol : (m : Module) (name : Name) (kind : SymbolKind) (before after : Texts) → symbol_in m (record { name = name; kind = kind; before = before; after = after }) ≡ None → kind ≡ symbols.Missing
is_missing_symbol m name (symbols.Variable id writable) before after e = absurd cc
is_missing_symbol m name (symbols.Function f) before after e = absurd cc
is_missing_symbol m name symbols.Missing before after e = refl

-- of a module's symbols, those behind the tree's are only used, and no others
pub missing_symbols : (m : Module) (tree : ModuleTree) → Denotes m tree → (i : ℕ) (s : Symbol) → slice_get m.symbols i ≡ Some s → (i < length tree.symbols → s.kind ≢ symbols.Missing) × (length tree.symbols ≤ i → s.kind ≡ symbols.Missing)
missing_symbols m tree d i s at =
    let h = lists_stand (λ (s : Symbol). s.name) (symbol_in m) (λ (t : SymbolTree). t.name) (λ x y e. symbol_named m x.name x.kind x.before x.after y e) m.symbols tree.symbols (symbols_used tree) (ap (λ (t : ModuleTree). t.symbols) d.says) d.symbols i s at in
    (λ lt e. h.0 lt (ap (λ (k : SymbolKind). symbol_in m (record s { kind = k })) e), λ le. is_missing_symbol m s.name s.kind s.before s.after (h.1 le))

-- ---- names of types

type_named : (m : Module) (name : Name) (ty : NamedType) (y : TypeNameTree) → type_name_in m (record { name = name; ty = ty }) ≡ Some y → y.name ≡ name
type_named m name (Defined id) y e = cc
type_named m name Opaque y e = cc
type_named m name Missing y e = absurd cc

is_missing_type : (m : Module) (name : Name) (ty : NamedType) → type_name_in m (record { name = name; ty = ty }) ≡ None → ty ≡ Missing
is_missing_type m name (Defined id) e = absurd cc
is_missing_type m name Opaque e = absurd cc
is_missing_type m name Missing e = refl

-- and so of its names of types
pub missing_types : (m : Module) (tree : ModuleTree) → Denotes m tree → (i : ℕ) (n : TypeName) → slice_get m.type_names i ≡ Some n → (i < length tree.type_names → n.ty ≢ Missing) × (length tree.type_names ≤ i → n.ty ≡ Missing)
missing_types m tree d i n at =
    let h = lists_stand (λ (n : TypeName). n.name) (type_name_in m) (λ (t : TypeNameTree). t.name) (λ x y e. type_named m x.name x.ty y e) m.type_names tree.type_names (types_used tree) (ap (λ (t : ModuleTree). t.type_names) d.says) d.type_names i n at in
    (λ lt e. h.0 lt (ap (λ (t : NamedType). type_name_in m (record n { ty = t })) e), λ le. is_missing_type m n.name n.ty (h.1 le))

-- ---- modules that denote one tree have the same names

-- modules that denote one tree have the same names of types, in the same order
pub one_list_of_types : (m n : Module) (tree : ModuleTree) → Denotes m tree → Denotes n tree → type_names_of m ≡ type_names_of n
one_list_of_types m n tree d e = d.type_names ∙ sym e.type_names

-- and the same names of symbols
pub one_list_of_symbols : (m n : Module) (tree : ModuleTree) → Denotes m tree → Denotes n tree → map (λ (s : Symbol). s.name) m.symbols ≡ map (λ (s : Symbol). s.name) n.symbols
one_list_of_symbols m n tree d e = d.symbols ∙ sym e.symbols
