-- The items of a module in the order in which they are printed: they are items of it, and are collected to it.
use Rattle.std.proofs.Common.{◌≡◌, ℕ, true, false, cond, eqb, List, [], ◌∷◌, ◌++◌, Option, Some, None, refl, sym, ap, ◌∙◌, subst, ◌⊎◌, inl, inr}
use Rattle.std.specs.Prelude.{map, filter, flat_map, filter_map}
use Rattle.std.specs.List.{AllByRecursion, cons_option}
use Rattle.std.proofs.lemmas.Bool.{eqb-true, eq-eqb}
use Rattle.std.proofs.lemmas.Grind.{flat_map-append}
use Rattle.std.proofs.lemmas.List.{append-nil}
use Rattle.std.proofs.lemmas.List.Elements.{filter_map-append}
use Rattle.std.proofs.lemmas.List.Folds.{flat_map-map}
use Rattle.text_forms.proofs.Begins.{test}
use Rattle.text_lex.proofs.Lexed.{each_split, each_append}
use Rattle.ir_types.specs.declared.name.Name.{Name}
use Rattle.ir_types.specs.Collected.{as_head, as_comdat, as_type, as_variable, as_function, as_attributes, as_metadata, symbol_of, symbol_of_function, collected}
use Rattle.ir_types.specs.Tree.{KeptTexts, FunctionTree, NamedTree, defined, opaque, TypeNameTree, SymbolKindTree, variable, function, SymbolTree, ModuleTree, Item, head_line, comdat_line, type_item, variable_item, function_item, attribute_line, metadata_line}
use Rattle.ir_shape.specs.Shape.{IsFunction, IsItem, IsPrintable}
use Rattle.ir_printer.specs.Print.{for_one, is_comdat}
use Rattle.ir_printer.proofs.Appended.{for_cons}
use Rattle.ir_printer.proofs.Lines.{head_no_comdat, comdat_is, begins_group, group_is, metadata_is}

-- ---- the items that are printed for a part of a module

abbrev pub head_items : KeptTexts → List (Item FunctionTree)
head_items xs = cond (is_comdat xs) [] (head_line xs ∷ [])

abbrev pub comdat_items : KeptTexts → List (Item FunctionTree)
comdat_items xs = cond (is_comdat xs) (comdat_line xs ∷ []) []

abbrev pub named_items : Name → NamedTree → List (Item FunctionTree)
named_items n (defined nodes) = type_item n (Some nodes) ∷ []
named_items n opaque = type_item n None ∷ []

abbrev pub type_items : TypeNameTree → List (Item FunctionTree)
type_items t = named_items t.name t.ty

abbrev pub kind_items : SymbolTree → SymbolKindTree → List (Item FunctionTree)
kind_items s (variable nodes writable) = variable_item (record { name = s.name; before = s.before; writable = writable; ty = nodes; after = s.after }) ∷ []
kind_items s function = []

abbrev pub symbol_items : SymbolTree → List (Item FunctionTree)
symbol_items s = kind_items s s.kind

abbrev pub function_items : FunctionTree → List (Item FunctionTree)
function_items f = function_item f ∷ []

abbrev pub tail_items : KeptTexts → List (Item FunctionTree)
tail_items xs = cond (begins_group xs) (attribute_line xs) (metadata_line xs) ∷ []

-- all, in the printed order
unfoldable pub printed_items : ModuleTree → List (Item FunctionTree)
printed_items tree =
    flat_map head_items tree.head ++ (flat_map type_items tree.type_names ++ (flat_map comdat_items tree.head ++ (flat_map symbol_items tree.symbols ++ (flat_map function_items tree.functions ++ flat_map tail_items tree.tail))))

-- ---- groups of items

-- the number of an item's group in that order
abbrev group : Item FunctionTree → ℕ
group (head_line xs) = 0
group (type_item n t) = 1
group (comdat_line xs) = 2
group (variable_item v) = 3
group (function_item f) = 4
group (attribute_line xs) = 5
group (metadata_line xs) = 6

-- those of a group
of_group : ℕ → List (Item FunctionTree) → List (Item FunctionTree)
of_group k items = filter (λ i. eqb (group i) k) items

-- those of some groups
grouped : List ℕ → List (Item FunctionTree) → List (Item FunctionTree)
grouped ks items = flat_map (λ k. of_group k items) ks

abbrev all_groups : List ℕ
all_groups = 0 ∷ 1 ∷ 2 ∷ 3 ∷ 4 ∷ 5 ∷ 6 ∷ []

group_known : (P : Item FunctionTree → Type 0) (k : ℕ) (items : List (Item FunctionTree)) → AllByRecursion P items → AllByRecursion P (of_group k items)
unfolding of_group
group_known P k [] h = tt
group_known P k (i ∷ items) h = elim (test (eqb (group i) k)) [
  | inl y ↦ rw y (h.0, group_known P k items h.1)
  | inr n ↦ rw n (group_known P k items h.1)
]

grouped_known : (P : Item FunctionTree → Type 0) (ks : List ℕ) (items : List (Item FunctionTree)) → AllByRecursion P items → AllByRecursion P (grouped ks items)
unfolding grouped
grouped_known P [] items h = tt
grouped_known P (k ∷ ks) items h = each_append P (of_group k items) (grouped ks items) (group_known P k items h) (grouped_known P ks items h)

-- ---- what is collected from groups

-- what gives something of one group alone
abbrev OfGroup : {A : Type 0} → (Item FunctionTree → Option A) → ℕ → Type 0
OfGroup f k = (i : Item FunctionTree) → (group i ≡ k) ⊎ (f i ≡ None)

not_same : (a b k : ℕ) → eqb a b ≡ false → a ≡ k → eqb b k ≡ false
not_same a b k n e = elim (test (eqb b k)) [
  | inr d ↦ d
  | inl y ↦ absurd (let s = eq-eqb a b (e ∙ sym (eqb-true b k y)) in cc)
]

picked : {A : Type 0} (f : Item FunctionTree → Option A) (k : ℕ) → OfGroup f k → (j : ℕ) (items : List (Item FunctionTree)) → filter_map f (of_group j items) ≡ cond (eqb j k) (filter_map f items) []
unfolding of_group
picked f k own j [] = elim (test (eqb j k)) [ inl y ↦ rw y refl | inr n ↦ rw n refl ]
picked f k own j (i ∷ items) =
    let rest = picked f k own j items in
    elim (test (eqb (group i) j)) [
      | inl y ↦ elim (own i) [
        | inl e ↦
            let same : eqb j k ≡ true = eq-eqb j k (sym (eqb-true (group i) j y) ∙ e) in
            rw (y, same) (ap (λ (xs : List _). cons_option (f i) xs) (rw same at rest))
        | inr e ↦ rw (y, e) rest
      ]
      | inr n ↦ elim (own i) [
        | inl e ↦
            let other : eqb j k ≡ false = not_same (group i) j k n e in
            rw (n, other) (rw other at rest)
        | inr e ↦ rw (n, e) rest
      ]
    ]

picked_all : {A : Type 0} (f : Item FunctionTree → Option A) (k : ℕ) → OfGroup f k → (ks : List ℕ) (items : List (Item FunctionTree)) → filter_map f (grouped ks items) ≡ flat_map (λ j. cond (eqb j k) (filter_map f items) []) ks
unfolding grouped
picked_all f k own [] items = refl
picked_all f k own (j ∷ ks) items =
    filter_map-append f (of_group j items) (grouped ks items) ∙ rw (picked f k own j items, picked_all f k own ks items) refl

own_head : OfGroup as_head 0
own_head (head_line xs) = inl refl
own_head i = inr refl

own_type : OfGroup as_type 1
own_type (type_item n t) = inl refl
own_type i = inr refl

own_comdat : OfGroup as_comdat 2
own_comdat (comdat_line xs) = inl refl
own_comdat i = inr refl

own_variable : OfGroup as_variable 3
own_variable (variable_item v) = inl refl
own_variable i = inr refl

own_function : OfGroup as_function 4
own_function (function_item f) = inl refl
own_function i = inr refl

own_attributes : OfGroup as_attributes 5
own_attributes (attribute_line xs) = inl refl
own_attributes i = inr refl

own_metadata : OfGroup as_metadata 6
own_metadata (metadata_line xs) = inl refl
own_metadata i = inr refl

-- the groups are collected to what the items are collected to
collected_grouped : (items : List (Item FunctionTree)) → collected (grouped all_groups items) ≡ collected items
collected_grouped items = rw (
  picked_all as_head 0 own_head all_groups items ∙ append-nil _,
  picked_all as_type 1 own_type all_groups items ∙ append-nil _,
  picked_all as_comdat 2 own_comdat all_groups items ∙ append-nil _,
  picked_all as_variable 3 own_variable all_groups items ∙ append-nil _,
  picked_all as_function 4 own_function all_groups items ∙ append-nil _,
  picked_all as_attributes 5 own_attributes all_groups items ∙ append-nil _,
  picked_all as_metadata 6 own_metadata all_groups items ∙ append-nil _,
) refl

-- ---- the printed items are these groups

-- of each item of the group it is that item
group_is_printed : {A : Type 0} (f : Item FunctionTree → Option A) (r : A → List (Item FunctionTree)) (k : ℕ) → ((i : Item FunctionTree) → IsItem i → for_one r (f i) ≡ cond (eqb (group i) k) (i ∷ []) []) → (items : List (Item FunctionTree)) → AllByRecursion IsItem items → flat_map r (filter_map f items) ≡ of_group k items
unfolding of_group
group_is_printed f r k fits [] h = refl
group_is_printed f r k fits (i ∷ items) h =
    let rest = group_is_printed f r k fits items h.1 in
    for_cons r (f i) (filter_map f items) ∙ rw (fits i h.0, rest) (elim (test (eqb (group i) k)) [ inl y ↦ rw y refl | inr n ↦ rw n refl ])

none_printed : {A : Type 0} (f : Item FunctionTree → Option A) (r : A → List (Item FunctionTree)) → ((i : Item FunctionTree) → IsItem i → for_one r (f i) ≡ []) → (items : List (Item FunctionTree)) → AllByRecursion IsItem items → flat_map r (filter_map f items) ≡ []
none_printed f r fits [] h = refl
none_printed f r fits (i ∷ items) h = for_cons r (f i) (filter_map f items) ∙ rw (fits i h.0) (none_printed f r fits items h.1)

heads_fit : (i : Item FunctionTree) → IsItem i → for_one head_items (as_head i) ≡ cond (eqb (group i) 0) (i ∷ []) []
heads_fit (head_line xs) h = rw (head_no_comdat xs h) refl
heads_fit i h = refl

heads_of_comdats : (i : Item FunctionTree) → IsItem i → for_one head_items (as_comdat i) ≡ []
heads_of_comdats (comdat_line xs) h = rw (comdat_is xs h) refl
heads_of_comdats i h = refl

types_fit : (i : Item FunctionTree) → IsItem i → for_one type_items (as_type i) ≡ cond (eqb (group i) 1) (i ∷ []) []
types_fit (type_item n None) h = refl
types_fit (type_item n (Some nodes)) h = refl
types_fit i h = refl

comdats_fit : (i : Item FunctionTree) → IsItem i → for_one comdat_items (as_comdat i) ≡ cond (eqb (group i) 2) (i ∷ []) []
comdats_fit (comdat_line xs) h = rw (comdat_is xs h) refl
comdats_fit i h = refl

comdats_of_heads : (i : Item FunctionTree) → IsItem i → for_one comdat_items (as_head i) ≡ []
comdats_of_heads (head_line xs) h = rw (head_no_comdat xs h) refl
comdats_of_heads i h = refl

variables_fit : (i : Item FunctionTree) → IsItem i → for_one (λ v. symbol_items (symbol_of v)) (as_variable i) ≡ cond (eqb (group i) 3) (i ∷ []) []
variables_fit (variable_item v) h = refl
variables_fit i h = refl

functions_fit : (i : Item FunctionTree) → IsItem i → for_one function_items (as_function i) ≡ cond (eqb (group i) 4) (i ∷ []) []
functions_fit (function_item f) h = refl
functions_fit i h = refl

attributes_fit : (i : Item FunctionTree) → IsItem i → for_one tail_items (as_attributes i) ≡ cond (eqb (group i) 5) (i ∷ []) []
attributes_fit (attribute_line xs) h = rw (group_is xs h) refl
attributes_fit i h = refl

metadata_fit : (i : Item FunctionTree) → IsItem i → for_one tail_items (as_metadata i) ≡ cond (eqb (group i) 6) (i ∷ []) []
metadata_fit (metadata_line xs) h = rw (metadata_is xs h) refl
metadata_fit i h = refl

functions_no_symbols : (fs : List FunctionTree) → flat_map symbol_items (map symbol_of_function fs) ≡ []
functions_no_symbols [] = refl
functions_no_symbols (f ∷ fs) = functions_no_symbols fs

printed_are_groups : (items : List (Item FunctionTree)) → AllByRecursion IsItem items → printed_items (collected items) ≡ grouped all_groups items
unfolding printed_items grouped
printed_are_groups items h =
    let heads : flat_map head_items (filter_map as_head items ++ filter_map as_comdat items) ≡ of_group 0 items =
    flat_map-append head_items (filter_map as_head items) _ ∙ rw (group_is_printed as_head head_items 0 heads_fit items h, none_printed as_comdat head_items heads_of_comdats items h) (append-nil _) in
    let types : flat_map type_items (filter_map as_type items) ≡ of_group 1 items = group_is_printed as_type type_items 1 types_fit items h in
    let comdats : flat_map comdat_items (filter_map as_head items ++ filter_map as_comdat items) ≡ of_group 2 items =
    flat_map-append comdat_items (filter_map as_head items) _ ∙ rw (none_printed as_head comdat_items comdats_of_heads items h) (group_is_printed as_comdat comdat_items 2 comdats_fit items h) in
    let variables : flat_map symbol_items (map symbol_of (filter_map as_variable items) ++ map symbol_of_function (filter_map as_function items)) ≡ of_group 3 items =
    flat_map-append symbol_items (map symbol_of (filter_map as_variable items)) _ ∙ rw (flat_map-map symbol_items symbol_of (filter_map as_variable items), group_is_printed as_variable (λ v. symbol_items (symbol_of v)) 3 variables_fit items h, functions_no_symbols (filter_map as_function items)) (append-nil _) in
    let tail : flat_map tail_items (filter_map as_attributes items ++ filter_map as_metadata items) ≡ of_group 5 items ++ (of_group 6 items ++ []) =
    flat_map-append tail_items (filter_map as_attributes items) _ ∙ rw (group_is_printed as_attributes tail_items 5 attributes_fit items h, group_is_printed as_metadata tail_items 6 metadata_fit items h, append-nil (of_group 6 items)) refl in
    rw (heads, types, comdats, variables, group_is_printed as_function function_items 4 functions_fit items h, tail) refl

-- ---- of a module

-- the items that are printed have the shape of items
pub printed_known : (tree : ModuleTree) → IsPrintable tree → AllByRecursion IsItem (printed_items tree)
printed_known tree m =
    subst (λ (t : ModuleTree). AllByRecursion IsItem (printed_items t)) m.says (rw (printed_are_groups m.items m.known) (grouped_known IsItem all_groups m.items m.known))

-- and are collected to the tree
pub printed_collected : (tree : ModuleTree) → IsPrintable tree → collected (printed_items tree) ≡ tree
printed_collected tree m =
    subst (λ (t : ModuleTree). collected (printed_items t) ≡ t) m.says (rw (printed_are_groups m.items m.known) (collected_grouped m.items))

each_function : (fs : List FunctionTree) → AllByRecursion IsItem (flat_map function_items fs) → AllByRecursion IsFunction fs
each_function [] h = tt
each_function (f ∷ fs) h = (h.0, each_function fs h.1)

-- a tree that can be printed has functions that can
pub functions_known : (tree : ModuleTree) → IsPrintable tree → AllByRecursion IsFunction tree.functions
unfolding printed_items
functions_known tree m =
    let types = (each_split IsItem (flat_map head_items tree.head) _ (printed_known tree m)).1 in
    let comdats = (each_split IsItem (flat_map type_items tree.type_names) _ types).1 in
    let symbols = (each_split IsItem (flat_map comdat_items tree.head) _ comdats).1 in
    let functions = (each_split IsItem (flat_map symbol_items tree.symbols) _ symbols).1 in
    each_function tree.functions ((each_split IsItem (flat_map function_items tree.functions) _ functions).0)
