-- The items of each kind, among items that were filled with their functions.
use Rattle.std.proofs.Common.{◌≡◌, List, [], ◌∷◌, length, map, Option, Some, None, refl, sym, ap, ◌∙◌, arith}
use Rattle.std.specs.List.{filter_map}
use Rattle.ir_types.specs.declared.name.Name.{Name}
use Rattle.ir_types.specs.TypeNodes.{TypeNode}
use Rattle.ir_types.specs.Offsets.{definitions_in}
use Rattle.ir_types.specs.Skimmed.{Skimmed}
use Rattle.ir_types.specs.Tree.{KeptTexts, TypeNameTree, VariableTree, FunctionTree, Item, head_line, comdat_line, type_item, variable_item, function_item, attribute_line, metadata_line}
use Rattle.ir_types.specs.Collected.{as_head, as_comdat, of_definition, as_type, as_variable, as_function, as_attributes, as_metadata}
use Rattle.ir_limits.specs.Mentioned.{in_function, in_item, in_items}
use Rattle.ir_limits.specs.Limits.{or_else, first_long}
use Rattle.ir_limits.proofs.Firsts.{first_of_both}
use Rattle.ir_reader.specs.Gathered.{head_among, comdat_among, variable_among, function_among, attributes_among, metadata_among, long_of, long_among}
use Rattle.ir_reader.proofs.Filling.{put}

-- ---- kinds that are no functions

-- the one finds in skimmed items what the other finds in filled ones
record Same {X : Type 0} (p : Item Skimmed → Option X) (q : Item FunctionTree → Option X) : Type 0 where
  head : (xs : KeptTexts) → q (head_line xs) ≡ p (head_line xs)
  comdat : (xs : KeptTexts) → q (comdat_line xs) ≡ p (comdat_line xs)
  ty : (n : Name) (t : Option (List TypeNode)) → q (type_item n t) ≡ p (type_item n t)
  variable : (v : VariableTree) → q (variable_item v) ≡ p (variable_item v)
  skimmed : (s : Skimmed) → p (function_item s) ≡ None
  function : (f : FunctionTree) → q (function_item f) ≡ None
  attributes : (xs : KeptTexts) → q (attribute_line xs) ≡ p (attribute_line xs)
  metadata : (xs : KeptTexts) → q (metadata_line xs) ≡ p (metadata_line xs)

same_group : {X : Type 0} (p : Item Skimmed → Option X) (q : Item FunctionTree → Option X) → Same p q → (items : List (Item Skimmed)) (fs : List FunctionTree) → filter_map q (put items fs) ≡ filter_map p items
same_group p q h [] fs = refl
same_group p q h (head_line xs ∷ more) fs = rw (h.head xs, same_group p q h more fs) refl
same_group p q h (comdat_line xs ∷ more) fs = rw (h.comdat xs, same_group p q h more fs) refl
same_group p q h (type_item n t ∷ more) fs = rw (h.ty n t, same_group p q h more fs) refl
same_group p q h (variable_item v ∷ more) fs = rw (h.variable v, same_group p q h more fs) refl
same_group p q h (function_item s ∷ more) [] = rw (h.skimmed s) (same_group p q h more [])
same_group p q h (function_item s ∷ more) (f ∷ fs) = rw (h.function f, h.skimmed s) (same_group p q h more fs)
same_group p q h (attribute_line xs ∷ more) fs = rw (h.attributes xs, same_group p q h more fs) refl
same_group p q h (metadata_line xs ∷ more) fs = rw (h.metadata xs, same_group p q h more fs) refl

pub heads : (items : List (Item Skimmed)) (fs : List FunctionTree) → filter_map as_head (put items fs) ≡ filter_map head_among items
heads items fs = same_group head_among as_head (record { head = λ xs. refl; comdat = λ xs. refl; ty = λ n t. refl; variable = λ v. refl; skimmed = λ s. refl; function = λ f. refl; attributes = λ xs. refl; metadata = λ xs. refl }) items fs

pub comdats : (items : List (Item Skimmed)) (fs : List FunctionTree) → filter_map as_comdat (put items fs) ≡ filter_map comdat_among items
comdats items fs = same_group comdat_among as_comdat (record { head = λ xs. refl; comdat = λ xs. refl; ty = λ n t. refl; variable = λ v. refl; skimmed = λ s. refl; function = λ f. refl; attributes = λ xs. refl; metadata = λ xs. refl }) items fs

pub variables : (items : List (Item Skimmed)) (fs : List FunctionTree) → filter_map as_variable (put items fs) ≡ filter_map variable_among items
variables items fs = same_group variable_among as_variable (record { head = λ xs. refl; comdat = λ xs. refl; ty = λ n t. refl; variable = λ v. refl; skimmed = λ s. refl; function = λ f. refl; attributes = λ xs. refl; metadata = λ xs. refl }) items fs

pub attributes : (items : List (Item Skimmed)) (fs : List FunctionTree) → filter_map as_attributes (put items fs) ≡ filter_map attributes_among items
attributes items fs = same_group attributes_among as_attributes (record { head = λ xs. refl; comdat = λ xs. refl; ty = λ n t. refl; variable = λ v. refl; skimmed = λ s. refl; function = λ f. refl; attributes = λ xs. refl; metadata = λ xs. refl }) items fs

pub metadata : (items : List (Item Skimmed)) (fs : List FunctionTree) → filter_map as_metadata (put items fs) ≡ filter_map metadata_among items
metadata items fs = same_group metadata_among as_metadata (record { head = λ xs. refl; comdat = λ xs. refl; ty = λ n t. refl; variable = λ v. refl; skimmed = λ s. refl; function = λ f. refl; attributes = λ xs. refl; metadata = λ xs. refl }) items fs

-- a definition as a part of the tree
abbrev pub type_tree : Name × Option (List TypeNode) → TypeNameTree
type_tree d = record { name = d.0; ty = of_definition d.1 }

abbrev type_among : Item Skimmed → Option TypeNameTree
type_among (type_item n t) = Some (type_tree (n, t))
type_among i = None

types_among : (items : List (Item Skimmed)) → filter_map type_among items ≡ map type_tree (definitions_in items)
types_among [] = refl
types_among (head_line xs ∷ more) = types_among more
types_among (comdat_line xs ∷ more) = types_among more
types_among (type_item n t ∷ more) = ap (λ (l : List TypeNameTree). type_tree (n, t) ∷ l) (types_among more)
types_among (variable_item v ∷ more) = types_among more
types_among (function_item s ∷ more) = types_among more
types_among (attribute_line xs ∷ more) = types_among more
types_among (metadata_line xs ∷ more) = types_among more

pub types : (items : List (Item Skimmed)) (fs : List FunctionTree) → filter_map as_type (put items fs) ≡ map type_tree (definitions_in items)
types items fs =
    same_group type_among as_type (record { head = λ xs. refl; comdat = λ xs. refl; ty = λ n t. refl; variable = λ v. refl; skimmed = λ s. refl; function = λ f. refl; attributes = λ xs. refl; metadata = λ xs. refl }) items fs ∙ types_among items

-- ---- functions

pub functions : (items : List (Item Skimmed)) (fs : List FunctionTree) → length fs ≡ length (filter_map function_among items) → filter_map as_function (put items fs) ≡ fs
functions [] [] e = refl
functions [] (f ∷ fs) e = absurd cc
functions (head_line xs ∷ more) fs e = functions more fs e
functions (comdat_line xs ∷ more) fs e = functions more fs e
functions (type_item n t ∷ more) fs e = functions more fs e
functions (variable_item v ∷ more) fs e = functions more fs e
functions (function_item s ∷ more) [] e = absurd cc
functions (function_item s ∷ more) (f ∷ fs) e = ap (λ (l : List FunctionTree). f ∷ l) (functions more fs (omega (arith, e)))
functions (attribute_line xs ∷ more) fs e = functions more fs e
functions (metadata_line xs ∷ more) fs e = functions more fs e

-- ---- long names

long_before : (i : Item FunctionTree) (items : List (Item FunctionTree)) → first_long (in_items (i ∷ items)) ≡ or_else (first_long (in_item i)) (first_long (in_items items))
long_before i items = first_of_both (in_item i) (in_items items)

-- the first of all, where each function has its own
pub longs : (items : List (Item Skimmed)) (fs : List FunctionTree) → long_among (map long_of items) fs ≡ first_long (in_items (put items fs))
longs [] fs = refl
longs (head_line xs ∷ more) fs = longs more fs
longs (comdat_line xs ∷ more) fs = longs more fs
longs (type_item n t ∷ more) fs = ap (or_else _) (longs more fs) ∙ sym (long_before (type_item n t) (put more fs))
longs (variable_item v ∷ more) fs = ap (or_else _) (longs more fs) ∙ sym (long_before (variable_item v) (put more fs))
longs (function_item s ∷ more) [] = longs more []
longs (function_item s ∷ more) (f ∷ fs) = ap (or_else (first_long (in_function f))) (longs more fs) ∙ sym (long_before (function_item f) (put more fs))
longs (attribute_line xs ∷ more) fs = longs more fs
longs (metadata_line xs ∷ more) fs = longs more fs
