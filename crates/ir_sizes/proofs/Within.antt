-- A name's layout is the layout of its nodes: to follow names once more than there are definitions adds nothing.
use Rattle.std.proofs.Common.{◌≡◌, ℕ, zero, suc, ◌+◌, ◌≤◌, ◌⊎◌, Bool, true, false, List, [], ◌∷◌, Option, Some, None, length, find, refl, sym, ap, ◌∙◌, inl, inr, arith}
use Rattle.std.specs.List.{AllByRecursion}
use Rattle.std.proofs.lemmas.Bool.{cases_eq}
use Rattle.std.proofs.lemmas.Slice.Eq.{bytes_eq-Decides}
use Rattle.std.proofs.lemmas.Bool.Decides.{Decides-eqb}
use mathlib.Core.Path.{fun_ext}
use Rattle.text_forms.specs.Bind.{◌>>=◌}
use Rattle.text_forms.proofs.Parts.{bind_some}
use Rattle.ir_types.specs.declared.name.Name.{Name}
use Rattle.ir_types.specs.declared.name.Name.TheVariants.{Text, Number}
use Rattle.ir_types.specs.Names.{same_name}
use Rattle.ir_types.specs.Sizes.{Layout}
use Rattle.ir_types.specs.TypeNodes.{TypeNode, scalar, called, array, opening, closing}
use Rattle.ir_types.specs.Offsets.{Definitions, nodes_of_name, Laid, Cell, whole, end, cell_before, cells_of, one_type, layout_by, layout_within, layout_of_name}

pub same_name_is : (x y : Name) → same_name x y ≡ true → x ≡ y
same_name_is (Text a) (Text b) e = ap Text ((bytes_eq-Decides a b).0 e)
same_name_is (Text a) (Number n) e = absurd cc
same_name_is (Number m) (Text b) e = absurd cc
same_name_is (Number m) (Number n) e = ap Number ((Decides-eqb m n).0 e)

-- ---- more layouts of names, more layouts of types

-- what has a layout by the first has the same by the second
abbrev pub IsWithin : (s t : Name → Option Layout) → Type 0
IsWithin s t = (n : Name) (l : Layout) → s n ≡ Some l → t n ≡ Some l

module _ (s t : Name → Option Layout) (more : IsWithin s t) where
  before_more : (n : TypeNode) (cells all : List Cell) → cell_before s n cells ≡ Some all → cell_before t n cells ≡ Some all
  before_more (scalar ty) cells all e = e
  before_more (called n) cells all e =
      let found = bind_some (s n) (λ l. Some (whole (record { nodes = called n ∷ []; layout = l }) ∷ cells)) all e in
      ap (λ (o : Option Layout). o >>= λ l. Some (whole (record { nodes = called n ∷ []; layout = l }) ∷ cells)) (more n found.0 found.1) ∙ found.2
  before_more (array n) [] all e = e
  before_more (array n) (end ∷ cells) all e = e
  before_more (array n) (whole x ∷ cells) all e = e
  before_more (opening packed) cells all e = e
  before_more closing cells all e = e

  cells_more : (nodes : List TypeNode) (cells : List Cell) → cells_of s nodes ≡ Some cells → cells_of t nodes ≡ Some cells
  cells_more [] cells e = e
  cells_more (n ∷ nodes) cells e =
      let behind = bind_some (cells_of s nodes) (cell_before s n) cells e in
      ap (λ (o : Option (List Cell)). o >>= cell_before t n) (cells_more nodes behind.0 behind.1) ∙ before_more n behind.0 cells behind.2

  pub layout_more : (nodes : List TypeNode) (l : Layout) → layout_by s nodes ≡ Some l → layout_by t nodes ≡ Some l
  layout_more nodes l e =
      let one = bind_some (cells_of s nodes >>= one_type) (λ (x : Laid). Some x.layout) l e in
      let cells = bind_some (cells_of s nodes) one_type one.0 one.1 in
      ap (λ (o : Option (List Cell)). o >>= one_type >>= λ x. Some x.layout) (cells_more nodes cells.0 cells.1)
      ∙ ap (λ (o : Option Laid). o >>= λ x. Some x.layout) cells.2 ∙ one.2

-- ---- one name more

within_next : (defs : Definitions) (d : ℕ) → IsWithin (layout_within d defs) (layout_within (suc d) defs)
within_next defs zero n l e = absurd cc
within_next defs (suc d) n l e =
    let found = bind_some (nodes_of_name defs n) (layout_by (layout_within d defs)) l e in
    ap (λ (o : Option (List TypeNode)). o >>= layout_by (layout_within (suc d) defs)) found.1
    ∙ layout_more (layout_within d defs) (layout_within (suc d) defs) (within_next defs d) found.0 l found.2

-- one name more adds nothing for this name
abbrev IsSameAt : Definitions → ℕ → Name → Type 0
IsSameAt defs d n = layout_within d defs n ≡ layout_within (suc d) defs n

same_next : (defs : Definitions) (d : ℕ) → ((n : Name) → IsSameAt defs d n) → (n : Name) → IsSameAt defs (suc d) n
same_next defs d same n = ap (λ (s : Name → Option Layout). nodes_of_name defs n >>= layout_by s) (fun_ext same)

-- ---- how many definitions have a layout

abbrev one_if : Option Layout → ℕ
one_if None = 0
one_if (Some l) = 1

abbrev laid_count : Definitions → ℕ → Definitions → ℕ
laid_count defs d [] = 0
laid_count defs d (x ∷ xs) = one_if (layout_within d defs x.0) + laid_count defs d xs

one_grows : (o p : Option Layout) → ((l : Layout) → o ≡ Some l → p ≡ Some l) → (one_if o ≤ one_if p) × (one_if o ≡ one_if p → o ≡ p)
one_grows None None h = (omega arith, λ e. refl)
one_grows None (Some l) h = (omega arith, λ e. absurd (omega arith))
one_grows (Some l) p h = let e = h l refl in rw e (omega arith, λ _. refl)

one_most : (o : Option Layout) → one_if o ≤ 1
one_most None = omega arith
one_most (Some l) = omega arith

module _ (defs : Definitions) (d : ℕ) where
  count_most : (xs : Definitions) → laid_count defs d xs ≤ length xs
  count_most [] = omega arith
  count_most (x ∷ xs) = omega (arith, one_most (layout_within d defs x.0), count_most xs)

  count_grows : (xs : Definitions) → laid_count defs d xs ≤ laid_count defs (suc d) xs
  count_grows [] = omega arith
  count_grows (x ∷ xs) =
      let first = (one_grows (layout_within d defs x.0) (layout_within (suc d) defs x.0) (within_next defs d x.0)).0 in
      omega (arith, first, count_grows xs)

  -- where it does not grow, one name more adds nothing for them
  count_same : (xs : Definitions) → laid_count defs d xs ≡ laid_count defs (suc d) xs → AllByRecursion (λ x. IsSameAt defs d x.0) xs
  count_same [] e = tt
  count_same (x ∷ xs) e =
      let first = one_grows (layout_within d defs x.0) (layout_within (suc d) defs x.0) (within_next defs d x.0) in
      let rest = count_grows xs in
      (first.1 (omega (arith, first.0)), count_same xs (omega (arith, first.0)))

  found_same : (n : Name) (xs : Definitions) → AllByRecursion (λ x. IsSameAt defs d x.0) xs → (find (λ x. same_name x.0 n) xs ≡ None) ⊎ IsSameAt defs d n
  found_same n [] h = inl refl
  found_same n (x ∷ xs) h = by (same_name x.0 n) refl (found_same n xs h.1)
    where
      by : (b : Bool) → same_name x.0 n ≡ b → (find (λ y. same_name y.0 n) xs ≡ None) ⊎ IsSameAt defs d n → (find (λ y. same_name y.0 n) (x ∷ xs) ≡ None) ⊎ IsSameAt defs d n
      by true e more = let is = same_name_is x.0 n e in inr (rw is at h.0)
      by false e more = elim more [ inl none ↦ inl (rw e none) | inr same ↦ inr same ]

nothing_within : (defs : Definitions) (d : ℕ) (n : Name) → find (λ x. same_name x.0 n) defs ≡ None → layout_within d defs n ≡ None
nothing_within defs zero n e = refl
nothing_within defs (suc d) n e = ap (λ (o : Option (Name × Option (List TypeNode))). (o >>= λ x. x.1) >>= layout_by (layout_within d defs)) e

same_from : (defs : Definitions) (d : ℕ) → laid_count defs d defs ≡ laid_count defs (suc d) defs → (n : Name) → IsSameAt defs d n
same_from defs d e n = elim (found_same defs d n defs (count_same defs d defs e)) [
  | inl none ↦ nothing_within defs d n none ∙ sym (nothing_within defs (suc d) n none)
  | inr same ↦ same
]

-- one name more adds nothing, or so many have a layout already
same_or_many : (defs : Definitions) (d : ℕ) → ((n : Name) → IsSameAt defs d n) ⊎ (d ≤ laid_count defs d defs)
same_or_many defs zero = inr (omega arith)
same_or_many defs (suc d) = elim (same_or_many defs d) [
  | inl same ↦ inl (same_next defs d same)
  | inr many ↦ elim (cases_eq (laid_count defs d defs) (laid_count defs (suc d) defs)) [
    | inl e ↦ inl (same_next defs d (same_from defs d e))
    | inr e ↦ inr (omega (arith, count_grows defs d defs))
  ]
]

same_at_last : (defs : Definitions) (n : Name) → IsSameAt defs (length defs) n
same_at_last defs = elim (same_or_many defs (length defs)) [
  | inl same ↦ same
  | inr many ↦ same_from defs (length defs) (omega (arith, count_grows defs (length defs) defs, count_most defs (suc (length defs)) defs))
]

-- the layout of a name is that of its nodes
pub name_layout : (defs : Definitions) (n : Name) → layout_of_name defs n ≡ (nodes_of_name defs n >>= layout_by (layout_of_name defs))
name_layout defs n = same_at_last defs n
