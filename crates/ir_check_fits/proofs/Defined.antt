-- The definitions of names of types in a module's tree are those of its list of names.
use Rattle.std.proofs.Common.{◌≡◌, ◌≢◌, ℕ, zero, suc, ◌+◌, ◌<◌, ◌≤◌, ◌||◌, Bool, true, false, cond, List, [], ◌∷◌, ◌++◌, map, length, Option, Some, None, refl, sym, ap, ◌∙◌, subst, arith}
use Rattle.std.specs.Prelude.{slice_get}
use Rattle.std.specs.List.{filter_map}
use Rattle.std.specs.Option.{option_map}
use Rattle.std.proofs.lemmas.Slice.Eq.{bytes_eq-Decides}
use Rattle.std.proofs.lemmas.Bool.Decides.{Decides-eqb}
use Rattle.std.proofs.lemmas.Option.{slice_get-map}
use Rattle.ir_types.specs.declared.name.Name.{Name}
use Rattle.ir_types.specs.declared.name.Name.TheVariants.{Text, Number}
use Rattle.ir_types.specs.declared.memory_type.NamedType.{NamedType}
use Rattle.ir_types.specs.declared.memory_type.NamedType.TheVariants.{Defined, Opaque, Missing}
use Rattle.ir_types.specs.declared.memory_type.TypeName.{TypeName}
use Rattle.ir_types.specs.declared.module.Module.{Module}
use Rattle.ir_types.specs.Names.{same_name, has_name, unknown, name_at}
use Rattle.ir_types.specs.Types.{IsFirst}
use Rattle.ir_types.specs.TypeNodes.{TypeNode}
use Rattle.ir_types.specs.Tree.{TypeNameTree}
use Rattle.ir_types.specs.Offsets.{Definitions, nodes_of_name}
use Rattle.ir_types.specs.Denotes.{type_name_in, tree_of}
use Rattle.ir_types.specs.Used.{types_used}
use Rattle.ir_shape.specs.Modules.{IsModule}
use Rattle.ir_types.proofs.NameAt.{name_got}
use Rattle.ir_sizes.specs.Definitions.{names_in, defined_nodes, AreDefinitions}
use Rattle.ir_sizes.proofs.Within.{same_name_is}
use Rattle.ir_rules.specs.Steps.{nodes_defined, type_definitions}

-- ---- names

-- a name is the same as itself
pub same_itself : (n : Name) → same_name n n ≡ true
same_itself (Text a) = (bytes_eq-Decides a a).1 refl
same_itself (Number m) = (Decides-eqb m m).1 refl

-- and as no other
pub other_name : (n m : Name) → n ≢ m → same_name n m ≡ false
other_name n m apart = by (same_name n m) refl
  where
    by : (b : Bool) → same_name n m ≡ b → same_name n m ≡ false
    by true e = absurd (apart (same_name_is n m e))
    by false e = e

one_if : Bool → ℕ
one_if true = 1
one_if false = 0

-- how often a name stands in a list
count : Name → List Name → ℕ
count x [] = 0
count x (n ∷ ns) = one_if (same_name x n) + count x ns

count_both : (x : Name) (ns ms : List Name) → count x (ns ++ ms) ≡ count x ns + count x ms
unfolding count one_if
count_both x [] ms = omega arith
count_both x (n ∷ ns) ms = let rest = count_both x ns ms in omega arith

-- what is known isn't among the unknown
known_never : (known names : List Name) (x : Name) → has_name x known ≡ true → count x (unknown known names) ≡ 0
unfolding count one_if
known_never known [] x h = refl
known_never known (n ∷ ns) x h = by (has_name n known) refl (known_never known ns x h) (λ k. known_never (known ++ n ∷ []) ns x k)
  where
    either : (a b : Bool) → a ≡ true → (a || b) ≡ true
    either true b e = refl
    either false b e = absurd cc

    more : (known : List Name) (n : Name) → has_name x known ≡ true → has_name x (known ++ n ∷ []) ≡ true
    more [] n e = absurd cc
    more (k ∷ known) n e = here (same_name x k) (has_name x known) (has_name x (known ++ n ∷ [])) (more known n) e
      where
        here : (a b c : Bool) → (b ≡ true → c ≡ true) → (a || b) ≡ true → (a || c) ≡ true
        here true b c f e = refl
        here false b c f e = f e

    by : (b : Bool) → has_name n known ≡ b → count x (unknown known ns) ≡ 0 → (has_name x (known ++ n ∷ []) ≡ true → count x (unknown (known ++ n ∷ []) ns) ≡ 0) → count x (cond b (unknown known ns) (n ∷ unknown (known ++ n ∷ []) ns)) ≡ 0
    by true e rest further = rest
    by false e rest further =
        let apart : same_name x n ≡ false = other_name x n (λ same. let k : has_name n known ≡ true = subst (λ y. has_name y known ≡ true) same h in cc) in
        let none = further (more known n h) in
        rw apart (omega arith)

-- ---- entries

module _ (m : Module) where
  abbrev trees : List TypeName → List TypeNameTree
  trees es = filter_map (type_name_in m) es

  abbrev definitions : List TypeName → Definitions
  definitions es = map (λ (t : TypeNameTree). (t.name, nodes_defined t.ty)) (trees es)

  abbrev named : List TypeName → List Name
  named es = map (λ (t : TypeNameTree). t.name) (trees es)

  abbrev nodes_for : NamedType → Option (List TypeNode)
  nodes_for t = defined_nodes m.types m.type_names t

  fewer : (es : List TypeName) → length (definitions es) ≤ length es
  fewer [] = omega arith
  fewer (e ∷ es) = by e.ty refl (fewer es)
    where
      by : (t : NamedType) → e.ty ≡ t → length (definitions es) ≤ length es → length (definitions (e ∷ es)) ≤ suc (length es)
      by (Defined id) h le = rw h (omega arith)
      by Opaque h le = rw h (omega arith)
      by Missing h le = rw h (omega arith)

  -- an entry that isn't missing is found, where no entry of its name stands before it
  found : (es : List TypeName) (k : ℕ) (n : TypeName) → slice_get es k ≡ Some n → n.ty ≢ Missing → ((j : ℕ) (e : TypeName) → j < k → slice_get es j ≡ Some e → e.name ≢ n.name) → nodes_of_name (definitions es) n.name ≡ nodes_for n.ty
  found [] k n h there apart = absurd cc
  found (e ∷ es) zero n h there apart = by n.ty refl
    where
      same : e ≡ n
      same = cc

      by : (t : NamedType) → n.ty ≡ t → nodes_of_name (definitions (e ∷ es)) n.name ≡ nodes_for n.ty
      by (Defined id) is = rw (same, is, same_itself n.name) refl
      by Opaque is = rw (same, is, same_itself n.name) refl
      by Missing is = absurd (there is)
  found (e ∷ es) (suc k) n h there apart = by e.ty refl (found es k n h there (λ j x lt f. apart (suc j) x (omega arith) f)) (other_name e.name n.name (apart zero e (omega arith) refl))
    where
      by : (t : NamedType) → e.ty ≡ t → nodes_of_name (definitions es) n.name ≡ nodes_for n.ty → same_name e.name n.name ≡ false → nodes_of_name (definitions (e ∷ es)) n.name ≡ nodes_for n.ty
      by (Defined id) is rest other = rw (is, other) rest
      by Opaque is rest other = rw (is, other) rest
      by Missing is rest other = rw is rest

  -- a name that no tree has is not found
  not_found : (ts : List TypeNameTree) (x : Name) → has_name x (map (λ (t : TypeNameTree). t.name) ts) ≡ false → nodes_of_name (map (λ (t : TypeNameTree). (t.name, nodes_defined t.ty)) ts) x ≡ None
  not_found [] x h = refl
  not_found (t ∷ ts) x h = by (same_name x t.name) refl h (not_found ts x)
    where
      by : (b : Bool) → same_name x t.name ≡ b → (b || has_name x (map (λ (u : TypeNameTree). u.name) ts)) ≡ false → (has_name x (map (λ (u : TypeNameTree). u.name) ts) ≡ false → nodes_of_name (map (λ (u : TypeNameTree). (u.name, nodes_defined u.ty)) ts) x ≡ None) → nodes_of_name (map (λ (u : TypeNameTree). (u.name, nodes_defined u.ty)) (t ∷ ts)) x ≡ None
      by true e h rest = absurd cc
      by false e h rest =
          let other : same_name t.name x ≡ false = other_name t.name x (λ same. let itself = same_itself x in let turned : same_name x t.name ≡ true = rw same itself in cc) in
          rw other (rest h)

  -- the names of entries stand among those of trees, or are missing
  missing_count : (es : List TypeName) (k : ℕ) (n : TypeName) → slice_get es k ≡ Some n → n.ty ≡ Missing → count n.name (named es) < count n.name (names_in es)
  unfolding count one_if
  missing_count es k n h is = by es k h
    where
      at_most : (es : List TypeName) → count n.name (named es) ≤ count n.name (names_in es)
      at_most [] = omega arith
      at_most (e ∷ es) = of e.ty refl (at_most es)
        where
          of : (t : NamedType) → e.ty ≡ t → count n.name (named es) ≤ count n.name (names_in es) → count n.name (named (e ∷ es)) ≤ count n.name (names_in (e ∷ es))
          of (Defined id) t le = rw t (omega arith)
          of Opaque t le = rw t (omega arith)
          of Missing t le = rw t (omega arith)

      by : (es : List TypeName) (k : ℕ) → slice_get es k ≡ Some n → count n.name (named es) < count n.name (names_in es)
      by [] k h = absurd cc
      by (e ∷ es) zero h =
          let same : e ≡ n = cc in
          let le = at_most es in
          let one : one_if (same_name n.name e.name) ≡ 1 = rw (same, same_itself n.name) refl in
          let none : named (e ∷ es) ≡ named es = rw (same, is) refl in
          rw none (omega arith)
      by (e ∷ es) (suc k) h = of e.ty refl (by es k h)
        where
          of : (t : NamedType) → e.ty ≡ t → count n.name (named es) < count n.name (names_in es) → count n.name (named (e ∷ es)) < count n.name (names_in (e ∷ es))
          of (Defined id) t lt = rw t (omega arith)
          of Opaque t lt = rw t (omega arith)
          of Missing t lt = rw t (omega arith)

  -- the name of a missing entry is none of the trees'
  missing_unknown : (used : List Name) → names_in m.type_names ≡ named m.type_names ++ unknown (named m.type_names) used → (k : ℕ) (n : TypeName) → slice_get m.type_names k ≡ Some n → n.ty ≡ Missing → has_name n.name (named m.type_names) ≡ false
  missing_unknown used e k n h is = by (has_name n.name (named m.type_names)) refl
    where
      by : (b : Bool) → has_name n.name (named m.type_names) ≡ b → has_name n.name (named m.type_names) ≡ false
      by true known =
          let lt = missing_count m.type_names k n h is in
          let all = ap (count n.name) e ∙ count_both n.name (named m.type_names) (unknown (named m.type_names) used) in
          let none = known_never (named m.type_names) used n.name known in
          absurd (omega arith)
      by false none = none

  pub are_definitions : (used : List Name) → names_in m.type_names ≡ named m.type_names ++ unknown (named m.type_names) used → AreDefinitions m.types m.type_names (type_definitions (tree_of m))
  are_definitions used e = record {
    as_many = fewer m.type_names;
    each = λ k n h first. of k n h first n.ty refl;
  }
    where
      name : (j : ℕ) (x : TypeName) → slice_get m.type_names j ≡ Some x → name_at (names_in m.type_names) j ≡ x.name
      name j x f = name_got (names_in m.type_names) j x.name (slice_get-map (λ (y : TypeName). y.name) m.type_names j ∙ ap (option_map (λ (y : TypeName). y.name)) f)

      apart : (k : ℕ) (n : TypeName) → slice_get m.type_names k ≡ Some n → IsFirst (names_in m.type_names) k → (j : ℕ) (x : TypeName) → j < k → slice_get m.type_names j ≡ Some x → x.name ≢ n.name
      apart k n h first j x lt f same = first.first j lt (name j x f ∙ same ∙ sym (name k n h))

      of : (k : ℕ) (n : TypeName) → slice_get m.type_names k ≡ Some n → IsFirst (names_in m.type_names) k → (t : NamedType) → n.ty ≡ t → nodes_of_name (definitions m.type_names) n.name ≡ nodes_for n.ty
      of k n h first (Defined id) is = found m.type_names k n h (λ none. cc) (apart k n h first)
      of k n h first Opaque is = found m.type_names k n h (λ none. cc) (apart k n h first)
      of k n h first Missing is = not_found (trees m.type_names) n.name (missing_unknown used e k n h is) ∙ rw is refl

pub module_definitions : (m : Module) → IsModule m → AreDefinitions m.types m.type_names (type_definitions (tree_of m))
module_definitions m is = are_definitions m (types_used (tree_of m)) is.denotes.type_names
