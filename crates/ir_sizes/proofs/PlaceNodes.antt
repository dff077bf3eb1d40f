-- The nodes of the type at a place, by those of its parts; they are one type.
use Rattle.std.proofs.Common.{◌≡◌, ℕ, zero, suc, ◌+◌, ◌<◌, ◌≤◌, List, [], ◌∷◌, ◌++◌, map, length, Some, refl, sym, ap, ◌∙◌, subst, arith, length-append}
use Rattle.std.specs.Prelude.{slice_get}
use Rattle.std.specs.List.{AllByRecursion}
use Rattle.std.proofs.lemmas.Option.{slice_get-get_or}
use Rattle.ir_types.specs.declared.name.Name.{Name}
use Rattle.ir_types.specs.declared.inst.Ty.TheVariants.{Ptr}
use Rattle.ir_types.specs.declared.memory_type.TypeId.{TypeId}
use Rattle.ir_types.specs.declared.memory_type.MemTy.{MemTy}
use Rattle.ir_types.specs.declared.memory_type.MemTy.TheVariants.{One, Array, Struct, Named}
use Rattle.ir_types.specs.Names.{name_at}
use Rattle.ir_types.specs.Types.{IsBefore, IsTypeAt, AreTypes}
use Rattle.ir_types.specs.TypeNodes.{TypeNode, array, nodes_at, nodes_from, all_nodes, type_nodes}
use Rattle.ir_sizes.specs.Definitions.{struct_nodes, nodes_by}
use Rattle.ir_sizes.proofs.Cells.{IsOne, scalar_one, called_one, array_one, struct_one}

-- ---- the lists of nodes, one type after another

at_front : (xs ys : List (List TypeNode)) (i : ℕ) → i < length xs → nodes_at (xs ++ ys) i ≡ nodes_at xs i
at_front [] ys i lt = absurd (omega arith)
at_front (x ∷ xs) ys zero lt = refl
at_front (x ∷ xs) ys (suc i) lt = at_front xs ys i (omega arith)

at_end : (xs : List (List TypeNode)) (x : List TypeNode) (i : ℕ) → i ≡ length xs → nodes_at (xs ++ x ∷ []) i ≡ x
at_end [] x i e = rw e refl
at_end (y ∷ xs) x zero e = absurd (omega arith)
at_end (y ∷ xs) x (suc i) e = at_end xs x i (omega arith)

past_end : (xs : List (List TypeNode)) (i : ℕ) → length xs ≤ i → nodes_at xs i ≡ []
past_end [] i le = refl
past_end (x ∷ xs) zero le = absurd (omega arith)
past_end (x ∷ xs) (suc i) le = past_end xs i (omega arith)

module _ (names : List Name) where
  all_count : (before : List (List TypeNode)) (ts : List MemTy) → length (all_nodes names before ts) ≡ length before + length ts
  all_count before [] = omega arith
  all_count before (t ∷ ts) =
      let x = nodes_from names before t in
      omega (arith, all_count (before ++ x ∷ []) ts, length-append before (x ∷ []))

  all_front : (before : List (List TypeNode)) (ts : List MemTy) (i : ℕ) → i < length before → nodes_at (all_nodes names before ts) i ≡ nodes_at before i
  all_front before [] i lt = refl
  all_front before (t ∷ ts) i lt =
      let x = nodes_from names before t in
      all_front (before ++ x ∷ []) ts i (omega (arith, length-append before (x ∷ []))) ∙ at_front before (x ∷ []) i lt

  members_before : (before : List (List TypeNode)) (part : TypeId → List TypeNode) (i : ℕ) (members : List TypeId) → AllByRecursion (IsBefore i) members
      → ((id : TypeId) → IsBefore i id → nodes_at before id.0 ≡ part id) → map (λ id. nodes_at before id.0) members ≡ map part members
  members_before before part i [] h same = refl
  members_before before part i (id ∷ members) h same =
      let first = same id h.0 in
      let rest = members_before before part i members h.1 same in
      rw first (ap (λ (l : List (List TypeNode)). part id ∷ l) rest)

  from_before : (before : List (List TypeNode)) (part : TypeId → List TypeNode) (i : ℕ) (t : MemTy) → IsTypeAt names i t
      → ((id : TypeId) → IsBefore i id → nodes_at before id.0 ≡ part id) → nodes_from names before t ≡ nodes_by names part t
  from_before before part i (One t) h same = refl
  from_before before part i (Array n element) h same = ap (λ (l : List TypeNode). array n ∷ l) (same element h)
  from_before before part i (Struct packed members) h same = ap (struct_nodes packed) (members_before before part i members h same)
  from_before before part i (Named k) h same = refl

  place_from : (before : List (List TypeNode)) (ts : List MemTy) (j i : ℕ) (t : MemTy) → i ≡ length before + j → slice_get ts j ≡ Some t → IsTypeAt names i t
      → nodes_at (all_nodes names before ts) i ≡ nodes_by names (λ (id : TypeId). nodes_at (all_nodes names before ts) id.0) t
  place_from before [] j i t e found h = absurd cc
  place_from before (u ∷ ts) zero i t e found h =
      let same : u ≡ t = cc in
      let x = nodes_from names before u in
      let added = length-append before (x ∷ []) in
      let final : TypeId → List TypeNode = λ id. nodes_at (all_nodes names (before ++ x ∷ []) ts) id.0 in
      all_front (before ++ x ∷ []) ts i (omega (arith, added)) ∙ at_end before x i (omega arith)
      ∙ ap (nodes_from names before) same
      ∙ from_before before final i t h (λ id lt. sym (all_front (before ++ x ∷ []) ts id.0 (omega (arith, added)) ∙ at_front before (x ∷ []) id.0 (omega arith)))
  place_from before (u ∷ ts) (suc j) i t e found h =
      let x = nodes_from names before u in
      place_from (before ++ x ∷ []) ts j i t (omega (arith, length-append before (x ∷ []))) found h

  type_from : (ts : List MemTy) (j i k : ℕ) (t : MemTy) → k ≡ i + j → AreTypes names i ts → slice_get ts j ≡ Some t → IsTypeAt names k t
  type_from [] j i k t e are found = absurd cc
  type_from (u ∷ ts) zero i k t e are found =
      let same : u ≡ t = cc in
      let here : i ≡ k = omega arith in
      subst (λ (n : ℕ). IsTypeAt names n t) here (subst (IsTypeAt names i) same are.0)
  type_from (u ∷ ts) (suc j) i k t e are found = type_from ts j (suc i) k t (omega arith) are.1 found

-- the type at a place may stand there
pub type_at : (names : List Name) (types : List MemTy) (i : ℕ) (t : MemTy) → AreTypes names 0 types → slice_get types i ≡ Some t → IsTypeAt names i t
type_at names types i t are found = type_from names types i 0 i t (omega arith) are found

-- its nodes
pub place_nodes : (names : List Name) (types : List MemTy) (id : TypeId) (t : MemTy) → AreTypes names 0 types → slice_get types id.0 ≡ Some t → type_nodes names types id ≡ nodes_by names (type_nodes names types) t
place_nodes names types id t are found = place_from names [] types id.0 id.0 t (omega arith) found (type_at names types id.0 t are found)

-- there are none behind the types
pub no_nodes : (names : List Name) (types : List MemTy) (id : TypeId) → length types ≤ id.0 → type_nodes names types id ≡ []
no_nodes names types id past = past_end (all_nodes names [] types) id.0 (omega (arith, all_count names [] types))

-- ---- they are one type

pub each_mapped : {A B : Type 0} (P : A → Type 0) (Q : B → Type 0) (f : A → B) → ((a : A) → P a → Q (f a)) → (xs : List A) → AllByRecursion P xs → AllByRecursion Q (map f xs)
each_mapped P Q f so [] h = tt
each_mapped P Q f so (x ∷ xs) h = (so x h.0, each_mapped P Q f so xs h.1)

one_by : (names : List Name) (part : TypeId → List TypeNode) (i : ℕ) (t : MemTy) → IsTypeAt names i t → ((id : TypeId) → IsBefore i id → IsOne (part id)) → IsOne (nodes_by names part t)
one_by names part i (One t) h parts = scalar_one t
one_by names part i (Array n element) h parts = array_one n (part element) (parts element h)
one_by names part i (Struct packed members) h parts = struct_one packed (map part members) (each_mapped (IsBefore i) IsOne part parts members h)
one_by names part i (Named k) h parts = called_one (name_at names k)

module _ (names : List Name) (types : List MemTy) (are : AreTypes names 0 types) where
  one_below : (bound : ℕ) (id : TypeId) → id.0 < bound → IsBefore (length types) id → IsOne (type_nodes names types id)
  one_below zero id lt within = absurd (omega arith)
  one_below (suc bound) id lt within =
      let found = slice_get-get_or types id.0 (One Ptr) within in
      let h = type_at names types id.0 _ are found in
      rw (place_nodes names types id _ are found) (one_by names (type_nodes names types) id.0 _ h (λ part before. one_below bound part (omega arith) (omega arith)))

  pub place_one : (id : TypeId) → IsBefore (length types) id → IsOne (type_nodes names types id)
  place_one id within = one_below (suc id.0) id (omega arith) within

  -- and so are those of the members of a struct
  pub places_one : (i : ℕ) (members : List TypeId) → i ≤ length types → AllByRecursion (IsBefore i) members → AllByRecursion IsOne (map (type_nodes names types) members)
  places_one i members within h = each_mapped (IsBefore i) IsOne (type_nodes names types) (λ id before. place_one id (omega arith)) members h
