-- The nodes of types stay what they are when types and names are added.
use Rattle.std.proofs.Common.{◌≡◌, ℕ, zero, suc, ◌<◌, ◌+◌, List, [], ◌∷◌, ◌++◌, length, refl, sym, ap, ◌∙◌, subst, arith, length-append}
use Rattle.text_forms.specs.View.{Extends}
use Rattle.ir_types.specs.declared.name.Name.{Name}
use Rattle.ir_types.specs.declared.memory_type.TypeId.{TypeId}
use Rattle.ir_types.specs.declared.memory_type.MemTy.{MemTy}
use Rattle.ir_types.specs.declared.memory_type.MemTy.TheVariants.{One, Array, Struct, Named}
use Rattle.ir_types.specs.Names.{name_at}
use Rattle.ir_types.specs.TypeNodes.{TypeNode, called, nodes_at, nodes_from, all_nodes, type_nodes}
use Rattle.ir_types.specs.Types.{IsBefore, IsFirst, IsTypeAt, AreTypes}

-- ---- more types

at_front : (xs ys : List (List TypeNode)) (i : ℕ) → i < length xs → nodes_at (xs ++ ys) i ≡ nodes_at xs i
at_front [] ys i lt = absurd (omega arith)
at_front (x ∷ xs) ys zero lt = refl
at_front (x ∷ xs) ys (suc i) lt = at_front xs ys i (omega arith)

at_end : (xs : List (List TypeNode)) (x : List TypeNode) (i : ℕ) → i ≡ length xs → nodes_at (xs ++ x ∷ []) i ≡ x
at_end [] x i e = rw e refl
at_end (y ∷ xs) x zero e = absurd (omega arith)
at_end (y ∷ xs) x (suc i) e = at_end xs x i (omega arith)

all_count : (names : List Name) (before : List (List TypeNode)) (ts : List MemTy) → length (all_nodes names before ts) ≡ length before + length ts
all_count names before [] = omega arith
all_count names before (t ∷ ts) = omega (arith, all_count names (before ++ nodes_from names before t ∷ []) ts, length-append before (nodes_from names before t ∷ []))

all_front : (names : List Name) (before : List (List TypeNode)) (ts : List MemTy) (i : ℕ) → i < length before → nodes_at (all_nodes names before ts) i ≡ nodes_at before i
all_front names before [] i lt = refl
all_front names before (t ∷ ts) i lt =
    let x = nodes_from names before t in
    all_front names (before ++ x ∷ []) ts i (omega (arith, length-append before (x ∷ []))) ∙ at_front before (x ∷ []) i lt

all_append : (names : List Name) (before : List (List TypeNode)) (ts us : List MemTy) → all_nodes names before (ts ++ us) ≡ all_nodes names (all_nodes names before ts) us
all_append names before [] us = refl
all_append names before (t ∷ ts) us = all_append names (before ++ nodes_from names before t ∷ []) ts us

nodes_before_more : (names : List Name) (types more : List MemTy) (id : TypeId) → IsBefore (length types) id → type_nodes names (types ++ more) id ≡ type_nodes names types id
nodes_before_more names types more id lt =
    ap (λ (l : List (List TypeNode)). nodes_at l id.0) (all_append names [] types more)
    ∙ all_front names (all_nodes names [] types) more id.0 (omega (arith, all_count names [] types))

-- the nodes of the type that is added
pub nodes_of_new : (names : List Name) (types : List MemTy) (t : MemTy) (id : TypeId) → id.0 ≡ length types → type_nodes names (types ++ t ∷ []) id ≡ nodes_from names (all_nodes names [] types) t
nodes_of_new names types t id e =
    ap (λ (l : List (List TypeNode)). nodes_at l id.0) (all_append names [] types (t ∷ []))
    ∙ at_end (all_nodes names [] types) (nodes_from names (all_nodes names [] types) t) id.0 (omega (arith, e, all_count names [] types))

-- ---- more names

name_stays : (names more : List Name) (k : ℕ) → k < length names → name_at (names ++ more) k ≡ name_at names k
name_stays [] more k lt = absurd (omega arith)
name_stays (n ∷ names) more zero lt = refl
name_stays (n ∷ names) more (suc k) lt = name_stays names more k (omega arith)

one_with_more : (names more : List Name) (before : List (List TypeNode)) (i : ℕ) (t : MemTy) → IsTypeAt names i t → nodes_from (names ++ more) before t ≡ nodes_from names before t
one_with_more names more before i (One t) h = refl
one_with_more names more before i (Array n e) h = refl
one_with_more names more before i (Struct p ms) h = refl
one_with_more names more before i (Named k) h = ap (λ (n : Name). called n ∷ []) (name_stays names more k h.within)

all_with_more : (names more : List Name) (before : List (List TypeNode)) (i : ℕ) (ts : List MemTy) → AreTypes names i ts → all_nodes (names ++ more) before ts ≡ all_nodes names before ts
all_with_more names more before i [] h = refl
all_with_more names more before i (t ∷ ts) h =
    ap (λ (x : List TypeNode). all_nodes (names ++ more) (before ++ x ∷ []) ts) (one_with_more names more before i t h.0)
    ∙ all_with_more names more (before ++ nodes_from names before t ∷ []) (suc i) ts h.1

-- the nodes of a type that stands in a list stay the same in each later list, with later names
pub nodes_stay : (names later : List Name) (types others : List MemTy) (id : TypeId) → AreTypes names 0 types → IsBefore (length types) id → Extends names later → Extends types others → type_nodes later others id ≡ type_nodes names types id
nodes_stay names later types others id are lt n t =
    ap (λ (l : List Name). type_nodes l others id) n.parts ∙ ap (λ (l : List MemTy). type_nodes (names ++ n.more) l id) t.parts
    ∙ nodes_before_more (names ++ n.more) types t.more id lt ∙ ap (λ (l : List (List TypeNode)). nodes_at l id.0) (all_with_more names n.more [] 0 types are)

-- ---- types that may stand there

first_stays : (names more : List Name) (k : ℕ) → IsFirst names k → IsFirst (names ++ more) k
first_stays names more k h = record {
  within = omega (arith, h.within, length-append names more);
  first = λ j lt e. h.first j lt (sym (name_stays names more j (omega (arith, h.within))) ∙ e ∙ name_stays names more k h.within);
}

one_stays : (names more : List Name) (i : ℕ) (t : MemTy) → IsTypeAt names i t → IsTypeAt (names ++ more) i t
one_stays names more i (One t) h = h
one_stays names more i (Array n e) h = h
one_stays names more i (Struct p ms) h = h
one_stays names more i (Named k) h = first_stays names more k h

all_stay : (names more : List Name) (i : ℕ) (ts : List MemTy) → AreTypes names i ts → AreTypes (names ++ more) i ts
all_stay names more i [] h = tt
all_stay names more i (t ∷ ts) h = (one_stays names more i t h.0, all_stay names more (suc i) ts h.1)

pub types_with_names : (names later : List Name) (types : List MemTy) → Extends names later → AreTypes names 0 types → AreTypes later 0 types
types_with_names names later types n h = subst (λ (l : List Name). AreTypes l 0 types) (sym n.parts) (all_stay names n.more 0 types h)

push_from : (names : List Name) (i : ℕ) (ts : List MemTy) (t : MemTy) (j : ℕ) → j ≡ i + length ts → AreTypes names i ts → IsTypeAt names j t → AreTypes names i (ts ++ t ∷ [])
push_from names i [] t j e h here = let s : j ≡ i = omega arith in (subst (λ (k : ℕ). IsTypeAt names k t) s here, tt)
push_from names i (u ∷ ts) t j e h here = (h.0, push_from names (suc i) ts t j (omega arith) h.1 here)

pub types_push : (names : List Name) (types : List MemTy) (t : MemTy) → AreTypes names 0 types → IsTypeAt names (length types) t → AreTypes names 0 (types ++ t ∷ [])
types_push names types t h here = push_from names 0 types t (length types) (omega arith) h here
