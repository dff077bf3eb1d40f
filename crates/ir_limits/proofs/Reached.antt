-- What stands at a place of a table, and the first long names of types behind one another.
use Rattle.std.proofs.Common.{◌≡◌, ◌<◌, ℕ, zero, suc, ◌+◌, List, [], ◌∷◌, ◌++◌, length, get_or, take, Option, None, refl, sym, ap, ◌∙◌, arith}
use Rattle.std.specs.Prelude.{map, sum_by}
use Rattle.std.proofs.lemmas.List.{take_more, map-append, length-map}
use Rattle.std.proofs.lemmas.List.Sums.{sum_by-cons}
use Rattle.text_forms.specs.Nested.{concat}
use Rattle.ir_types.specs.declared.name.Name.{Name}
use Rattle.ir_types.specs.declared.memory_type.TypeId.{TypeId}
use Rattle.ir_types.specs.declared.memory_type.TypeName.{TypeName}
use Rattle.ir_types.specs.declared.memory_type.MemTy.{MemTy}
use Rattle.ir_types.specs.declared.memory_type.MemTy.TheVariants.{One, Array, Struct, Named}
use Rattle.ir_types.specs.declared.module.Block.{Block}
use Rattle.ir_types.specs.declared.module.Function.{Function}
use Rattle.ir_types.specs.Names.{name_at}
use Rattle.ir_types.specs.TypeNodes.{TypeNode, scalar, called, array, opening, closing, nodes_at, nodes_from, all_nodes, names_used}
use Rattle.ir_types.specs.Denotes.{Tables, inst_in, block_in, function_in}
use Rattle.ir_types.specs.Tree.{BlockTree, FunctionTree}
use Rattle.text_lex.specs.declared.fault.Count.TheVariants.{Functions, Blocks, Instructions}
use Rattle.ir_limits.specs.Limits.{long_name, or_else, first_of, first_long, blocks_of, instructions_of, above, name_count, passed_by}
use Rattle.ir_limits.specs.Longs.{long_in, longs_of, long_at, long_from}
use Rattle.ir_limits.proofs.Firsts.{first_of_both, or_nothing}

-- ---- names at their places

-- the name at a place that stands in the list is the one there
pub name_there : (ns : List Name) (i : ℕ) (d : Name) → i < length ns → name_at ns i ≡ get_or ns i d
name_there [] i d lt = absurd (omega arith)
name_there (n ∷ ns) zero d lt = refl
name_there (n ∷ ns) (suc i) d lt = name_there ns i d (omega arith)

-- and so the name of an entry
pub entry_there : (es : List TypeName) (i : ℕ) (d : TypeName) → i < length es → name_at (map (λ (e : TypeName). e.name) es) i ≡ (get_or es i d).name
entry_there [] i d lt = absurd (omega arith)
entry_there (e ∷ es) zero d lt = refl
entry_there (e ∷ es) (suc i) d lt = entry_there es i d (omega arith)

-- ---- types

used_both : (xs ys : List TypeNode) → names_used (xs ++ ys) ≡ names_used xs ++ names_used ys
used_both [] ys = refl
used_both (scalar t ∷ xs) ys = used_both xs ys
used_both (called n ∷ xs) ys = ap (λ (ns : List Name). n ∷ ns) (used_both xs ys)
used_both (array n ∷ xs) ys = used_both xs ys
used_both (opening packed ∷ xs) ys = used_both xs ys
used_both (closing ∷ xs) ys = used_both xs ys

long_in_both : (xs ys : List TypeNode) → long_in (xs ++ ys) ≡ or_else (long_in xs) (long_in ys)
long_in_both xs ys = ap first_long (used_both xs ys) ∙ first_of_both (names_used xs) (names_used ys)

-- what is known of the type at a place is what its nodes have
pub known_right : (before : List (List TypeNode)) (i : ℕ) → get_or (map long_in before) i None ≡ long_in (nodes_at before i)
known_right [] i = refl
known_right (nodes ∷ before) zero = refl
known_right (nodes ∷ before) (suc i) = known_right before i

members_right : (before : List (List TypeNode)) (ids : List TypeId) → first_of (long_at (map long_in before)) ids ≡ long_in (concat (map (λ (id : TypeId). nodes_at before id.0) ids))
members_right before [] = refl
members_right before (id ∷ ids) =
    let e = known_right before id.0 in
    let es = members_right before ids in
    let both = long_in_both (nodes_at before id.0) (concat (map (λ (id : TypeId). nodes_at before id.0) ids)) in
    cc

from_right : (names : List Name) (before : List (List TypeNode)) (t : MemTy) → long_from names (map long_in before) t ≡ long_in (nodes_from names before t)
from_right names before (One t) = refl
from_right names before (Array n element) = known_right before element.0
from_right names before (Struct packed members) =
    let inner = concat (map (λ (id : TypeId). nodes_at before id.0) members) in
    members_right before members ∙ sym (or_nothing (long_in inner)) ∙ sym (long_in_both inner (closing ∷ []))
from_right names before (Named k) = sym (or_nothing (long_name (name_at names k)))

nodes_more : (names : List Name) (before : List (List TypeNode)) (ts : List MemTy) (t : MemTy) → all_nodes names before (ts ++ t ∷ []) ≡ all_nodes names before ts ++ nodes_from names (all_nodes names before ts) t ∷ []
nodes_more names before [] t = refl
nodes_more names before (u ∷ ts) t = nodes_more names (before ++ nodes_from names before u ∷ []) ts t

-- one type more
longs_more : (names : List Name) (types : List MemTy) (i : ℕ) (d : MemTy) → i < length types → longs_of names (take (i + 1) types) ≡ longs_of names (take i types) ++ long_from names (longs_of names (take i types)) (get_or types i d) ∷ []
longs_more names types i d lt =
    let before = all_nodes names [] (take i types) in
    let t = get_or types i d in
    ap (longs_of names) (take_more types i d lt) ∙ ap (map long_in) (nodes_more names [] (take i types) t) ∙ map-append long_in before (nodes_from names before t ∷ []) ∙ ap (λ long. map long_in before ++ long ∷ []) (sym (from_right names before t))

-- as the loop needs it
pub longs_pushed : (names : List Name) (types : List MemTy) (i : ℕ) (t : MemTy) (longs later : List (Option ℕ)) (long : Option ℕ) → i < length types → t ≡ get_or types i t → longs ≡ longs_of names (take i types) → long ≡ long_from names longs t → later ≡ longs ++ long ∷ [] → later ≡ longs_of names (take (i + 1) types)
longs_pushed names types i t longs later long lt this so_far found pushed =
    let known : long ≡ long_from names (longs_of names (take i types)) (get_or types i t) = found ∙ ap (λ l. long_from names l t) so_far ∙ ap (long_from names (longs_of names (take i types))) this in
    pushed ∙ ap (λ l. l ++ long ∷ []) so_far ∙ ap (λ l. longs_of names (take i types) ++ l ∷ []) known ∙ sym (longs_more names types i t lt)

-- ---- counts

sum-same : {A B : Type 0} (f : A → B) (g : B → ℕ) (h : A → ℕ) → ((x : A) → g (f x) ≡ h x) → (xs : List A) → sum_by g (map f xs) ≡ sum_by h xs
sum-same f g h e [] = refl
sum-same f g h e (x ∷ xs) = sum_by-cons g (f x) (map f xs) ∙ ap (λ n. n + sum_by g (map f xs)) (e x) ∙ ap (λ n. h x + n) (sum-same f g h e xs) ∙ sym (sum_by-cons h x xs)

module _ (t : Tables) where
  pub blocks_counted : (fs : List Function) → blocks_of (map (function_in t) fs) ≡ sum_by (λ (f : Function). length f.body) fs
  blocks_counted = sum-same (function_in t) (λ (f : FunctionTree). length f.body) (λ (f : Function). length f.body) (λ f. length-map f.body (block_in t f.names))

  block_counted : (ns : List Name) (bs : List Block) → sum_by (λ (b : BlockTree). length b.insts) (map (block_in t ns) bs) ≡ sum_by (λ (b : Block). length b.insts) bs
  block_counted ns = sum-same (block_in t ns) (λ (b : BlockTree). length b.insts) (λ (b : Block). length b.insts) (λ b. length-map b.insts (inst_in t ns))

  pub insts_counted : (fs : List Function) → instructions_of (map (function_in t) fs) ≡ sum_by (λ (f : Function). sum_by (λ (b : Block). length b.insts) f.body) fs
  insts_counted = sum-same (function_in t) (λ (f : FunctionTree). sum_by (λ (b : BlockTree). length b.insts) f.body) (λ (f : Function). sum_by (λ (b : Block). length b.insts) f.body) (λ f. block_counted f.names f.body)

-- the counts of a module's functions are those of its tree's
pub passed_same : (t : Tables) (fs : List Function) (long : Option ℕ) → above Functions 4096 (length fs) (above Blocks 65536 (sum_by (λ (f : Function). length f.body) fs) (above Instructions 1000000 (sum_by (λ (f : Function). sum_by (λ (b : Block). length b.insts) f.body) fs) (name_count long))) ≡ passed_by (map (function_in t) fs) long
passed_same t fs long = simp (length-map, blocks_counted t fs, insts_counted t fs)
