-- The phis of a function that don't fit, found block by block.
use Rattle.std.proofs.Common.{◌≡◌, ℕ, suc, ◌+◌, Bool, true, false, not, cond, ◌&&◌, List, [], ◌∷◌, ◌++◌, map, filter, length, Option, Some, None, refl, sym, ap, ◌∙◌}
use Rattle.std.specs.List.{list_all}
use Rattle.std.proofs.lemmas.List.{length-map}
use Rattle.std.proofs.lemmas.List.Folds.{list_all-append}
use Rattle.ir_types.specs.declared.name.Name.{Name}
use Rattle.ir_types.specs.declared.module.Block.{Block}
use Rattle.ir_types.specs.declared.module.Function.{Function}
use Rattle.ir_types.specs.declared.module.Module.{Module}
use Rattle.ir_types.specs.Tree.{InstTree, BlockTree, FunctionTree}
use Rattle.ir_types.specs.Denotes.{Tables, tables_of, inst_in, block_in, function_in}
use Rattle.ir_rules.specs.declared.fault.Breach.{Breach}
use Rattle.ir_rules.specs.Breaches.{Found, first, inside, result_of}
use Rattle.ir_graph.specs.Edges.{predecessors}
use Rattle.ir_rules.specs.Edges.{Placed, placed_behind, placed_in, is_phi, phi_fits, wrong_phis}
use Rattle.ir_check_edges.specs.Targets.{or_else}
use Rattle.ir_check_edges.specs.Phis.{edges_fit, wrong_behind, wrong_among, wrong_in}
use Rattle.ir_check_edges.proofs.Firsts.{first_of_both}

abbrev is_wrong : FunctionTree → Placed → Bool
is_wrong f p = is_phi p.inst && not (phi_fits f p)

abbrev found_at : Placed → Found
found_at p = (result_of p.inst, p.place)

abbrev wrongs : FunctionTree → List Placed → List Found
wrongs f ps = map found_at (filter (is_wrong f) ps)

wrongs_both : (f : FunctionTree) (ps qs : List Placed) → wrongs f (ps ++ qs) ≡ wrongs f ps ++ wrongs f qs
wrongs_both f [] qs = refl
wrongs_both f (p ∷ ps) qs = by (is_wrong f p) (wrongs_both f ps qs) where
  by : (b : Bool) → wrongs f (ps ++ qs) ≡ wrongs f ps ++ wrongs f qs
      → map found_at (cond b (p ∷ filter (is_wrong f) (ps ++ qs)) (filter (is_wrong f) (ps ++ qs))) ≡ map found_at (cond b (p ∷ filter (is_wrong f) ps) (filter (is_wrong f) ps)) ++ wrongs f qs
  by true rest = ap (λ xs. found_at p ∷ xs) rest
  by false rest = rest

with_one : (is : List InstTree) (i : InstTree) → list_all is_phi (is ++ i ∷ []) ≡ (list_all is_phi is && is_phi i)
with_one is i = list_all-append is_phi is (i ∷ []) ∙ ap (λ b. list_all is_phi is && b) (by (is_phi i)) where
  by : (b : Bool) → (b && true) ≡ b
  by true = refl
  by false = refl

in_block : (f : FunctionTree) (b : BlockTree) (n : ℕ) (before is : List InstTree) → first (wrongs f (placed_behind b n before is)) ≡ wrong_behind (predecessors f b.name) (list_all is_phi before) n is
in_block f b n before [] = refl
in_block f b n before (i ∷ is) =
    let more = in_block f b (suc n) (before ++ i ∷ []) is ∙ ap (λ c. wrong_behind (predecessors f b.name) c (suc n) is) (with_one before i) in
    by (is_phi i && not (list_all is_phi before && edges_fit (predecessors f b.name) i)) more
  where
    by : (c : Bool) → first (wrongs f (placed_behind b (suc n) (before ++ i ∷ []) is)) ≡ wrong_behind (predecessors f b.name) (list_all is_phi before && is_phi i) (suc n) is
        → first (map found_at (cond c (record { place = n; block = b; before = before; inst = i } ∷ filter (is_wrong f) (placed_behind b (suc n) (before ++ i ∷ []) is)) (filter (is_wrong f) (placed_behind b (suc n) (before ++ i ∷ []) is))))
        ≡ cond c (Some (result_of i, n)) (wrong_behind (predecessors f b.name) (list_all is_phi before && is_phi i) (suc n) is)
    by true more = refl
    by false more = more

among : (f : FunctionTree) (n : ℕ) (bs : List BlockTree) → first (wrongs f (placed_in n bs)) ≡ wrong_among f n bs
among f n [] = refl
among f n (b ∷ bs) =
    ap first (wrongs_both f (placed_behind b n [] b.insts) (placed_in (n + length b.insts) bs))
    ∙ first_of_both (wrongs f (placed_behind b n [] b.insts)) (wrongs f (placed_in (n + length b.insts) bs))
    ∙ ap (λ x. or_else x (first (wrongs f (placed_in (n + length b.insts) bs)))) (in_block f b n [] b.insts)
    ∙ ap (or_else (wrong_behind (predecessors f b.name) true n b.insts)) (among f (n + length b.insts) bs)

pub first_wrong_is : (f : FunctionTree) → first (wrong_phis f) ≡ wrong_among f 0 f.body
first_wrong_is f = among f 0 f.body

-- ---- as the loops need them

first_inside : (f : Name) (xs : List Found) (o : Option Found) → first xs ≡ o → first (map (inside f) xs) ≡ elim o as (λ _. Option Breach) [ Some x ↦ Some (inside f x) | None ↦ None ]
first_inside f [] o e = ap (λ o. elim o as (λ _. Option Breach) [ Some x ↦ Some (inside f x) | None ↦ None ]) e
first_inside f (x ∷ xs) o e = ap (λ o. elim o as (λ _. Option Breach) [ Some x ↦ Some (inside f x) | None ↦ None ]) e

pub breach_is : (m : Module) (f : Function) (o : Option Found) → o ≡ wrong_among (function_in (tables_of m) f) 0 (map (block_in (tables_of m) f.names) f.body) → elim o as (λ _. Option Breach) [ Some x ↦ Some (inside f.name x) | None ↦ None ] ≡ wrong_in m f
breach_is m f o e = sym (first_inside f.name (wrong_phis (function_in (tables_of m) f)) o (first_wrong_is (function_in (tables_of m) f) ∙ sym e))

pub block_found : (f : FunctionTree) (t : Tables) (ns : List Name) (n : ℕ) (b : Block) (bs : List Block) (x : Found) (whole : Option Found) → wrong_among f n (map (block_in t ns) (b ∷ bs)) ≡ whole → Some x ≡ wrong_behind (predecessors f (block_in t ns b).name) true n (map (inst_in t ns) b.insts) → Some x ≡ whole
block_found f t ns n b bs x whole h e = ap (λ o. or_else o (wrong_among f (n + length (map (inst_in t ns) b.insts)) (map (block_in t ns) bs))) e ∙ h

pub block_passed : (f : FunctionTree) (t : Tables) (ns : List Name) (n k : ℕ) (b : Block) (bs : List Block) (whole : Option Found) → wrong_among f n (map (block_in t ns) (b ∷ bs)) ≡ whole → None ≡ wrong_behind (predecessors f (block_in t ns b).name) true n (map (inst_in t ns) b.insts) → k ≡ n + length b.insts → wrong_among f k (map (block_in t ns) bs) ≡ whole
block_passed f t ns n k b bs whole h e is =
    ap (λ j. wrong_among f j (map (block_in t ns) bs)) (is ∙ ap (λ j. n + j) (sym (length-map b.insts (inst_in t ns))))
    ∙ ap (λ o. or_else o (wrong_among f (n + length (map (inst_in t ns) b.insts)) (map (block_in t ns) bs))) e ∙ h
