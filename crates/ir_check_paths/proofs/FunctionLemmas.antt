-- What is found of a function's uses.
use Rattle.std.proofs.Common.{◌≡◌, ℕ, zero, suc, ◌+◌, ◌≤◌, List, [], ◌∷◌, ◌++◌, length, map, drop, slice_get, Option, Some, None, refl, sym, ◌∙◌, ap, subst, arith}
use Rattle.std.proofs.lemmas.List.{at_drop_all, append_assoc, length-map}
use Rattle.ir_types.specs.declared.name.ValueId.{ValueId}
use Rattle.ir_types.specs.declared.module.Block.{Block}
use Rattle.ir_types.specs.declared.module.Function.{Function}
use Rattle.ir_types.specs.Tree.{FunctionTree}
use Rattle.ir_types.specs.Denotes.{Tables, inst_in, block_in, function_in}
use Rattle.ir_rules.specs.Edges.{Placed, placed_behind, placed_in}
use Rattle.ir_rules.specs.Available.{LocalUse, uses_by, IsUnavailable}
use Rattle.ir_check_paths.specs.Uses.{Finds, nothing}
use Rattle.ir_check_paths.specs.Finding.{IsUseFound, uses_of, FindsIn, FindsFirst}
use Rattle.ir_check_paths.proofs.FindsLemmas.{finds_on, finds_first}

-- what is found of the blocks from a number on, the first instruction of which has another number
pub FindsBehind : Function → (number start : ℕ) → Option (ValueId × ℕ) → Type 0
FindsBehind f number start o = (t : Tables) → Finds (IsUnavailable (function_in t f)) (IsUseFound f.names) (uses_of (function_in t f) (placed_in start (map (block_in t f.names) (drop number f.body)))) o

-- what is found of the rest is found of all
pub record FunctionRest (f : Function) (number start : ℕ) : Type 0 where
  pub rest : (o : Option (ValueId × ℕ)) → FindsBehind f number start o → FindsFirst f o

pub function_start : (f : Function) → FunctionRest f 0 0
unfolding FindsBehind
function_start f = record { rest = λ o h. h }

uses_parts : (f : FunctionTree) (ps qs : List Placed) → uses_of f (ps ++ qs) ≡ uses_of f ps ++ uses_of f qs
uses_parts f [] qs = refl
uses_parts f (p ∷ ps) qs = ap (λ (xs : List LocalUse). uses_by f p p.inst.kind ++ xs) (uses_parts f ps qs) ∙ sym (append_assoc (uses_by f p p.inst.kind) (uses_of f ps) (uses_of f qs))

pub drop_got : {A : Type 0} (xs : List A) (n : ℕ) (x : A) → slice_get xs n ≡ Some x → drop n xs ≡ x ∷ drop (n + 1) xs
drop_got [] n x e = absurd cc
drop_got (y ∷ ys) zero x e = cc
drop_got (y ∷ ys) (suc n) x e = let step : suc n + 1 ≡ suc (n + 1) = omega arith in drop_got ys n x e ∙ ap (λ k. x ∷ drop k (y ∷ ys)) (sym step)

split_blocks : (f : Function) (number start : ℕ) (b : Block) → slice_get f.body number ≡ Some b → (t : Tables) → uses_of (function_in t f) (placed_in start (map (block_in t f.names) (drop number f.body)))
    ≡ uses_of (function_in t f) (placed_behind (block_in t f.names b) start [] (map (inst_in t f.names) b.insts)) ++ uses_of (function_in t f) (placed_in (start + length b.insts) (map (block_in t f.names) (drop (number + 1) f.body)))
split_blocks f number start b at t =
    let more : ℕ → List Placed = λ k. placed_in k (map (block_in t f.names) (drop (number + 1) f.body)) in
    let own : List Placed = placed_behind (block_in t f.names b) start [] (map (inst_in t f.names) b.insts) in
    ap (λ (xs : List Block). uses_of (function_in t f) (placed_in start (map (block_in t f.names) xs))) (drop_got f.body number b at)
    ∙ (uses_parts (function_in t f) own (more (start + length (map (inst_in t f.names) b.insts)))
    ∙ ap (λ (k : ℕ). uses_of (function_in t f) own ++ uses_of (function_in t f) (more (start + k))) (length-map b.insts (inst_in t f.names)))

pub function_more : (f : Function) (number start : ℕ) (b : Block) (n : Option (ValueId × ℕ)) → slice_get f.body number ≡ Some b → n ≡ None → FindsIn f b start n → FunctionRest f number start → FunctionRest f (number + 1) (start + length b.insts)
unfolding FindsBehind
function_more f number start b n at none h r = record {
  rest = λ o k. r.rest o (λ t.
      let P : List LocalUse → Type 0 = λ xs. Finds (IsUnavailable (function_in t f)) (IsUseFound f.names) xs o in
      subst P (sym (split_blocks f number start b at t)) (finds_on _ _ _ _ o n none (h t) (k t)));
}

pub function_stop : (f : Function) (number start : ℕ) (b : Block) (o : Option (ValueId × ℕ)) (y : ValueId × ℕ) → slice_get f.body number ≡ Some b → o ≡ Some y → FindsIn f b start o → FunctionRest f number start → FindsFirst f o
unfolding FindsBehind
function_stop f number start b o y at some h r = r.rest o (λ t.
    let P : List LocalUse → Type 0 = λ xs. Finds (IsUnavailable (function_in t f)) (IsUseFound f.names) xs o in
    subst P (sym (split_blocks f number start b at t)) (finds_first _ _ _ _ o y some (h t)))

pub function_end : (f : Function) (number start : ℕ) → length f.body ≤ number → FunctionRest f number start → FindsFirst f None
unfolding FindsBehind
function_end f number start le r = r.rest None (λ t.
    let P : List Block → Type 0 = λ xs. Finds (IsUnavailable (function_in t f)) (IsUseFound f.names) (uses_of (function_in t f) (placed_in start (map (block_in t f.names) xs))) None in
    subst P (sym (at_drop_all (λ (xs : List Block). xs) f.body number le)) nothing)
