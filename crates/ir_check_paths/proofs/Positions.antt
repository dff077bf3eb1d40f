-- The places of blocks by their labels.
use Rattle.std.proofs.Common.{◌≡◌, ◌≢◌, ℕ, zero, suc, ◌+◌, ◌^◌, ◌<◌, ◌≤◌, inl, inr, List, [], ◌∷◌, length, map, get_or, set, slice_get, Option, Some, None, replicate, refl, sym, ◌∙◌, ap, subst, arith, get_or-set_same, get_or-set_other, length-set}
use Rattle.std.specs.List.{AllByRecursion}
use Rattle.std.proofs.lemmas.Bool.{cases_eq}
use Rattle.ir_types.specs.declared.module.Block.{Block}
use Rattle.ir_types.specs.declared.module.Function.{Function}
use Rattle.ir_types.specs.Names.{name_at}
use Rattle.ir_types.specs.Denotes.{block_in}
use Rattle.ir_shape.specs.Placed.{IsBlockPlaced}
use Rattle.ir_check_paths.specs.Known.{IsReady, ArePlaces}
use Rattle.ir_check_paths.proofs.Containing.{slice_get_in}

-- what holds of each, by its place
pub all_got : {A : Type 0} (P : A → Type 0) (xs : List A) (k : ℕ) (x : A) → AllByRecursion P xs → slice_get xs k ≡ Some x → P x
all_got P [] k x all e = absurd cc
all_got P (y ∷ xs) zero x all e = let same : y ≡ x = cc in subst P same all.0
all_got P (y ∷ xs) (suc k) x all e = all_got P xs k x all.1 e

pub some_same : {A : Type 0} {x y : A} → Some x ≡ Some y → x ≡ y
some_same e = cc

-- the same item of what is mapped
pub got_mapped : {A B : Type 0} (f : A → B) (xs : List A) (k : ℕ) (x : A) → slice_get xs k ≡ Some x → slice_get (map f xs) k ≡ Some (f x)
got_mapped f [] k x e = absurd cc
got_mapped f (y ∷ xs) zero x e = let same : y ≡ x = cc in ap (λ z. Some (f z)) same
got_mapped f (y ∷ xs) (suc k) x e = got_mapped f xs k x e

pub map_got : {A B : Type 0} (f : A → B) (xs : List A) (k : ℕ) (z : B) → slice_get (map f xs) k ≡ Some z → (x : A) × (slice_get xs k ≡ Some x) × (f x ≡ z)
map_got f [] k z e = absurd cc
map_got f (y ∷ xs) zero z e = (y, refl, cc)
map_got f (y ∷ xs) (suc k) z e = map_got f xs k z e

-- ---- blocks

pub label_in : (f : Function) → IsReady f → (k : ℕ) (b : Block) → slice_get f.body k ≡ Some b → b.name.0 < length f.names
label_in f r k b e = (all_got (IsBlockPlaced r.tables f.names) f.body k b r.placed.blocks e).name

pub one_block : (f : Function) → IsReady f → (j k : ℕ) (b c : Block) → slice_get f.body j ≡ Some b → slice_get f.body k ≡ Some c → b.name.0 ≡ c.name.0 → j ≡ k
one_block f r j k b c e g same =
    r.labels j k (block_in r.tables f.names b) (block_in r.tables f.names c) (got_mapped (block_in r.tables f.names) f.body j b e) (got_mapped (block_in r.tables f.names) f.body k c g) (ap (name_at f.names) same)

-- the places of the first blocks
pub record ArePlacesUpTo (n : ℕ) (f : Function) (places : List (Option ℕ)) : Type 0 where
  pub size : length places ≡ length f.names
  pub found : (k : ℕ) (b : Block) → k < n → slice_get f.body k ≡ Some b → get_or places b.name.0 None ≡ Some k
  pub only : (id k : ℕ) → get_or places id None ≡ Some k → (b : Block) × (slice_get f.body k ≡ Some b) × (b.name.0 ≡ id)

get_or-replicate_any : {A : Type 0} (n i : ℕ) (a : A) → get_or (replicate n a) i a ≡ a
get_or-replicate_any zero i a = refl
get_or-replicate_any (suc n) zero a = refl
get_or-replicate_any (suc n) (suc i) a = get_or-replicate_any n i a

pub no_places : (f : Function) (places : List (Option ℕ)) (n : ℕ) → n ≡ length f.names → length places ≡ n → places ≡ replicate n None → ArePlacesUpTo 0 f places
no_places f places n size len e = record {
  size = len ∙ size;
  found = λ k b lt. absurd (omega arith);
  only = λ id k h. absurd (let g : get_or places id None ≡ None = rw e (get_or-replicate_any n id None) in cc);
}

pub places_more : (n : ℕ) (f : Function) (places : List (Option ℕ)) (b : Block) → IsReady f → slice_get f.body n ≡ Some b → ArePlacesUpTo n f places → ArePlacesUpTo (n + 1) f (set places b.name.0 (Some n))
places_more n f places b r e p =
    let within : b.name.0 < length places = omega (arith, label_in f r n b e, p.size) in
    record {
      size = length-set places b.name.0 (Some n) ∙ p.size;
      found = λ k c lt at. elim (cases_eq b.name.0 c.name.0) [
        | inl same ↦ let k_is : n ≡ k = one_block f r n k b c e at same in subst (λ x. get_or (set places b.name.0 (Some n)) x None ≡ Some k) same (get_or-set_same places b.name.0 (Some n) None within ∙ ap (λ x. Some x) k_is)
        | inr other ↦
            let ne : n ≢ k = λ s. other (let g : b ≡ c = some_same (sym e ∙ ap (λ x. slice_get f.body x) s ∙ at) in ap (λ (x : Block). x.name.0) g) in
            get_or-set_other places b.name.0 c.name.0 (Some n) None (λ s. other (sym s)) ∙ p.found k c (omega arith) at
      ];
      only = λ id k h. elim (cases_eq b.name.0 id) [
        | inl same ↦ let v : Some n ≡ Some k = sym (get_or-set_same places b.name.0 (Some n) None within) ∙ ap (λ x. get_or (set places b.name.0 (Some n)) x None) same ∙ h in
            let k_is : n ≡ k = cc in (b, subst (λ x. slice_get f.body x ≡ Some b) k_is e, same)
        | inr other ↦ p.only id k (sym (get_or-set_other places b.name.0 id (Some n) None (λ s. other (sym s))) ∙ h)
      ];
    }

pub all_places : (n : ℕ) (f : Function) (places : List (Option ℕ)) → length f.body ≤ n → ArePlacesUpTo n f places → ArePlaces f places
all_places n f places le p = record {
  size = p.size;
  found = λ k b e. p.found k b (omega (arith, slice_get_in f.body k b e)) e;
  only = p.only;
}
