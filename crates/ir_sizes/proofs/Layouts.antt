-- A type has one layout at most, and its alignment is from 1 to 4096.
use Rattle.std.proofs.Common.{◌≡◌, ℕ, ◌*◌, ◌≤◌, inl, inr, min, true, false, List, [], ◌∷◌, refl, sym, ap, subst, arith, rules}
use Rattle.std.specs.List.{AllByRecursion}
use Rattle.std.proofs.Math.Nat.{mul-le-mul}
use Rattle.ir_types.specs.declared.inst.Ty.{Ty}
use Rattle.ir_types.specs.declared.inst.Ty.TheVariants.{Int, Ptr, Vector, Void}
use Rattle.ir_types.specs.declared.memory_type.MemTy.{MemTy}
use Rattle.ir_types.specs.declared.memory_type.NamedType.TheVariants.{Defined}
use Rattle.ir_types.specs.declared.memory_type.TypeName.{TypeName}
use Rattle.ir_types.specs.Types.{IsOneOf, IsType, widths, lane_counts}
use Rattle.ir_types.specs.Sizes.{Layout, Subject, a_type, at_place, IsLaid, scalar_laid, array_laid, struct_laid, named_laid, place_laid, none_laid, more_laid, value_size, greatest_align, struct_layout, SIZE_CAP}

-- from 1 to 4096
abbrev pub IsAlign : Layout → Type 0
IsAlign l = (1 ≤ l.align) × (l.align ≤ 4096)

one_of : (P : ℕ → Type 0) (xs : List ℕ) → AllByRecursion P xs → (n : ℕ) → IsOneOf xs n → P n
one_of P [] all n h = absurd h
one_of P (x ∷ xs) all n (inl e) = subst P (sym e) all.0
one_of P (x ∷ xs) all n (inr h) = one_of P xs all.1 n h

width_bound : (w : ℕ) → IsOneOf widths w → (1 ≤ w) × (w ≤ 64)
width_bound = one_of (λ w. (1 ≤ w) × (w ≤ 64)) widths (search rules)

lanes_bound : (n : ℕ) → IsOneOf lane_counts n → (1 ≤ n) × (n ≤ 512)
lanes_bound = one_of (λ w. (1 ≤ w) × (w ≤ 512)) lane_counts (search rules)

pub value_bound : (t : Ty) → IsType t → (1 ≤ value_size t) × (value_size t ≤ 4096)
value_bound (Int w) h = let b = width_bound w h in (omega arith, omega arith)
value_bound Ptr h = (omega arith, omega arith)
value_bound (Vector n w) h =
    let b = width_bound w h.1 in
    let d = lanes_bound n h.0 in
    let high : n * w ≤ 512 * 64 = mul-le-mul d.1 b.1 in
    let low : 1 * 1 ≤ n * w = mul-le-mul d.0 b.0 in
    (omega arith, omega arith)
value_bound Void h = absurd h

pub value_capped : (t : Ty) (s : ℕ) → IsType t → s ≡ value_size t → (s ≡ min (value_size t) SIZE_CAP) × (s ≡ value_size t)
value_capped t s h e = let b = value_bound t h in (omega arith, e)

greatest_bound : (ls : List Layout) → AllByRecursion IsAlign ls → (1 ≤ greatest_align ls) × (greatest_align ls ≤ 4096)
greatest_bound [] h = (omega arith, omega arith)
greatest_bound (l ∷ ls) h = let r = greatest_bound ls h.1 in (omega arith, omega arith)

module _ (types : List MemTy) (names : List TypeName) where
  pub laid_aligns : {x : Subject} {ls : List Layout} → IsLaid types names x ls → AllByRecursion IsAlign ls
  laid_aligns (scalar_laid t h) = (value_bound t h, tt)
  laid_aligns (array_laid n element l h) = ((laid_aligns h).0, tt)
  laid_aligns (struct_laid true ids ls h) = ((omega arith, omega arith), tt)
  laid_aligns (struct_laid false ids ls h) = (greatest_bound ls (laid_aligns h), tt)
  laid_aligns (named_laid k name id l e h) = laid_aligns h
  laid_aligns (place_laid id t l e h) = laid_aligns h
  laid_aligns none_laid = tt
  laid_aligns (more_laid id ids l ls h r) = ((laid_aligns h).0, laid_aligns r)

  pub laid_once : {x : Subject} {ls ks : List Layout} → IsLaid types names x ls → IsLaid types names x ks → ls ≡ ks
  laid_once (scalar_laid t h) (scalar_laid t' h') = refl
  laid_once (array_laid n element l h) (array_laid n' element' l' h') = let e = laid_once h h' in let same : l ≡ l' = cc in ap (λ (k : Layout). record { size = n * k.size; align = k.align } ∷ []) same
  laid_once (struct_laid packed ids ls h) (struct_laid packed' ids' ls' h') = ap (λ (k : List Layout). struct_layout packed k ∷ []) (laid_once h h')
  laid_once (named_laid k name id l e h) (named_laid k' name' id' l' e' h') =
      let both : ◌≡◌ {A = TypeName} (record { name = name; ty = Defined id }) (record { name = name'; ty = Defined id' }) = cc in
      let ty = ap (λ (n : TypeName). n.ty) both in
      let same : id ≡ id' = cc in
      laid_once h (subst (λ i. IsLaid types names (at_place i) (l' ∷ [])) (sym same) h')
  laid_once (place_laid id t l e h) (place_laid id' t' l' e' h') =
      let same : t ≡ t' = cc in
      laid_once h (subst (λ u. IsLaid types names (a_type u) (l' ∷ [])) (sym same) h')
  laid_once none_laid none_laid = refl
  laid_once (more_laid id ids l ls h r) (more_laid id' ids' l' ls' h' r') =
      let e = laid_once h h' in
      let more = laid_once r r' in
      cc
