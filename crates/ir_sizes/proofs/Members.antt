-- The members of a struct that were laid so far, and one more.
use Rattle.std.proofs.Common.{◌≡◌, ℕ, ◌+◌, ◌<◌, ◌≤◌, length, take, get_or, subst, max, min, Bool, true, false, List, [], ◌∷◌, ◌++◌, refl, sym, ap, ◌∙◌, arith}
use Rattle.std.specs.Prelude.{sum_by}
use Rattle.std.proofs.lemmas.List.{take_more}
use Rattle.std.proofs.lemmas.List.Sums.{sum_by-cons}
use Rattle.ir_types.specs.declared.memory_type.TypeId.{TypeId}
use Rattle.ir_types.specs.declared.memory_type.MemTy.{MemTy}
use Rattle.ir_types.specs.declared.memory_type.MemTy.TheVariants.{Struct}
use Rattle.ir_types.specs.declared.memory_type.TypeName.{TypeName}
use Rattle.ir_types.specs.declared.memory_type.Extent.TheVariants.{Size}
use Rattle.ir_types.specs.Sizes.{Layout, IsLaid, struct_laid, none_laid, more_laid, at_place, members, aligned, end_behind, greatest_align, struct_layout, SIZE_CAP}
use Rattle.ir_types.specs.declared.memory_type.Extent.{Extent}
use Rattle.ir_sizes.specs.Known.{extent_at, IsSized, IsSizedAt, IsExtentOf, IsRight, EachIsRight}
use Rattle.ir_sizes.specs.Put.{put_at, put, EndAt}
use Rattle.ir_sizes.proofs.Layouts.{laid_aligns}
use Rattle.ir_sizes.proofs.Capping.{capped_member, capped_end}

pub put_bound : (packed : Bool) (a : ℕ) → 1 ≤ a → a ≤ 4096 → (1 ≤ put_at packed a) × (put_at packed a ≤ 4096)
put_bound true a low high = (omega arith, omega arith)
put_bound false a low high = (low, high)

end_push : (n : ℕ) (ls : List Layout) (l : Layout) → end_behind n (ls ++ l ∷ []) ≡ aligned l.align (end_behind n ls) + l.size
end_push n [] l = refl
end_push n (k ∷ ls) l = end_push (aligned k.align n + k.size) ls l

greatest_push : (ls : List Layout) (l : Layout) → greatest_align (ls ++ l ∷ []) ≡ max l.align (greatest_align ls)
greatest_push [] l = refl
greatest_push (k ∷ ls) l = let h = greatest_push ls l in omega arith

put_push : (packed : Bool) (ls : List Layout) (l : Layout) → put packed (ls ++ l ∷ []) ≡ put packed ls ++ record { size = l.size; align = put_at packed l.align } ∷ []
put_push packed [] l = refl
put_push packed (k ∷ ls) l = ap (λ (r : List Layout). record { size = k.size; align = put_at packed k.align } ∷ r) (put_push packed ls l)

pub put_natural : (ls : List Layout) → put false ls ≡ ls
put_natural [] = refl
put_natural (l ∷ ls) = ap (λ (r : List Layout). l ∷ r) (put_natural ls)

pub put_packed : (n : ℕ) (ls : List Layout) → end_behind n (put true ls) ≡ n + sum_by (λ (l : Layout). l.size) ls
put_packed n [] = omega arith
put_packed n (l ∷ ls) =
    let sizes = sum_by (λ (k : Layout). k.size) ls in
    let e : (aligned 1 n + l.size) + sizes ≡ n + (l.size + sizes) = omega arith in
    put_packed (aligned 1 n + l.size) ls ∙ (e ∙ ap (λ (s : ℕ). n + s) (sym (sum_by-cons (λ (k : Layout). k.size) l ls)))

greatest_packed : (ls : List Layout) → greatest_align (put true ls) ≡ 1
greatest_packed [] = refl
greatest_packed (l ∷ ls) = let h = greatest_packed ls in omega arith

-- a packed struct is one whose members are put anywhere
pub put_struct : (packed : Bool) (ls : List Layout) → struct_layout packed ls ≡ struct_layout false (put packed ls)
put_struct true ls =
    let sizes = sum_by (λ (k : Layout). k.size) ls in
    let e : sizes ≡ aligned 1 (0 + sizes) = omega arith in
    rw (greatest_packed ls, put_packed 0 ls) (ap (λ (s : ℕ). let l : Layout = record { size = s; align = 1 } in l) e)
put_struct false ls = ap (struct_layout false) (sym (put_natural ls))

module _ (types : List MemTy) (names : List TypeName) where
  laid_push : (ids : List TypeId) (ls : List Layout) (id : TypeId) (l : Layout) → IsLaid types names (members ids) ls → IsLaid types names (at_place id) (l ∷ []) → IsLaid types names (members (ids ++ id ∷ [])) (ls ++ l ∷ [])
  laid_push ids ls id l none_laid h = more_laid id [] l [] h none_laid
  laid_push ids ls id l (more_laid j js k ks g r) h = more_laid j (js ++ id ∷ []) k (ks ++ l ∷ []) g (laid_push js ks id l r h)

  pub end_none : (packed : Bool) → EndAt types names packed [] 0 1
  end_none packed = record { layouts = []; laid = none_laid; last_is = refl; align_is = refl }

  pub end_more : (packed : Bool) (ids : List TypeId) (last align : ℕ) (id : TypeId) (l : Layout) (s : ℕ) → 1 ≤ put_at packed l.align → EndAt types names packed ids last align → IsLaid types names (at_place id) (l ∷ []) → s ≡ min l.size SIZE_CAP → EndAt types names packed (ids ++ id ∷ []) (min (aligned (put_at packed l.align) last + s) SIZE_CAP) (max (put_at packed l.align) align)
  end_more packed ids last align id l s low e h is = record {
    layouts = e.layouts ++ l ∷ [];
    laid = laid_push ids e.layouts id l e.laid h;
    last_is = rw (put_push packed e.layouts l, end_push 0 (put packed e.layouts), e.last_is, is) (sym (capped_member (put_at packed l.align) (end_behind 0 (put packed e.layouts)) l.size SIZE_CAP low));
    align_is = rw (put_push packed e.layouts l, greatest_push (put packed e.layouts), e.align_is);
  }

  -- the next member, whose extent is set and right
  pub end_next : (extents : List Extent) (packed : Bool) (ids : List TypeId) (i : ℕ) (d : TypeId) (last align s a : ℕ) → EachIsRight types names extents → i < length ids → EndAt types names packed (take i ids) last align → Size s a ≡ extent_at extents (get_or ids i d).0 → EndAt types names packed (take (i + 1) ids) (min (aligned (put_at packed a) last + s) SIZE_CAP) (max (put_at packed a) align)
  end_next extents packed ids i d last align s a right h e is =
      let id = get_or ids i d in
      let sized : IsSizedAt extents id = subst IsSized is tt in
      let found = right id sized in
      let of : IsExtentOf found.0 (Size s a) = subst (IsExtentOf found.0) (sym is) found.2 in
      let natural = (laid_aligns types names found.1).0 in
      let low = (put_bound packed found.0.align natural.0 natural.1).0 in
      let more = end_more packed (take i ids) last align id found.0 s low e found.1 of.0 in
      rw (of.1, take_more ids i d h) more

  pub end_all : (packed : Bool) (ids : List TypeId) (last align : ℕ) → 1 ≤ align → EndAt types names packed ids last align → IsRight types names (Struct packed ids) (Size (min (aligned align last) SIZE_CAP) align)
  end_all packed ids last align low e = λ u. (
    struct_layout packed e.layouts,
    struct_laid packed ids e.layouts e.laid,
    let x = put_struct packed e.layouts in
        let size = ap (λ (l : Layout). l.size) x in
        let align = ap (λ (l : Layout). l.align) x in
        (rw (size, e.last_is, e.align_is) (sym (capped_end (greatest_align (put packed e.layouts)) (end_behind 0 (put packed e.layouts)) SIZE_CAP (omega arith))), e.align_is ∙ sym align),
  )
