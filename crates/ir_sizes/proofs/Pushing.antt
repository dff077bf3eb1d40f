-- One extent more, behind those of the types before.
use Rattle.std.proofs.Common.{◌≡◌, ℕ, zero, suc, ◌<◌, ◌≤◌, List, [], ◌∷◌, ◌++◌, Some, length, length-append, refl, sym, ◌∙◌, subst, inl, inr, arith}
use Rattle.std.specs.Prelude.{slice_get, All}
use Rattle.std.specs.List.{AllByRecursion}
use Rattle.std.proofs.lemmas.Bool.{cases_lt}
use Rattle.std.proofs.lemmas.List.Elements.{All-nil, All-cons}
use Rattle.std.proofs.lemmas.Option.{slice_get_within}
use Rattle.ir_types.specs.declared.name.Name.{Name}
use Rattle.ir_types.specs.declared.memory_type.TypeId.{TypeId}
use Rattle.ir_types.specs.declared.memory_type.MemTy.{MemTy}
use Rattle.ir_types.specs.declared.memory_type.MemTy.TheVariants.{One, Array, Struct, Named}
use Rattle.ir_types.specs.declared.memory_type.TypeName.{TypeName}
use Rattle.ir_types.specs.declared.memory_type.Extent.{Extent}
use Rattle.ir_types.specs.Types.{IsBefore, IsTypeAt}
use Rattle.ir_types.specs.Sizes.{Layout, AreExtents, HasLayout, IsLaid, members, array_laid, struct_laid, named_laid, more_laid, IsExtent}
use Rattle.ir_sizes.specs.Known.{IsSized, IsSizedAt, IsRight, AreSized, AreFirstExtents}
use Rattle.ir_sizes.proofs.Setting.{extent_from, first_sized}

pub got_before : {A : Type 0} (xs ys : List A) (i : ℕ) → i < length xs → slice_get (xs ++ ys) i ≡ slice_get xs i
got_before [] ys i lt = absurd (omega arith)
got_before (x ∷ xs) ys zero lt = refl
got_before (x ∷ xs) ys (suc i) lt = got_before xs ys i (omega arith)

pub got_last : {A : Type 0} (xs : List A) (x : A) (i : ℕ) → i ≡ length xs → slice_get (xs ++ x ∷ []) i ≡ Some x
got_last [] x i e = rw e refl
got_last (y ∷ xs) x zero e = absurd (omega arith)
got_last (y ∷ xs) x (suc i) e = got_last xs x i (omega arith)

module _ (types : List MemTy) (names : List TypeName) (extents : List Extent) (first : AreFirstExtents types names extents) where
  members_sized : (ids : List TypeId) (ls : List Layout) → AllByRecursion (IsBefore (length extents)) ids → IsLaid types names (members ids) ls → All (IsSizedAt extents) ids
  members_sized [] ls h laid = All-nil (IsSizedAt extents)
  members_sized (id ∷ ids) ls h (more_laid id' ids' l ls' g r) = All-cons (IsSizedAt extents) id' ids' (first_sized types names extents first.within first.each id' l h.0 g) (members_sized ids' ls' h.1 r)

  -- the parts of a type that is laid have sizes
  pub parts_sized : (ns : List Name) (t : MemTy) (l : Layout) → IsTypeAt ns (length extents) t → HasLayout types names t l → AreSized names extents t
  parts_sized ns (One t) l h laid = h
  parts_sized ns (Array n element) l h (array_laid n' element' l' g) = first_sized types names extents first.within first.each element' l' h g
  parts_sized ns (Struct packed ids) l h (struct_laid packed' ids' ls g) = members_sized ids' ls h g
  parts_sized ns (Named k) l h (named_laid k' name id l' e g) = (id, (name, e), first_sized types names extents first.within first.each id l' (first.defined k' id (name, e)) g)

  pub one_extent_more : (t : MemTy) (x : Extent) → slice_get types (length extents) ≡ Some t → IsRight types names t x → ((l : Layout) → HasLayout types names t l → IsSized x) → AreFirstExtents types names (extents ++ x ∷ [])
  one_extent_more t x found right sized =
      let count = length-append extents (x ∷ []) in
      record {
        within = omega (arith, slice_get_within types (length extents) t found);
        defined = λ k id d. omega (arith, first.defined k id d);
        each = λ i u y e f. elim (cases_lt i (length extents)) [
          | inl lt ↦ first.each i u y e (sym (got_before extents (x ∷ []) i lt) ∙ f)
          | inr le ↦
              let here : i ≡ length extents = omega (arith, slice_get_within (extents ++ x ∷ []) i y f) in
              let same_extent : x ≡ y = cc (got_last extents x i here) in
              let same_type : t ≡ u = cc in
              subst (λ v. IsExtent types names v y) same_type (subst (IsExtent types names t) same_extent (extent_from types names t x right sized))
        ];
      }

  -- there is one for each type
  pub all_extents : length types ≤ length extents → AreExtents types names extents
  all_extents le = record { as_many = omega (arith, first.within); each = first.each }
