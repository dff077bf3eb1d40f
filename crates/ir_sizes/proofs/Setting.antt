-- Setting an extent.
use Rattle.std.proofs.Common.{◌≡◌, ℕ, ◌<◌, ◌≤◌, List, [], ◌∷◌, Some, length, set, length-set, get_or-set_same, get_or-set_other, sym, subst, ◌∙◌, inl, inr, arith}
use Rattle.std.specs.Prelude.{slice_get}
use Rattle.std.proofs.lemmas.List.{get_or_past}
use Rattle.std.proofs.lemmas.Option.{get_or_from_slice_get, slice_get-get_or, slice_get_within}
use Rattle.std.proofs.lemmas.Bool.{cases_eq, cases_lt}
use Rattle.ir_types.specs.declared.memory_type.TypeId.{TypeId}
use Rattle.ir_types.specs.declared.memory_type.MemTy.{MemTy}
use Rattle.ir_types.specs.declared.memory_type.MemTy.TheVariants.{One}
use Rattle.ir_types.specs.declared.inst.Ty.TheVariants.{Ptr}
use Rattle.ir_types.specs.declared.memory_type.TypeName.{TypeName}
use Rattle.ir_types.specs.declared.memory_type.Extent.{Extent}
use Rattle.ir_types.specs.declared.memory_type.Extent.TheVariants.{NoSize, Size}
use Rattle.ir_types.specs.Sizes.{Layout, AreExtents, HasLayout, IsExtent, IsLaid, at_place, place_laid}
use Rattle.ir_sizes.specs.Known.{extent_at, IsSized, IsExtentOf, IsSmall, IsRight, EachIsRight, AreRight, AreSized, AreSmall, IsSettledAt}
use Rattle.ir_sizes.proofs.Layouts.{IsAlign, laid_aligns}
use Rattle.ir_sizes.proofs.Closing.{laid_met}

small_at : (x : Extent) → (IsSized x → (l : Layout) × IsAlign l × IsExtentOf l x) → IsSmall x
small_at NoSize f = tt
small_at (Size s a) f = let r = f tt in let size = r.2.0 in let align = r.2.1 in (omega arith, omega arith, omega arith)

module _ (types : List MemTy) (names : List TypeName) where
  pub right_small : (extents : List Extent) → EachIsRight types names extents → AreSmall extents
  right_small extents right i = small_at (extent_at extents i) (λ sized. let r = right (record { 0 = i }) sized in (r.0, (laid_aligns types names r.1).0, r.2))

  pub right_set : (extents : List Extent) (i : ℕ) (t : MemTy) (x : Extent) → AreRight types names extents → i < length extents → slice_get types i ≡ Some t → IsRight types names t x → AreRight types names (set extents i x)
  right_set extents i t x right within e h = record {
    as_many = length-set extents i x ∙ right.as_many;
    each = λ id sized. elim (cases_eq id.0 i) [
      | inl same ↦
          let here : extent_at (set extents i x) id.0 ≡ x = rw same (get_or-set_same extents i x NoSize within) in
          let laid = h (subst IsSized here sized) in
          (laid.0, place_laid id t laid.0 (rw same e) laid.1, subst (IsExtentOf laid.0) (sym here) laid.2)
      | inr other ↦
          let there = get_or-set_other extents i id.0 x NoSize other in
          let laid = right.each id (subst IsSized there sized) in
          (laid.0, laid.1, subst (IsExtentOf laid.0) (sym there) laid.2)
    ];
  }

  pub laid_there : (id : TypeId) (t : MemTy) (l : Layout) → slice_get types id.0 ≡ Some t → IsLaid types names (at_place id) (l ∷ []) → HasLayout types names t l
  laid_there id t l e (place_laid id' u l' f h) = let same : u ≡ t = cc in subst (λ v. HasLayout types names v l) same h

  pub extent_from : (t : MemTy) (x : Extent) → IsRight types names t x → ((l : Layout) → HasLayout types names t l → IsSized x) → IsExtent types names t x
  extent_from t NoSize right sized = sized
  extent_from t (Size s a) right sized = let laid = right tt in (laid.0, laid.1, laid.2.0, laid.2.1)

  pub settled_extents : (extents : List Extent) → AreRight types names extents → ((i : ℕ) → IsSettledAt types names extents i) → AreExtents types names extents
  settled_extents extents right settled = record {
    as_many = right.as_many;
    each = λ i t x e f.
        let here : extent_at extents i ≡ x = get_or_from_slice_get extents i x NoSize f in
        let id : TypeId = record { 0 = i } in
        extent_from t x
        (λ sized. let laid = right.each id (subst IsSized (sym here) sized) in (laid.0, laid_there id t laid.0 e laid.1, subst (IsExtentOf laid.0) here laid.2))
        (λ l h. subst IsSized here (laid_met types names extents (λ j u k g _ parts. settled j.0 u g parts) (place_laid id t l e h)));
  }

  -- ---- where the extents are those of the types

  right_from : (t : MemTy) (x : Extent) → IsExtent types names t x → IsRight types names t x
  right_from t NoSize h = λ sized. absurd sized
  right_from t (Size s a) h = λ sized. (h.0, h.1, (h.2, h.3))

  sized_from : (t : MemTy) (x : Extent) (l : Layout) → IsExtent types names t x → HasLayout types names t l → IsSized x
  sized_from t NoSize l h laid = h l laid
  sized_from t (Size s a) l h laid = tt

  sized_within : (extents : List Extent) (i : ℕ) → IsSized (extent_at extents i) → i < length extents
  sized_within extents i sized = elim (cases_lt i (length extents)) [
    | inl h ↦ h
    | inr h ↦ absurd (subst IsSized (get_or_past extents i NoSize h) sized)
  ]

  -- each extent that there is is that of its type
  module _ (extents : List Extent) (within : length extents ≤ length types) (each : (i : ℕ) (t : MemTy) (x : Extent) → slice_get types i ≡ Some t → slice_get extents i ≡ Some x → IsExtent types names t x) where
    extent_there : (i : ℕ) (t : MemTy) → i < length extents → slice_get types i ≡ Some t → IsExtent types names t (extent_at extents i)
    extent_there i t lt e = each i t (extent_at extents i) e (slice_get-get_or extents i NoSize lt)

    pub first_right : EachIsRight types names extents
    first_right id sized =
        let lt = sized_within extents id.0 sized in
        let found = slice_get-get_or types id.0 (One Ptr) (omega arith) in
        let laid = right_from _ (extent_at extents id.0) (extent_there id.0 _ lt found) sized in
        (laid.0, place_laid id _ laid.0 found laid.1, laid.2)

    pub first_sized : (id : TypeId) (l : Layout) → id.0 < length extents → IsLaid types names (at_place id) (l ∷ []) → IsSized (extent_at extents id.0)
    first_sized id l lt (place_laid id' t l' e h) = sized_from t (extent_at extents id'.0) l' (extent_there id'.0 t lt e) h

  pub extents_right : (extents : List Extent) → AreExtents types names extents → AreRight types names extents
  extents_right extents are = record { as_many = are.as_many; each = first_right extents (omega (arith, are.as_many)) are.each }

  pub extents_sized : (extents : List Extent) → AreExtents types names extents → (t : MemTy) (l : Layout) → HasLayout types names t l → AreSized names extents t
  extents_sized extents are t l h = laid_met types names extents (λ id u k e laid _. sized_from u (extent_at extents id.0) k (extent_there extents (omega (arith, are.as_many)) are.each id.0 u (omega (arith, are.as_many, slice_get_within types id.0 u e)) e) laid) h
