-- Where members begin that are put behind others.
use Rattle.std.proofs.Common.{◌≡◌, ℕ, ◌+◌, ◌<◌, Bool, List, [], ◌∷◌, ◌++◌, length, length-append, take, get_or, Some, sym, ap, ◌∙◌, subst, inl, inr, arith}
use Rattle.std.specs.Prelude.{slice_get}
use Rattle.std.proofs.lemmas.Bool.{cases_lt}
use Rattle.std.proofs.lemmas.Option.{slice_get-get_or, slice_get_within}
use Rattle.text_forms.specs.View.{Extends}
use Rattle.ir_types.specs.declared.memory_type.TypeId.{TypeId}
use Rattle.ir_types.specs.declared.memory_type.MemTy.{MemTy}
use Rattle.ir_types.specs.declared.memory_type.MemTy.TheVariants.{One, Array, Struct, Named}
use Rattle.ir_types.specs.declared.memory_type.TypeName.{TypeName}
use Rattle.ir_types.specs.declared.memory_type.Extent.{Extent}
use Rattle.ir_types.specs.declared.memory_type.Extent.TheVariants.{Size}
use Rattle.ir_types.specs.Sizes.{aligned}
use Rattle.ir_sizes.specs.Known.{extent_at, IsSized, IsExtentOf, EachIsRight}
use Rattle.ir_sizes.specs.Put.{put_at, EndAt}
use Rattle.ir_sizes.specs.Stepping.{BeginsAt}
use Rattle.ir_sizes.specs.Prepared.{IsBegun, AreBegun, AreStarts}
use Rattle.ir_sizes.proofs.Pushing.{got_before, got_last}
use Rattle.ir_sizes.proofs.Staying.{got_in_front}

module _ (types : List MemTy) (names : List TypeName) where
  -- what was said stays
  pub begun_stays : (packed : Bool) (ids : List TypeId) (begins new : List ℕ) (start k : ℕ) → Extends begins new → IsBegun types names packed ids begins start k → IsBegun types names packed ids new start k
  begun_stays packed ids begins new start k x b = record {
    bytes = b.bytes;
    said = subst (λ (bs : List ℕ). slice_get bs (start + k) ≡ Some b.bytes) (sym x.parts) (got_in_front begins x.more (start + k) b.bytes b.said);
    right = b.right;
  }

  -- the next member, whose extent is known, begins behind the end of those before it
  pub begins_next : (extents : List Extent) (packed : Bool) (ids : List TypeId) (k : ℕ) (d : TypeId) (last align s a bytes : ℕ) → EachIsRight types names extents → k < length ids → EndAt types names packed (take k ids) last align → Size s a ≡ extent_at extents (get_or ids k d).0 → bytes ≡ aligned (put_at packed a) last → BeginsAt types names packed ids k bytes
  begins_next extents packed ids k d last align s a bytes right lt e is b =
      let id = get_or ids k d in
      let part = right id (subst IsSized is tt) in
      let of : IsExtentOf part.0 (Size s a) = subst (IsExtentOf part.0) (sym is) part.2 in
      record {
        last = last;
        align = align;
        before = e;
        id = id;
        found = slice_get-get_or ids k d lt;
        layout = part.0;
        laid = part.1;
        bytes_is = b ∙ ap (λ (n : ℕ). aligned (put_at packed n) last) of.1;
      }

  -- one member more
  pub begun_next : (packed : Bool) (ids : List TypeId) (begins new : List ℕ) (start n bytes : ℕ) → length begins ≡ start + n → new ≡ begins ++ bytes ∷ [] → BeginsAt types names packed ids n bytes → ((k : ℕ) → k < n → IsBegun types names packed ids begins start k) → (k : ℕ) → k < n + 1 → IsBegun types names packed ids new start k
  begun_next packed ids begins new start n bytes count is next before k lt = elim (cases_lt k n) [
    | inl less ↦ begun_stays packed ids begins new start k (record { more = bytes ∷ []; parts = is }) (before k less)
    | inr le ↦
        let here : k ≡ n = omega arith in
        record {
          bytes = bytes;
          said = rw is (got_last begins bytes (start + k) (omega (arith, count)));
          right = subst (λ (i : ℕ). BeginsAt types names packed ids i bytes) (sym here) next;
        }
  ]

  type_stays : (extents : List Extent) (begins new : List ℕ) (start : ℕ) (t : MemTy) → Extends begins new → AreBegun types names extents begins start t → AreBegun types names extents new start t
  type_stays extents begins new start (One t) x b = tt
  type_stays extents begins new start (Array n element) x b = tt
  type_stays extents begins new start (Struct packed ids) x b = λ sized k lt. begun_stays packed ids begins new start k x (b sized k lt)
  type_stays extents begins new start (Named k) x b = tt

  pub no_starts : (extents : List Extent) (starts begins : List ℕ) → starts ≡ [] → AreStarts types names extents starts begins
  no_starts extents starts begins e = rw e (record { within = omega arith; each = λ i start t f g. cc })

  -- one type more, whose members' begins stand behind the others
  pub one_start_more : (extents : List Extent) (starts begins new : List ℕ) (start : ℕ) (t : MemTy) → AreStarts types names extents starts begins → Extends begins new → slice_get types (length starts) ≡ Some t → AreBegun types names extents new start t → AreStarts types names extents (starts ++ start ∷ []) new
  one_start_more extents starts begins new start t are x found begun = record {
    within = omega (arith, length-append starts (start ∷ []), slice_get_within types (length starts) t found);
    each = λ i s u e f. elim (cases_lt i (length starts)) [
      | inl lt ↦ type_stays extents begins new s u x (are.each i s u e (sym (got_before starts (start ∷ []) i lt) ∙ f))
      | inr le ↦
          let here : i ≡ length starts = omega (arith, slice_get_within (starts ++ start ∷ []) i s f, length-append starts (start ∷ [])) in
          let same_start : start ≡ s = cc (got_last starts start i here) in
          let same_type : t ≡ u = cc in
          subst (λ (n : ℕ). AreBegun types names extents new n u) same_start (subst (AreBegun types names extents new start) same_type begun)
    ];
  }
