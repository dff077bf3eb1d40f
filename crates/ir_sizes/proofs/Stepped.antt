-- Steps by places are those by nodes.
use Rattle.std.proofs.Common.{◌≡◌, ℕ, zero, suc, ◌+◌, ◌*◌, ◌<◌, ◌≤◌, min, Bool, true, false, nat_lt, if◌then◌else◌, List, [], ◌∷◌, map, length, take, Option, Some, None, option_map, refl, sym, ap, ◌∙◌, subst, inl, inr, arith}
use Rattle.std.specs.Prelude.{slice_get, sum_by, All}
use Rattle.std.specs.List.{AllByRecursion}
use Rattle.std.proofs.lemmas.Bool.{cases_lt, le-ltb, ltb-true}
use Rattle.std.proofs.lemmas.List.{take-map}
use Rattle.std.proofs.lemmas.Option.{slice_get_past, slice_get-map}
use Rattle.text_forms.specs.Bind.{◌>>=◌}
use Rattle.text_forms.proofs.Parts.{bind_some}
use Rattle.ir_types.specs.declared.name.Name.{Name}
use Rattle.ir_types.specs.declared.inst.Ty.{Ty}
use Rattle.ir_types.specs.declared.memory_type.TypeId.{TypeId}
use Rattle.ir_types.specs.declared.memory_type.MemTy.{MemTy}
use Rattle.ir_types.specs.declared.memory_type.MemTy.TheVariants.{One, Array, Struct}
use Rattle.ir_types.specs.declared.memory_type.TypeName.{TypeName}
use Rattle.ir_types.specs.declared.memory_type.Extent.{Extent}
use Rattle.ir_types.specs.declared.memory_type.Extent.TheVariants.{NoSize, Size}
use Rattle.ir_types.specs.Types.{IsTypeAt, AreTypes}
use Rattle.ir_types.specs.Sizes.{Layout, IsLaid, at_place, array_laid, AreExtents, aligned, end_behind, greatest_align, struct_layout, SIZE_CAP}
use Rattle.ir_types.specs.TypeNodes.{TypeNode}
use Rattle.ir_types.specs.Offsets.{Definitions, Laid, layouts, layout_by, layout_of_name, layout_of, small_size, member_at, scaled, stepped_into, unnamed, counted}
use Rattle.ir_sizes.specs.Known.{extent_at, IsSized, IsSizedAt, IsExtentOf}
use Rattle.ir_sizes.specs.Put.{put_at, put}
use Rattle.ir_sizes.specs.Definitions.{names_in, nodes_in, type_in, AreDefinitions}
use Rattle.ir_sizes.specs.Stepping.{index_pair, small_extent, IsSteppable, BeginsAt, step_by, IsStep}
use Rattle.ir_sizes.specs.declared.offsets.Index.{Index}
use Rattle.ir_sizes.specs.declared.step.Step.{Step}
use Rattle.ir_sizes.proofs.Layouts.{IsAlign, laid_aligns, laid_once}
use Rattle.ir_sizes.proofs.Capping.{aligned_least}
use Rattle.ir_sizes.proofs.Setting.{extents_right, extents_sized}
use Rattle.ir_sizes.proofs.Members.{put_bound, put_natural, put_packed, put_struct}
use Rattle.ir_sizes.proofs.Cells.{laid_by, laid_split, struct_by, struct_layout_by, step_of_struct}
use Rattle.ir_sizes.proofs.PlaceNodes.{places_one}
use Rattle.ir_sizes.proofs.Agreed.{some_is, place_layout, layout_place, layout_type, members_layouts, layouts_members}
use Rattle.ir_sizes.proofs.Behind.{unnamed_there, unnamed_more, unnamed_layout}

-- ---- ends of members

abbrev IsRounded : Layout → Type 0
IsRounded l = 1 ≤ l.align

end_least : (n : ℕ) (ls : List Layout) → AllByRecursion IsRounded ls → n ≤ end_behind n ls
end_least n [] h = omega arith
end_least n (l ∷ ls) h = omega (arith, aligned_least l.align n h.0, end_least (aligned l.align n + l.size) ls h.1)

-- a member ends before all of them do
end_within : (n : ℕ) (ls : List Layout) (k : ℕ) (l : Layout) → AllByRecursion IsRounded ls → slice_get ls k ≡ Some l → aligned l.align (end_behind n (take k ls)) + l.size ≤ end_behind n ls
end_within n [] k l h e = absurd cc
end_within n (m ∷ ls) zero l h e = let same : m ≡ l = cc in rw (← same) (end_least (aligned m.align n + m.size) ls h.1)
end_within n (m ∷ ls) (suc k) l h e = end_within (aligned m.align n + m.size) ls k l h.1 e

put_rounded : (packed : Bool) (ls : List Layout) → AllByRecursion IsAlign ls → AllByRecursion IsRounded (put packed ls)
put_rounded packed [] h = tt
put_rounded packed (l ∷ ls) h = ((put_bound packed l.align h.0.0 h.0.1).0, put_rounded packed ls h.1)

greatest_low : (ls : List Layout) → 1 ≤ greatest_align ls
greatest_low [] = omega arith
greatest_low (l ∷ ls) = omega (arith, greatest_low ls)

struct_end : (packed : Bool) (ls : List Layout) → end_behind 0 (put packed ls) ≤ (struct_layout packed ls).size
struct_end packed ls =
    let size = ap (λ (l : Layout). l.size) (put_struct packed ls) in
    rw size (aligned_least (greatest_align (put packed ls)) (end_behind 0 (put packed ls)) (greatest_low (put packed ls)))

-- a member begins and ends within the struct
member_within : (packed : Bool) (ls : List Layout) (k : ℕ) (l : Layout) → AllByRecursion IsAlign ls → slice_get ls k ≡ Some l → aligned (put_at packed l.align) (end_behind 0 (put packed (take k ls))) + l.size ≤ (struct_layout packed ls).size
member_within packed ls k l h e =
    let one : Layout → Layout = λ m. record { size = m.size; align = put_at packed m.align } in
    let found = slice_get-map one ls k ∙ ap (option_map one) e in
    let within = rw (take-map one k ls) at (end_within 0 (put packed ls) k (one l) (put_rounded packed ls h) found) in
    omega (arith, within, struct_end packed ls)

lists_are : {x y : List Layout} → ◌≡◌ {A = Option (List Layout)} (Some x) (Some y) → x ≡ y
lists_are e = cc

-- ---- members that are laid

module _ (sizes : Name → Option Layout) (part : TypeId → List TypeNode) where
  laid_length : (ids : List TypeId) (xs : List Laid) → laid_by sizes (map part ids) ≡ Some xs → length xs ≡ length ids
  laid_length [] xs e = let nothing : xs ≡ [] = cc in rw nothing
  laid_length (id ∷ ids) xs e =
      let s = laid_split sizes (part id) (map part ids) xs e in
      rw s.is (ap suc (laid_length ids s.rest s.others))

  laid_at : (ids : List TypeId) (xs : List Laid) (k : ℕ) (id : TypeId) → laid_by sizes (map part ids) ≡ Some xs → slice_get ids k ≡ Some id → (l : Layout) × (slice_get xs k ≡ Some (record { nodes = part id; layout = l })) × (layout_by sizes (part id) ≡ Some l)
  laid_at [] xs k id e f = absurd cc
  laid_at (j ∷ ids) xs zero id e f =
      let s = laid_split sizes (part j) (map part ids) xs e in
      let same : j ≡ id = cc in
      rw (← same, s.is) (s.layout, refl, s.first)
  laid_at (j ∷ ids) xs (suc k) id e f =
      let s = laid_split sizes (part j) (map part ids) xs e in
      rw s.is (laid_at ids s.rest k id s.others f)

  laid_front : (ids : List TypeId) (xs : List Laid) (k : ℕ) → laid_by sizes (map part ids) ≡ Some xs → laid_by sizes (map part (take k ids)) ≡ Some (take k xs)
  laid_front ids xs zero e = refl
  laid_front [] xs (suc k) e = let nothing : xs ≡ [] = cc in rw nothing
  laid_front (id ∷ ids) xs (suc k) e =
      let s = laid_split sizes (part id) (map part ids) xs e in
      let rest = laid_front ids s.rest k s.others in
      rw (s.is, s.first, rest)

member_is : (packed : Bool) (xs : List Laid) (k : ℕ) (x : Laid) → slice_get xs k ≡ Some x → member_at packed xs k ≡ Some (aligned (put_at packed x.layout.align) (end_behind 0 (put packed (layouts (take k xs)))), x.nodes)
member_is true xs k x e =
    let sizes = sum_by (λ (l : Layout). l.size) (layouts (take k xs)) in
    let is : sizes ≡ aligned 1 (end_behind 0 (put true (layouts (take k xs)))) = omega (arith, put_packed 0 (layouts (take k xs))) in
    ap (λ (o : Option Laid). o >>= λ y. Some (sizes, y.nodes)) e ∙ ap (λ (n : ℕ). Some (n, x.nodes)) is
member_is false xs k x e =
    let last = end_behind 0 (layouts (take k xs)) in
    ap (λ (o : Option Laid). o >>= λ y. Some (aligned y.layout.align last, y.nodes)) e
    ∙ ap (λ (ls : List Layout). Some (aligned x.layout.align (end_behind 0 ls), x.nodes)) (sym (put_natural (layouts (take k xs))))

no_member : (packed : Bool) (xs : List Laid) (k : ℕ) → slice_get xs k ≡ None → member_at packed xs k ≡ None
no_member true xs k e = ap (λ (o : Option Laid). o >>= λ y. Some (sum_by (λ (l : Layout). l.size) (layouts (take k xs)), y.nodes)) e
no_member false xs k e = ap (λ (o : Option Laid). o >>= λ y. Some (aligned y.layout.align (end_behind 0 (layouts (take k xs))), y.nodes)) e

module _ (types : List MemTy) (names : List TypeName) (extents : List Extent) (defs : Definitions) (are : AreTypes (names_in names) 0 types) (sized : AreExtents types names extents) (agree : AreDefinitions types names defs) where
  abbrev sizes : Name → Option Layout
  sizes = layout_of_name defs

  abbrev nodes : TypeId → List TypeNode
  nodes id = nodes_in types names id

  -- ---- sizes

  place_sized : (id : TypeId) (l : Layout) → IsLaid types names (at_place id) (l ∷ []) → IsSizedAt extents id
  place_sized id l h = extents_sized types names extents sized (Array 1 id) (record { size = 1 * l.size; align = l.align }) (array_laid 1 id l h)

  capped_small : (s n : ℕ) → s ≡ min n SIZE_CAP → (if nat_lt s SIZE_CAP then Some s else None) ≡ (if nat_lt n SIZE_CAP then Some n else None)
  capped_small s n e = elim (cases_lt n SIZE_CAP) [
    | inl lt ↦ let same : s ≡ n = omega arith in rw same
    | inr le ↦
        let cap : s ≡ SIZE_CAP = omega arith in
        let great : nat_lt n SIZE_CAP ≡ false = le-ltb n SIZE_CAP le in
        rw (cap, great)
  ]

  pub small_agrees : (id : TypeId) → small_extent (extent_at extents id.0) ≡ small_size defs (nodes id)
  small_agrees id = by (extent_at extents id.0) refl
    where
      none : (o : Option Layout) → layout_of defs (nodes id) ≡ o → extent_at extents id.0 ≡ NoSize → None ≡ (o >>= λ l. if nat_lt l.size SIZE_CAP then Some l.size else None)
      none None e x = refl
      none (Some l) e x = absurd (subst IsSized x (place_sized id l (layout_place types names defs are agree id l e)))

      by : (x : Extent) → extent_at extents id.0 ≡ x → small_extent x ≡ small_size defs (nodes id)
      by NoSize e = none (layout_of defs (nodes id)) refl e
      by (Size s a) e =
          let right = (extents_right types names extents sized).each id (subst IsSized (sym e) tt) in
          let of : IsExtentOf right.0 (Size s a) = subst (IsExtentOf right.0) e right.2 in
          capped_small s right.0.size of.0 ∙ ap (λ (o : Option Layout). o >>= λ l. if nat_lt l.size SIZE_CAP then Some l.size else None) (sym (place_layout types names defs are agree id right.0 right.1))

  -- a layout of a small size
  pub record IsSmallLaid (of : List TypeNode) : Type 0 where
    pub layout : Layout
    pub is : layout_of defs of ≡ Some layout
    pub small : layout.size < SIZE_CAP

  small_laid : (id : TypeId) → IsSteppable (extent_at extents id.0) → IsSmallLaid (nodes id)
  small_laid id h = by (extent_at extents id.0) refl h
    where
      by : (x : Extent) → extent_at extents id.0 ≡ x → IsSteppable x → IsSmallLaid (nodes id)
      by NoSize e s = absurd s
      by (Size s a) e lt =
          let right = (extents_right types names extents sized).each id (subst IsSized (sym e) tt) in
          let of : IsExtentOf right.0 (Size s a) = subst (IsExtentOf right.0) e right.2 in
          record { layout = right.0; is = place_layout types names defs are agree id right.0 right.1; small = omega (arith, of.0) }

  small_steppable : (id : TypeId) (l : Layout) → IsLaid types names (at_place id) (l ∷ []) → l.size < SIZE_CAP → IsSteppable (extent_at extents id.0)
  small_steppable id l h lt = by (extent_at extents id.0) refl
    where
      by : (x : Extent) → extent_at extents id.0 ≡ x → IsSteppable x
      by NoSize e = subst IsSized e (place_sized id l h)
      by (Size s a) e =
          let right = (extents_right types names extents sized).each id (subst IsSized (sym e) tt) in
          let of : IsExtentOf right.0 (Size s a) = subst (IsExtentOf right.0) e right.2 in
          let both : ◌≡◌ {A = List Layout} (right.0 ∷ []) (l ∷ []) = laid_once types names right.1 h in
          let same : right.0 ≡ l = cc in
          let size = ap (λ (k : Layout). k.size) same in
          omega (arith, of.0)

  pub extent_steppable : (x : Extent) (s : ℕ) → small_extent x ≡ Some s → IsSteppable x
  extent_steppable NoSize s e = absurd cc
  extent_steppable (Size n a) s e = by (nat_lt n SIZE_CAP) refl e
    where
      by : (b : Bool) → nat_lt n SIZE_CAP ≡ b → (if b then Some n else None) ≡ Some s → n < SIZE_CAP
      by true t f = ltb-true n SIZE_CAP t
      by false t f = absurd cc

  -- ---- names

  pub unnamed_agrees : (id : TypeId) → IsSteppable (extent_at extents id.0) → unnamed (length defs) defs (nodes id) ≡ unnamed (length names) defs (nodes id)
  unnamed_agrees id h =
      let laid = small_laid id h in
      let there = unnamed_there defs (length defs) (nodes id) laid.layout laid.is in
      there.1 ∙ sym (unnamed_more defs (length defs) (length names) (nodes id) there.0 agree.as_many there.1)

  behind_small : (id : TypeId) (u : List TypeNode) → IsSteppable (extent_at extents id.0) → unnamed (length names) defs (nodes id) ≡ Some u → IsSmallLaid u
  behind_small id u h e =
      let laid = small_laid id h in
      record { layout = laid.layout; is = unnamed_layout defs (length names) (nodes id) u laid.layout e laid.is; small = laid.small }

  step_behind : (id : TypeId) (u : List TypeNode) (i : ℕ × ℕ) → IsSteppable (extent_at extents id.0) → unnamed (length names) defs (nodes id) ≡ Some u → step_by defs (nodes id) i ≡ stepped_into defs u i
  step_behind id u i h e = ap (λ (o : Option (List TypeNode)). o >>= λ v. stepped_into defs v i) (unnamed_agrees id h ∙ e)

  -- ---- structs

  module _ (packed : Bool) (ids : List TypeId) (h : IsTypeAt (names_in names) (length types) (Struct packed ids)) where
    members_step : (i : ℕ × ℕ) → stepped_into defs (type_in types names (Struct packed ids)) i ≡ (laid_by sizes (map nodes ids) >>= λ xs. counted i >>= member_at packed xs)
    members_step i = step_of_struct (λ xs. counted i >>= member_at packed xs) sizes (map nodes ids) (places_one (names_in names) types are (length types) ids (omega arith) h)

    members_sized : IsSmallLaid (type_in types names (Struct packed ids)) → All (IsSizedAt extents) ids
    members_sized laid = extents_sized types names extents sized (Struct packed ids) laid.layout (layout_type types names defs are agree (Struct packed ids) laid.layout h laid.is)

    record AreLaid (l : Layout) : Type 0 where
      laid : List Laid
      is : laid_by sizes (map nodes ids) ≡ Some laid
      whole_is : struct_layout packed (layouts laid) ≡ l

    members_laid : (l : Layout) → layout_of defs (type_in types names (Struct packed ids)) ≡ Some l → AreLaid l
    members_laid l e =
        let ones = places_one (names_in names) types are (length types) ids (omega arith) h in
        let found = bind_some (laid_by sizes (map nodes ids)) (struct_by packed) l (sym (struct_layout_by sizes packed (map nodes ids) ones) ∙ e) in
        record { laid = found.0; is = found.1; whole_is = some_is found.2 }

    -- a step by an index with this number, where it is not negative
    counted_step : (i : ℕ × ℕ) (k : Option ℕ) (m : List Laid) → laid_by sizes (map nodes ids) ≡ Some m → counted i ≡ k → stepped_into defs (type_in types names (Struct packed ids)) i ≡ (k >>= member_at packed m)
    counted_step i k m e c =
        members_step i ∙ ap (λ (o : Option (List Laid)). o >>= λ xs. counted i >>= member_at packed xs) e ∙ ap (λ (o : Option ℕ). o >>= member_at packed m) c

    no_negative : (i : ℕ × ℕ) → IsSmallLaid (type_in types names (Struct packed ids)) → counted i ≡ None → stepped_into defs (type_in types names (Struct packed ids)) i ≡ None
    no_negative i small c =
        let m = members_laid small.layout small.is in
        counted_step i None m.laid m.is c

    past_members : (i : ℕ × ℕ) (k : ℕ) → counted i ≡ Some k → IsSmallLaid (type_in types names (Struct packed ids)) → length ids ≤ k → stepped_into defs (type_in types names (Struct packed ids)) i ≡ None
    past_members i k c small past =
        let m = members_laid small.layout small.is in
        let none = slice_get_past m.laid k (omega (arith, laid_length sizes nodes ids m.laid m.is)) in
        counted_step i (Some k) m.laid m.is c ∙ no_member packed m.laid k none

    into_member : (i : ℕ × ℕ) (k bytes : ℕ) → counted i ≡ Some k → (b : BeginsAt types names packed ids k bytes) → IsSmallLaid (type_in types names (Struct packed ids)) → (stepped_into defs (type_in types names (Struct packed ids)) i ≡ Some (bytes, nodes b.id)) × IsSteppable (extent_at extents b.id.0)
    into_member i k bytes c b small =
        let m = members_laid small.layout small.is in
        let x = laid_at sizes nodes ids m.laid k b.id m.is b.found in
        let layout : x.0 ≡ b.layout = some_is (sym x.2 ∙ place_layout types names defs are agree b.id b.layout b.laid) in
        let front = laid_front sizes nodes ids m.laid k m.is in
        let before : layouts (take k m.laid) ≡ b.before.layouts = lists_are (sym (ap (λ (o : Option (List Laid)). o >>= λ xs. Some (layouts xs)) front) ∙ members_layouts types names defs are agree (take k ids) b.before.layouts b.before.laid) in
        let aligns = laid_aligns types names (layouts_members types names defs are agree ids m.laid h m.is) in
        let natural = (laid_aligns types names b.laid).0 in
        let there : slice_get (layouts m.laid) k ≡ Some b.layout = slice_get-map (λ (y : Laid). y.layout) m.laid k ∙ ap (option_map (λ (y : Laid). y.layout)) x.1 ∙ ap (λ (l : Layout). Some l) layout in
        let last = end_behind 0 (put packed b.before.layouts) in
        let align = put_at packed b.layout.align in
        let same : take k (layouts m.laid) ≡ b.before.layouts = take-map (λ (y : Laid). y.layout) k m.laid ∙ before in
        let within : aligned align last + b.layout.size ≤ (struct_layout packed (layouts m.laid)).size = rw same at (member_within packed (layouts m.laid) k b.layout aligns there) in
        let whole : (struct_layout packed (layouts m.laid)).size ≡ small.layout.size = ap (λ (l : Layout). l.size) m.whole_is in
        let low = aligned_least align last (put_bound packed b.layout.align natural.0 natural.1).0 in
        let lt = small.small in
        let is : b.last ≡ last = omega (arith, b.before.last_is, within, whole, low, lt) in
        let place : aligned (put_at packed x.0.align) (end_behind 0 (put packed (layouts (take k m.laid)))) ≡ bytes = rw (layout, before) (sym (b.bytes_is ∙ ap (aligned align) is)) in (
          counted_step i (Some k) m.laid m.is c
              ∙ member_is packed m.laid k (record { nodes = nodes b.id; layout = x.0 }) x.1
              ∙ ap (λ (n : ℕ). Some (n, nodes b.id)) place,
          small_steppable b.id b.layout b.laid (omega (arith, within, whole, lt)),
        )

  -- ---- a step of the code is one of the definition

  module _ (id : TypeId) (i : Index) (steppable : IsSteppable (extent_at extents id.0)) where
    abbrev Steps : Option Step → Type 0
    Steps step = IsStep types names extents defs id i step

    -- the type behind names is this one
    abbrev IsBehind : MemTy → Type 0
    IsBehind t = unnamed (length names) defs (nodes id) ≡ Some (type_in types names t)

    by_type : (t : MemTy) → IsBehind t → step_by defs (nodes id) (index_pair i) ≡ stepped_into defs (type_in types names t) (index_pair i)
    by_type t e = step_behind id (type_in types names t) (index_pair i) steppable e

    pub value_step : (t : Ty) → IsBehind (One t) → Steps None
    value_step t e = record { is = by_type (One t) e; small = tt }

    pub array_refused : (n : ℕ) (element : TypeId) → IsBehind (Array n element) → None ≡ small_extent (extent_at extents element.0) → Steps None
    array_refused n element e none = record {
      is = by_type (Array n element) e ∙ ap (λ (o : Option ℕ). o >>= λ s. Some (scaled s (index_pair i), nodes element)) (sym (small_agrees element) ∙ sym none);
      small = tt;
    }

    pub array_step : (n : ℕ) (element : TypeId) (s bytes : ℕ) → IsBehind (Array n element) → Some s ≡ small_extent (extent_at extents element.0) → bytes ≡ scaled s (index_pair i) → Steps (Some (record { bytes = bytes; place = element }))
    array_step n element s bytes e found is = record {
      is = by_type (Array n element) e
          ∙ ap (λ (o : Option ℕ). o >>= λ k. Some (scaled k (index_pair i), nodes element)) (sym (small_agrees element) ∙ sym found)
          ∙ ap (λ (b : ℕ). Some (b, nodes element)) (sym is);
      small = extent_steppable (extent_at extents element.0) s (sym found);
    }

    module _ (packed : Bool) (ids : List TypeId) (h : IsTypeAt (names_in names) (length types) (Struct packed ids)) (e : IsBehind (Struct packed ids)) where
      pub struct_sized : All (IsSizedAt extents) ids
      struct_sized = members_sized packed ids h (behind_small id (type_in types names (Struct packed ids)) steppable e)

      pub struct_negative : counted (index_pair i) ≡ None → Steps None
      struct_negative c = record {
        is = by_type (Struct packed ids) e ∙ no_negative packed ids h (index_pair i) (behind_small id (type_in types names (Struct packed ids)) steppable e) c;
        small = tt;
      }

      pub struct_refused : (k : ℕ) → counted (index_pair i) ≡ Some k → length ids ≤ k → Steps None
      struct_refused k c past = record {
        is = by_type (Struct packed ids) e ∙ past_members packed ids h (index_pair i) k c (behind_small id (type_in types names (Struct packed ids)) steppable e) past;
        small = tt;
      }

      pub struct_step : (k bytes : ℕ) (place : TypeId) → counted (index_pair i) ≡ Some k → (b : BeginsAt types names packed ids k bytes) → place ≡ b.id → Steps (Some (record { bytes = bytes; place = place }))
      struct_step k bytes place c b same =
          let into = into_member packed ids h (index_pair i) k bytes c b (behind_small id (type_in types names (Struct packed ids)) steppable e) in
          record {
            is = by_type (Struct packed ids) e ∙ into.0 ∙ ap (λ (p : TypeId). Some (bytes, nodes p)) (sym same);
            small = rw same into.1;
          }
