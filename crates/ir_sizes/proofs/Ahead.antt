-- What is prepared of a type that has a size below 2^61.
use Rattle.std.proofs.Common.{◌≡◌, ℕ, ◌+◌, ◌<◌, ◌≤◌, Bool, List, length, get_or, Option, Some, None, refl, sym, ap, ◌∙◌, subst, arith}
use Rattle.std.specs.Prelude.{slice_get, IsSome, All, MatchOption}
use Rattle.std.proofs.lemmas.Option.{slice_get-get_or, slice_get_within}
use Rattle.text_forms.specs.Bind.{◌>>=◌}
use Rattle.ir_types.specs.declared.memory_type.TypeId.{TypeId}
use Rattle.ir_types.specs.declared.memory_type.MemTy.{MemTy}
use Rattle.ir_types.specs.declared.memory_type.MemTy.TheVariants.{One, Array, Struct, Named}
use Rattle.ir_types.specs.declared.memory_type.TypeName.{TypeName}
use Rattle.ir_types.specs.declared.memory_type.Extent.{Extent}
use Rattle.ir_types.specs.declared.memory_type.Extent.TheVariants.{NoSize, Size}
use Rattle.ir_types.specs.Types.{IsTypeAt}
use Rattle.ir_types.specs.Offsets.{Definitions, unnamed}
use Rattle.ir_sizes.specs.Known.{extent_at, IsSized, IsSizedAt}
use Rattle.ir_sizes.specs.Definitions.{names_in, nodes_in, type_in, AreDefinitions}
use Rattle.ir_sizes.specs.Stepping.{IsSteppable, IsUnnamed, BeginsAt, IsStep}
use Rattle.ir_sizes.specs.declared.offsets.Index.{Index}
use Rattle.ir_sizes.specs.Prepared.{StepLists, LeadsTo, end_at, begin_at, ArePrepared}
use Rattle.ir_sizes.proofs.Setting.{extents_right, extents_sized, laid_there}
use Rattle.ir_sizes.proofs.PlaceNodes.{type_at}
use Rattle.ir_sizes.proofs.Agreed.{later_type}
use Rattle.ir_sizes.proofs.Places.{there}
use Rattle.ir_sizes.proofs.Leading.{leads_from, leads_within, leads_unnamed}
use Rattle.ir_sizes.proofs.Stepped.{value_step}

sized_extent : (x : Extent) → IsSteppable x → IsSized x
sized_extent NoSize h = h
sized_extent (Size s a) h = tt

pub steppable_sized : (extents : List Extent) (id : TypeId) → IsSteppable (extent_at extents id.0) → IsSizedAt extents id
steppable_sized extents id h = sized_extent (extent_at extents id.0) h

module _ (types : List MemTy) (names : List TypeName) (extents : List Extent) (steps : StepLists) (p : ArePrepared types names extents steps) where
  -- the end of a name that is a type with a size is known
  pub name_leads : (id : TypeId) (k : ℕ) (o : Option TypeId) → slice_get types id.0 ≡ Some (Named k) → IsSizedAt extents id → o ≡ end_at steps.ends k → MatchOption o ⊥ (LeadsTo types names id)
  name_leads id k (Some last) found sized e = leads_from types names id k last found (p.steps_are.first.ends.right k last (sym e))
  name_leads id k None found sized e =
      let laid = (extents_right types names extents p.extents_are).each id sized in
      let part = extents_sized types names extents p.extents_are (Named k) laid.0 (laid_there types names id (Named k) laid.0 found laid.1) in
      let some = subst IsSome (sym e) (p.steps_are.first.ends.known k part.0 part.1 part.2) in
      cc

  -- a place to which a type leads is one of a type
  pub last_within : (id last : TypeId) → LeadsTo types names id last → length types ≤ last.0 → ⊥
  last_within id last h le = let there = leads_within types names h in omega (arith, slice_get_within types last.0 there.0 there.1)

  placed : (id : TypeId) (t : MemTy) → slice_get types id.0 ≡ Some t → IsTypeAt (names_in names) (length types) t
  placed id t found = later_type (names_in names) id.0 (length types) t (omega (arith, slice_get_within types id.0 t found)) (type_at (names_in names) types id.0 t p.types_are found)

  -- where the members of a struct begin
  pub member_begins : (id : TypeId) (packed : Bool) (ids : List TypeId) (k : ℕ) → slice_get types id.0 ≡ Some (Struct packed ids) → All (IsSizedAt extents) ids → k < length ids → (bytes : ℕ) × (begin_at steps id k ≡ Some bytes) × BeginsAt types names packed ids k bytes
  member_begins id packed ids k found sized lt =
      let there = slice_get-get_or steps.starts id.0 0 (omega (arith, p.steps_are.as_many, slice_get_within types id.0 _ found)) in
      let begun = p.steps_are.first.starts.each id.0 _ (Struct packed ids) found there sized k lt in
      (begun.bytes, ap (λ (o : Option ℕ). o >>= λ start. slice_get steps.begins (start + k)) there ∙ begun.said, begun.right)

  module _ (defs : Definitions) (agree : AreDefinitions types names defs) (id last : TypeId) (h : IsSteppable (extent_at extents id.0)) (leads : IsSizedAt extents id → LeadsTo types names id last) where
    -- this type stands behind the names with which the type at the place begins
    pub record IsBehind (t : MemTy) : Type 0 where
      pub found : slice_get types last.0 ≡ Some t
      pub stands : IsTypeAt (names_in names) (length types) t
      pub is : unnamed (length names) defs (nodes_in types names id) ≡ Some (type_in types names t)

    pub type_behind : (t u : MemTy) → (last.0 < length types) × ((d : MemTy) → t ≡ get_or types last.0 d) → t ≡ u → IsBehind u
    type_behind t u at same =
        let found = there types last.0 t u at.0 at.1 same in
        let sized = sized_extent (extent_at extents id.0) h in
        let laid = (extents_right types names extents p.extents_are).each id sized in
        record { found = found; stands = placed last u found; is = leads_unnamed types names defs p.types_are agree (leads sized) u laid.0 found laid.1 }

    -- what is neither an array nor a struct has no parts
    pub no_parts : (t : MemTy) (i : Index) → IsBehind t → ((n : ℕ) (element : TypeId) → t ≡ Array n element → ⊥) → ((packed : Bool) (ids : List TypeId) → t ≡ Struct packed ids → ⊥) → IsStep types names extents defs id i None
    no_parts (One v) i b array struct = value_step types names extents defs p.types_are p.extents_are agree id i h v b.is
    no_parts (Array n element) i b array struct = absurd (array n element refl)
    no_parts (Struct packed ids) i b array struct = absurd (struct packed ids refl)
    no_parts (Named k) i b array struct =
        let t = leads_within types names (leads (sized_extent (extent_at extents id.0) h)) in
        let same : t.0 ≡ Named k = cc (t.1, b.found) in
        absurd (subst IsUnnamed same t.2)
