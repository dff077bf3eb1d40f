-- Where types lead through names.
use Rattle.std.proofs.Common.{◌≡◌, ℕ, suc, ◌+◌, ◌<◌, List, [], ◌∷◌, ◌++◌, map, length, set, length-set, get_or-set_same, get_or-set_other, Option, Some, None, sym, ap, ◌∙◌, subst, inl, inr, arith}
use Rattle.std.specs.Prelude.{slice_get}
use Rattle.std.proofs.lemmas.Bool.{cases_eq}
use Rattle.std.proofs.lemmas.List.{append-nil}
use Rattle.ir_types.specs.declared.memory_type.TypeId.{TypeId}
use Rattle.ir_types.specs.declared.memory_type.MemTy.{MemTy}
use Rattle.ir_types.specs.declared.memory_type.MemTy.TheVariants.{Named}
use Rattle.ir_types.specs.declared.memory_type.TypeName.{TypeName}
use Rattle.ir_types.specs.Types.{AreTypes}
use Rattle.ir_types.specs.Sizes.{Layout, IsLaid, at_place}
use Rattle.ir_types.specs.TypeNodes.{TypeNode}
use Rattle.ir_types.specs.Offsets.{Definitions, unnamed}
use Rattle.ir_sizes.specs.Known.{IsDefined}
use Rattle.ir_sizes.specs.Definitions.{names_in, nodes_in, type_in, definition_of, AreDefinitions}
use Rattle.ir_sizes.specs.Stepping.{IsUnnamed}
use Rattle.ir_sizes.specs.Prepared.{LeadsTo, no_name, by_name, IsEndOf, end_at, AreEnds}
use Rattle.ir_sizes.proofs.Agreed.{place_layout}
use Rattle.ir_sizes.proofs.Behind.{unnamed_there, unnamed_more, unnamed_here, unnamed_next}
use Rattle.ir_sizes.proofs.Defining.{known_definitions}
use Rattle.ir_sizes.proofs.Staying.{got_in_front}

-- where there are nodes, it isn't so that there are none
pub some_nodes : {o : Option (List TypeNode)} → o ≡ None → (u : List TypeNode) × (o ≡ Some u) → ⊥
some_nodes none some = let e = some.1 in cc

module _ (types : List MemTy) (names : List TypeName) where
  -- a type that begins with a name leads where that leads
  pub leads_next : {id last : TypeId} → LeadsTo types names id last → (k : ℕ) → slice_get types id.0 ≡ Some (Named k) → IsEndOf types names k last
  leads_next (no_name id t e h) k f = let same : t ≡ Named k = cc in absurd (subst IsUnnamed same h)
  leads_next (by_name id j next last e d h) k f =
      let same : j ≡ k = cc in
      record { id = next; defined = subst (λ (n : ℕ). IsDefined names n next) same d; leads = h }

  pub leads_from : (id : TypeId) (k : ℕ) (last : TypeId) → slice_get types id.0 ≡ Some (Named k) → IsEndOf types names k last → LeadsTo types names id last
  leads_from id k last e h = by_name id k h.id last e h.defined h.leads

  -- it leads to a type that is no name
  pub leads_within : {id last : TypeId} → LeadsTo types names id last → (t : MemTy) × (slice_get types last.0 ≡ Some t) × IsUnnamed t
  leads_within (no_name id t e h) = (t, e, h)
  leads_within (by_name id k next last e d h) = leads_within h

  -- and there too when types and names are added
  pub leads_more : (more : List MemTy) (missing : List TypeName) {id last : TypeId} → LeadsTo types names id last → LeadsTo (types ++ more) (names ++ missing) id last
  leads_more more missing (no_name id t e h) = no_name id t (got_in_front types more id.0 t e) h
  leads_more more missing (by_name id k next last e d h) =
      by_name id k next last (got_in_front types more id.0 _ e) (d.0, got_in_front names missing k _ d.1) (leads_more more missing h)

  -- ---- the end of one name more

  pub end_set : (ends : List (Option TypeId)) (k : ℕ) (last : TypeId) → k < length ends → AreEnds types names ends → IsEndOf types names k last → AreEnds types names (set ends k (Some last))
  end_set ends k last within are h = record {
    as_many = length-set ends k (Some last) ∙ are.as_many;
    each = λ j to e. elim (cases_eq j k) [
      | inl same ↦
          let here : end_at (set ends k (Some last)) j ≡ Some last = rw same (get_or-set_same ends k (Some last) None within) in
          let is : last ≡ to = cc (sym here ∙ e) in
          rw (same, sym is) h
      | inr other ↦ are.each j to (sym (get_or-set_other ends k j (Some last) None other) ∙ e)
    ];
  }

  -- ---- nodes

  -- the definitions of the names
  abbrev pub own : Definitions
  own = map (definition_of types names) names

  pub own_definitions : AreDefinitions types names own
  own_definitions =
      subst (λ (ns : List TypeName). AreDefinitions types ns own) (append-nil names)
      (known_definitions types names [] own tt (ap (λ (ns : List TypeName). map (definition_of types ns) names) (sym (append-nil names))))

  module _ (defs : Definitions) (are : AreTypes (names_in names) 0 types) (agree : AreDefinitions types names defs) where
    -- what is laid leads to a type
    pub laid_unnamed : (id : TypeId) (l : Layout) → IsLaid types names (at_place id) (l ∷ []) → (u : List TypeNode) × (unnamed (length names) defs (nodes_in types names id) ≡ Some u)
    laid_unnamed id l h =
        let there = unnamed_there defs (length defs) (nodes_in types names id) l (place_layout types names defs are agree id l h) in
        (there.0, unnamed_more defs (length defs) (length names) (nodes_in types names id) there.0 agree.as_many there.1)

    by_names : {id last : TypeId} → LeadsTo types names id last → (t : MemTy) → slice_get types last.0 ≡ Some t → (d : ℕ) × (unnamed d defs (nodes_in types names id) ≡ Some (type_in types names t))
    by_names (no_name id u e h) t f =
        let same : u ≡ t = cc in
        (0, unnamed_here types names defs are agree 0 id t f (subst IsUnnamed same h))
    by_names (by_name id k next last e d h) t f =
        let more = by_names h t f in
        (suc more.0, unnamed_next types names defs are agree more.0 id k next e d ∙ more.1)

    -- the nodes of the type to which it leads are those behind names
    pub leads_unnamed : {id last : TypeId} → LeadsTo types names id last → (t : MemTy) (l : Layout) → slice_get types last.0 ≡ Some t → IsLaid types names (at_place id) (l ∷ []) → unnamed (length names) defs (nodes_in types names id) ≡ Some (type_in types names t)
    leads_unnamed {id} h t l f laid =
        let nodes = nodes_in types names id in
        let some = laid_unnamed id l laid in
        let found = by_names h t f in
        let top = found.0 + length names in
        let one = unnamed_more defs (length names) top nodes some.0 (omega arith) some.1 in
        let other = unnamed_more defs found.0 top nodes (type_in types names t) (omega arith) found.1 in
        some.1 ∙ (sym one ∙ other)
