-- Where indexes lead by places is where they lead by nodes.
use Rattle.std.proofs.Common.{◌≡◌, ℕ, zero, suc, ◌^◌, ◌≤◌, Bool, true, false, cond, ◌&&◌, nat_eq, nat_lt, List, [], ◌∷◌, length, Option, Some, None, is_some, refl, sym, ap, ◌∙◌, subst, arith}
use Rattle.std.specs.Prelude.{slice_get, IfSome, MatchOption}
use Rattle.std.specs.Option.{option_map}
use Rattle.std.proofs.lemmas.Bool.Decides.{Decides-eqb}
use Rattle.std.proofs.lemmas.Option.{slice_get_within, get_or_from_slice_get}
use Rattle.text_forms.specs.Bind.{◌>>=◌}
use Rattle.ir_types.specs.declared.memory_type.TypeId.{TypeId}
use Rattle.ir_types.specs.declared.memory_type.MemTy.{MemTy}
use Rattle.ir_types.specs.declared.memory_type.MemTy.TheVariants.{One, Array, Struct, Named}
use Rattle.ir_types.specs.declared.memory_type.TypeName.{TypeName}
use Rattle.ir_types.specs.declared.memory_type.Extent.{Extent}
use Rattle.ir_types.specs.declared.memory_type.Extent.TheVariants.{NoSize}
use Rattle.ir_types.specs.declared.module.Module.{Module}
use Rattle.ir_types.specs.Denotes.{tree_of}
use Rattle.ir_shape.specs.Modules.{IsModule}
use Rattle.ir_types.specs.TypeNodes.{TypeNode}
use Rattle.ir_types.specs.Tree.{OperandTree, local, number, null, poison, lanes, global, out_of_range}
use Rattle.ir_types.specs.Offsets.{Definitions, small_size, unnamed, stepped_into, counted, scaled}
use Rattle.ir_sizes.specs.declared.offsets.Index.{Index}
use Rattle.ir_sizes.specs.declared.step.Step.{Step}
use Rattle.ir_sizes.specs.Known.{extent_at}
use Rattle.ir_sizes.specs.Definitions.{nodes_in, type_in, AreDefinitions}
use Rattle.ir_sizes.specs.Stepping.{small_extent, IsSteppable, IsUnnamed, step_in, IsStep, index_pair}
use Rattle.ir_sizes.specs.Prepared.{StepLists, LeadsTo, no_name, end_at, AreSteps, ArePrepared}
use Rattle.ir_sizes.proofs.Leading.{leads_within}
use Rattle.ir_sizes.proofs.Ahead.{steppable_sized, name_leads, member_begins, IsBehind, type_behind}
use Rattle.ir_sizes.proofs.Stepped.{small_agrees, extent_steppable, unnamed_agrees, struct_sized, struct_negative, struct_refused, struct_step}
use Rattle.ir_rules.specs.Steps.{has_size, as_index, may_lead, leads_into, is_stepped, type_definitions}
use Rattle.ir_check_fits.specs.Places.{is_sized_at, chosen, end_from, end_behind, part_of, part_at, leads_at, AreModuleSteps}

-- what follows a step
abbrev after_step : (List TypeNode → Bool) → Option (ℕ × List TypeNode) → Bool
after_step g (Some next) = g next.1
after_step g None = false

-- what follows an index behind names
abbrev behind_names : Definitions → ℕ × OperandTree → (List TypeNode → Bool) → Option (List TypeNode) → Bool
behind_names defs i g (Some u) = may_lead u i && after_step g (stepped_into defs u (as_index i))
behind_names defs i g None = false

-- places past the end
past_end : {A : Type 0} (xs : List A) (k : ℕ) → slice_get xs k ≡ None → length xs ≤ k
past_end [] k e = omega arith
past_end (x ∷ xs) zero e = absurd cc
past_end (x ∷ xs) (suc k) e = let rest = past_end xs k e in omega arith

no_extent : (xs : List Extent) (k : ℕ) → length xs ≤ k → extent_at xs k ≡ NoSize
no_extent [] k le = refl
no_extent (x ∷ xs) zero le = absurd (omega arith)
no_extent (x ∷ xs) (suc k) le = no_extent xs k (omega arith)

module _ (types : List MemTy) (names : List TypeName) (extents : List Extent) (steps : StepLists) (defs : Definitions) (p : ArePrepared types names extents steps) (agree : AreDefinitions types names defs) where
  abbrev nodes : TypeId → List TypeNode
  nodes id = nodes_in types names id

  abbrev follows : (List TypeNode → Bool) → Option TypeId → Bool
  follows g (Some to) = g (nodes to)
  follows g None = false

  -- an index leads to a place, which is steppable, or nowhere
  record IsLed (id : TypeId) (i : ℕ × OperandTree) (o : Option TypeId) : Type 0 where
    is : (g : List TypeNode → Bool) → behind_names defs i g (unnamed (length defs) defs (nodes id)) ≡ follows g o
    small : IfSome o (λ to. IsSteppable (extent_at extents to.0))

  record Ends (id : TypeId) : Type 0 where
    last : TypeId
    is : end_behind types steps.ends id ≡ Some last
    leads : LeadsTo types names id last

  within : (id : TypeId) → IsSteppable (extent_at extents id.0) → slice_get types id.0 ≡ None → ⊥
  within id h e = subst IsSteppable (no_extent extents id.0 (omega (arith, past_end types id.0 e, p.extents_are.as_many))) h

  ends : (id : TypeId) → IsSteppable (extent_at extents id.0) → Ends id
  ends id h = by (slice_get types id.0) refl
    where
      through : (k : ℕ) (o : Option TypeId) → slice_get types id.0 ≡ Some (Named k) → end_at steps.ends k ≡ o → MatchOption o ⊥ (LeadsTo types names id) → Ends id
      through k (Some last) e f l = record { last = last; is = ap (λ (t : Option MemTy). t >>= end_from steps.ends id) e ∙ f; leads = l }
      through k None e f l = absurd l

      of : (t : MemTy) → slice_get types id.0 ≡ Some t → Ends id
      of (One t) e = record { last = id; is = ap (λ (t : Option MemTy). t >>= end_from steps.ends id) e; leads = no_name id (One t) e tt }
      of (Array n element) e = record { last = id; is = ap (λ (t : Option MemTy). t >>= end_from steps.ends id) e; leads = no_name id (Array n element) e tt }
      of (Struct packed ids) e = record { last = id; is = ap (λ (t : Option MemTy). t >>= end_from steps.ends id) e; leads = no_name id (Struct packed ids) e tt }
      of (Named k) e = through k (end_at steps.ends k) e refl (name_leads types names extents steps p id k (end_at steps.ends k) e (steppable_sized extents id h) refl)

      by : (o : Option MemTy) → slice_get types id.0 ≡ o → Ends id
      by (Some t) e = of t e
      by None e = absurd (within id h e)

  module _ (id : TypeId) (h : IsSteppable (extent_at extents id.0)) (last : TypeId) (leads : LeadsTo types names id last) where
    abbrev Behind : MemTy → Type 0
    Behind t = IsBehind types names extents steps p defs agree id last h (λ sized. leads) t

    behind : (t : MemTy) → slice_get types last.0 ≡ Some t → Behind t
    behind t found = type_behind types names extents steps p defs agree id last h (λ sized. leads) t t (slice_get_within types last.0 t found, λ d. sym (get_or_from_slice_get types last.0 t d found)) refl

    -- the nodes behind the names
    opened : (t : MemTy) → Behind t → unnamed (length defs) defs (nodes id) ≡ Some (type_in types names t)
    opened t b = unnamed_agrees types names extents defs p.types_are p.extents_are agree id h ∙ b.is

    -- a step into these nodes
    stepped : (t : MemTy) (i : Index) (o : Option Step) → Behind t → IsStep types names extents defs id i o → stepped_into defs (type_in types names t) (index_pair i) ≡ option_map (step_in types names) o
    stepped t i o b s = sym (ap (λ (u : Option (List TypeNode)). u >>= λ v. stepped_into defs v (index_pair i)) (opened t b)) ∙ s.is

    array_led : (n : ℕ) (element : TypeId) (i : ℕ × OperandTree) → Behind (Array n element) → IsLed id i (part_of extents i (Array n element))
    array_led n element i b = by (small_extent (extent_at extents element.0)) refl
      where
        sized : (o : Option ℕ) → small_extent (extent_at extents element.0) ≡ o → small_size defs (nodes element) ≡ o
        sized o e = sym (small_agrees types names extents defs p.types_are p.extents_are agree element) ∙ e

        by : (o : Option ℕ) → small_extent (extent_at extents element.0) ≡ o → IsLed id i (cond (is_some (small_extent (extent_at extents element.0))) (Some element) None)
        by (Some s) e = rw e (record {
          is = λ g. ap (behind_names defs i g) (opened (Array n element) b) ∙ ap (λ (o : Option ℕ). after_step g (o >>= λ k. Some (scaled k (as_index i), nodes element))) (sized (Some s) e);
          small = extent_steppable types names extents defs p.types_are p.extents_are agree (extent_at extents element.0) s e;
        })
        by None e = rw e (record {
          is = λ g. ap (behind_names defs i g) (opened (Array n element) b) ∙ ap (λ (o : Option ℕ). after_step g (o >>= λ k. Some (scaled k (as_index i), nodes element))) (sized None e);
          small = tt;
        })

    module _ (packed : Bool) (ids : List TypeId) (b : Behind (Struct packed ids)) where
      -- an index that chooses no member
      not_chosen : (i : ℕ × OperandTree) → may_lead (type_in types names (Struct packed ids)) i ≡ false → IsLed id i None
      not_chosen i e = record {
        is = λ g. ap (behind_names defs i g) (opened (Struct packed ids) b) ∙ ap (λ (c : Bool). c && after_step g (stepped_into defs (type_in types names (Struct packed ids)) (as_index i))) e;
        small = tt;
      }

      abbrev index : ℕ → Index
      index n = record { width = 32; number = n }

      -- a number of 32 bits steps so
      by_step : (n : ℕ) (o : Option Step) → IsStep types names extents defs id (index n) o → IsLed id (32, number n) (option_map (λ (s : Step). s.place) o)
      by_step n (Some s) e = record {
        is = λ g. ap (behind_names defs (32, number n) g) (opened (Struct packed ids) b) ∙ ap (after_step g) (stepped (Struct packed ids) (index n) (Some s) b e);
        small = e.small;
      }
      by_step n None e = record {
        is = λ g. ap (behind_names defs (32, number n) g) (opened (Struct packed ids) b) ∙ ap (after_step g) (stepped (Struct packed ids) (index n) None b e);
        small = tt;
      }

      number_led : (n : ℕ) → IsLed id (32, number n) (chosen (32, number n) >>= λ k. slice_get ids k)
      number_led n = by (nat_lt n (2 ^ 31)) refl
        where
          member : (o : Option TypeId) → counted (32, n) ≡ Some n → slice_get ids n ≡ o → IsLed id (32, number n) o
          member (Some to) c e =
              let parts = struct_sized types names extents defs p.types_are p.extents_are agree id (index n) h packed ids b.stands b.is in
              let begins = member_begins types names extents steps p last packed ids n b.found parts (slice_get_within ids n to e) in
              let same : to ≡ begins.2.id = cc (e, begins.2.found) in
              by_step n (Some (record { bytes = begins.0; place = to })) (struct_step types names extents defs p.types_are p.extents_are agree id (index n) h packed ids b.stands b.is n begins.0 to c begins.2 same)
          member None c e = by_step n None (struct_refused types names extents defs p.types_are p.extents_are agree id (index n) h packed ids b.stands b.is n c (past_end ids n e))

          by : (c : Bool) → nat_lt n (2 ^ 31) ≡ c → IsLed id (32, number n) (cond c (Some n) None >>= λ k. slice_get ids k)
          by true e = member (slice_get ids n) (ap (λ (c : Bool). cond c (Some n) None) e) refl
          by false e = by_step n None (struct_negative types names extents defs p.types_are p.extents_are agree id (index n) h packed ids b.stands b.is (ap (λ (c : Bool). cond c (Some n) None) e))

      struct_led : (i : ℕ × OperandTree) → IsLed id i (part_of extents i (Struct packed ids))
      struct_led (w, number n) = by (nat_eq w 32) refl
        where
          by : (c : Bool) → nat_eq w 32 ≡ c → IsLed id (w, number n) (cond (nat_eq w 32 && nat_lt n (2 ^ 31)) (Some n) None >>= λ k. slice_get ids k)
          by true e = let same : w ≡ 32 = (Decides-eqb w 32).0 e in rw same (number_led n)
          by false e = rw e (not_chosen (w, number n) e)
      struct_led (w, local n) = not_chosen (w, local n) refl
      struct_led (w, null) = not_chosen (w, null) refl
      struct_led (w, poison) = not_chosen (w, poison) refl
      struct_led (w, lanes xs) = not_chosen (w, lanes xs) refl
      struct_led (w, global n o) = not_chosen (w, global n o) refl
      struct_led (w, out_of_range n) = not_chosen (w, out_of_range n) refl

    led_behind : (t : MemTy) (i : ℕ × OperandTree) → slice_get types last.0 ≡ Some t → IsUnnamed t → IsLed id i (part_of extents i t)
    led_behind (One t) i e u = record { is = λ g. ap (behind_names defs i g) (opened (One t) (behind (One t) e)); small = tt }
    led_behind (Array n element) i e u = array_led n element i (behind (Array n element) e)
    led_behind (Struct packed ids) i e u = struct_led packed ids (behind (Struct packed ids) e) i
    led_behind (Named k) i e u = absurd u

  led : (id : TypeId) (i : ℕ × OperandTree) → IsSteppable (extent_at extents id.0) → IsLed id i (part_at types steps.ends extents id i)
  led id i h =
      let e = ends id h in
      let t = leads_within types names e.leads in
      let is : part_at types steps.ends extents id i ≡ part_of extents i t.0 = ap (λ (o : Option TypeId). o >>= λ last. slice_get types last.0 >>= part_of extents i) e.is ∙ ap (λ (o : Option MemTy). o >>= part_of extents i) t.1 in
      rw is (led_behind id h e.last e.leads t.0 i t.1 t.2)

  pub leads_agree : (is : List (ℕ × OperandTree)) (id : TypeId) → IsSteppable (extent_at extents id.0) → leads_at types steps.ends extents id is ≡ leads_into defs (nodes id) is
  leads_agree [] id h = refl
  leads_agree (i ∷ more) id h =
      let l = led id i h in
      by (part_at types steps.ends extents id i) l.small (leads_agree more) ∙ sym (l.is (λ to. leads_into defs to more))
    where
      by : (o : Option TypeId) → IfSome o (λ to. IsSteppable (extent_at extents to.0)) → ((to : TypeId) → IsSteppable (extent_at extents to.0) → leads_at types steps.ends extents to more ≡ leads_into defs (nodes to) more) → (elim o [ Some to ↦ leads_at types steps.ends extents to more | None ↦ false ]) ≡ follows (λ to. leads_into defs to more) o
      by (Some to) small rest = rest to small
      by None small rest = refl

  -- a size, and where indexes lead behind the first
  pub stepped_agree : (id : TypeId) (i : ℕ × OperandTree) (more : List (ℕ × OperandTree)) → (is_sized_at extents id && leads_at types steps.ends extents id more) ≡ is_stepped defs (nodes id) (i ∷ more)
  stepped_agree id i more = by (small_extent (extent_at extents id.0)) refl
    where
      sized : has_size defs (nodes id) ≡ is_sized_at extents id
      sized = ap is_some (sym (small_agrees types names extents defs p.types_are p.extents_are agree id))

      by : (o : Option ℕ) → small_extent (extent_at extents id.0) ≡ o → (is_sized_at extents id && leads_at types steps.ends extents id more) ≡ (has_size defs (nodes id) && leads_into defs (nodes id) more)
      by (Some s) e = rw (sized, e) (leads_agree more id (extent_steppable types names extents defs p.types_are p.extents_are agree (extent_at extents id.0) s e))
      by None e = rw (sized, e) refl

-- ---- in a module

-- what is prepared
pub module_prepared : (m : Module) → IsModule m → (steps : StepLists) → AreSteps m.types m.type_names m.extents steps → ArePrepared m.types m.type_names m.extents steps
module_prepared m is steps are = record { types_are = is.denotes.types; extents_are = is.denotes.extents; steps_are = are }

-- the type at a place has a size in the extents as by its nodes
pub size_agrees : (m : Module) (steps : StepLists) → AreModuleSteps m steps → (id : TypeId) → is_sized_at m.extents id ≡ has_size (type_definitions (tree_of m)) (nodes_in m.types m.type_names id)
size_agrees m steps are id = ap is_some (small_agrees m.types m.type_names m.extents (type_definitions (tree_of m)) are.prepared.types_are are.prepared.extents_are are.definitions id)

-- and indexes lead through it as by its nodes
pub steps_agree : (m : Module) (steps : StepLists) → AreModuleSteps m steps → (id : TypeId) (i : ℕ × OperandTree) (more : List (ℕ × OperandTree)) → (is_sized_at m.extents id && leads_at m.types steps.ends m.extents id more) ≡ is_stepped (type_definitions (tree_of m)) (nodes_in m.types m.type_names id) (i ∷ more)
steps_agree m steps are id i more = stepped_agree m.types m.type_names m.extents steps (type_definitions (tree_of m)) are.prepared are.definitions id i more
