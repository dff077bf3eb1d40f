-- What is behind the names with which a type begins.
use Rattle.std.proofs.Common.{◌≡◌, ℕ, zero, suc, ◌≤◌, List, [], ◌∷◌, length, get_or, Option, Some, None, refl, sym, ap, ◌∙◌, subst, arith}
use Rattle.std.specs.Prelude.{slice_get}
use Rattle.std.proofs.lemmas.List.{length-map}
use Rattle.std.proofs.lemmas.Option.{slice_get-get_or}
use Rattle.text_forms.specs.Bind.{◌>>=◌}
use Rattle.text_forms.proofs.Parts.{bind_some}
use Rattle.ir_types.specs.declared.name.Name.{Name}
use Rattle.ir_types.specs.declared.name.Name.TheVariants.{Number}
use Rattle.ir_types.specs.declared.memory_type.TypeId.{TypeId}
use Rattle.ir_types.specs.declared.memory_type.MemTy.{MemTy}
use Rattle.ir_types.specs.declared.memory_type.MemTy.TheVariants.{One, Array, Struct, Named}
use Rattle.ir_types.specs.declared.memory_type.NamedType.{NamedType}
use Rattle.ir_types.specs.declared.memory_type.NamedType.TheVariants.{Defined, Opaque, Missing}
use Rattle.ir_types.specs.declared.memory_type.TypeName.{TypeName}
use Rattle.ir_types.specs.Types.{IsFirst, AreTypes}
use Rattle.ir_types.specs.Sizes.{Layout}
use Rattle.ir_types.specs.TypeNodes.{TypeNode, scalar, called, array, opening, closing}
use Rattle.ir_types.specs.Offsets.{Definitions, nodes_of_name, Laid, Cell, whole, cells_of, one_type, layout_by, layout_within, layout_of_name, layout_of, unnamed}
use Rattle.ir_sizes.specs.Known.{IsDefined}
use Rattle.ir_sizes.specs.Definitions.{names_in, nodes_in, type_in, defined_nodes, AreDefinitions}
use Rattle.ir_sizes.specs.Stepping.{IsUnnamed}
use Rattle.ir_sizes.proofs.Within.{name_layout}
use Rattle.ir_sizes.proofs.PlaceNodes.{type_at, place_nodes, no_nodes}
use Rattle.ir_sizes.proofs.Agreed.{name_there}

-- ---- nodes

nothing : (d : ℕ) (defs : Definitions) → unnamed d defs [] ≡ None
nothing zero defs = refl
nothing (suc d) defs = refl

-- a name before other nodes has the layout of them all
named_first : (sizes : Name → Option Layout) (n : Name) (nodes : List TypeNode) (l : Layout) → layout_by sizes (called n ∷ nodes) ≡ Some l → sizes n ≡ Some l
named_first sizes n nodes l e =
    let one = bind_some (cells_of sizes (called n ∷ nodes) >>= one_type) (λ (x : Laid). Some x.layout) l e in
    let cells = bind_some (cells_of sizes (called n ∷ nodes)) one_type one.0 one.1 in
    let behind = bind_some (cells_of sizes nodes) (λ (cs : List Cell). sizes n >>= λ k. Some (whole (record { nodes = called n ∷ []; layout = k }) ∷ cs)) cells.0 cells.1 in
    let name = bind_some (sizes n) (λ k. Some (whole (record { nodes = called n ∷ []; layout = k }) ∷ behind.0)) cells.0 behind.2 in
    by behind.0 cells.0 name.0 one.0 name.1 name.2 cells.2 one.2
  where
    by : (cs all : List Cell) (k : Layout) (x : Laid) → sizes n ≡ Some k → ◌≡◌ {A = Option (List Cell)} (Some (whole (record { nodes = called n ∷ []; layout = k }) ∷ cs)) (Some all) → one_type all ≡ Some x → ◌≡◌ {A = Option Layout} (Some x.layout) (Some l) → sizes n ≡ Some l
    by [] all k x e1 e2 e3 e4 =
        let is : ◌≡◌ {A = List Cell} all (whole (record { nodes = called n ∷ []; layout = k }) ∷ []) = cc in
        let same : ◌≡◌ {A = Option Laid} (Some (record { nodes = called n ∷ []; layout = k })) (Some x) = rw is at e3 in
        e1 ∙ ap (λ (o : Option Laid). o >>= λ y. Some y.layout) same ∙ e4
    by (c ∷ cs) all k x e1 e2 e3 e4 =
        let is : ◌≡◌ {A = List Cell} all (whole (record { nodes = called n ∷ []; layout = k }) ∷ c ∷ cs) = cc in
        let none : ◌≡◌ {A = Option Laid} None (Some x) = rw is at e3 in
        absurd cc

module _ (defs : Definitions) where
  -- where the nodes have a layout, there is a type behind the names
  pub unnamed_there : (d : ℕ) (nodes : List TypeNode) (l : Layout) → layout_by (layout_within d defs) nodes ≡ Some l → (u : List TypeNode) × (unnamed d defs nodes ≡ Some u)
  unnamed_there zero [] l e = absurd cc
  unnamed_there zero (called n ∷ nodes) l e = let none = named_first (layout_within zero defs) n nodes l e in absurd cc
  unnamed_there zero (scalar t ∷ nodes) l e = (scalar t ∷ nodes, refl)
  unnamed_there zero (array n ∷ nodes) l e = (array n ∷ nodes, refl)
  unnamed_there zero (opening packed ∷ nodes) l e = (opening packed ∷ nodes, refl)
  unnamed_there zero (closing ∷ nodes) l e = (closing ∷ nodes, refl)
  unnamed_there (suc d) [] l e = absurd cc
  unnamed_there (suc d) (called n ∷ nodes) l e =
      let name = bind_some (nodes_of_name defs n) (layout_by (layout_within d defs)) l (named_first (layout_within (suc d) defs) n nodes l e) in
      let more = unnamed_there d name.0 l name.2 in
      (more.0, ap (λ (o : Option (List TypeNode)). o >>= unnamed d defs) name.1 ∙ more.1)
  unnamed_there (suc d) (scalar t ∷ nodes) l e = (scalar t ∷ nodes, refl)
  unnamed_there (suc d) (array n ∷ nodes) l e = (array n ∷ nodes, refl)
  unnamed_there (suc d) (opening packed ∷ nodes) l e = (opening packed ∷ nodes, refl)
  unnamed_there (suc d) (closing ∷ nodes) l e = (closing ∷ nodes, refl)

  -- and the same where more names may be followed
  pub unnamed_more : (d f : ℕ) (nodes u : List TypeNode) → d ≤ f → unnamed d defs nodes ≡ Some u → unnamed f defs nodes ≡ Some u
  unnamed_more zero f [] u le e = absurd cc
  unnamed_more zero f (called n ∷ nodes) u le e = absurd cc
  unnamed_more zero zero (scalar t ∷ nodes) u le e = e
  unnamed_more zero zero (array n ∷ nodes) u le e = e
  unnamed_more zero zero (opening packed ∷ nodes) u le e = e
  unnamed_more zero zero (closing ∷ nodes) u le e = e
  unnamed_more zero (suc f) (scalar t ∷ nodes) u le e = e
  unnamed_more zero (suc f) (array n ∷ nodes) u le e = e
  unnamed_more zero (suc f) (opening packed ∷ nodes) u le e = e
  unnamed_more zero (suc f) (closing ∷ nodes) u le e = e
  unnamed_more (suc d) zero nodes u le e = absurd (omega arith)
  unnamed_more (suc d) (suc f) [] u le e = absurd cc
  unnamed_more (suc d) (suc f) (called n ∷ nodes) u le e =
      let name = bind_some (nodes_of_name defs n) (unnamed d defs) u e in
      ap (λ (o : Option (List TypeNode)). o >>= unnamed f defs) name.1 ∙ unnamed_more d f name.0 u (omega arith) name.2
  unnamed_more (suc d) (suc f) (scalar t ∷ nodes) u le e = e
  unnamed_more (suc d) (suc f) (array n ∷ nodes) u le e = e
  unnamed_more (suc d) (suc f) (opening packed ∷ nodes) u le e = e
  unnamed_more (suc d) (suc f) (closing ∷ nodes) u le e = e

  -- it has the same layout
  pub unnamed_layout : (d : ℕ) (nodes u : List TypeNode) (l : Layout) → unnamed d defs nodes ≡ Some u → layout_of defs nodes ≡ Some l → layout_of defs u ≡ Some l
  unnamed_layout zero [] u l e h = absurd cc
  unnamed_layout zero (called n ∷ nodes) u l e h = absurd cc
  unnamed_layout zero (scalar t ∷ nodes) u l e h = let is : scalar t ∷ nodes ≡ u = cc in subst (λ (v : List TypeNode). layout_of defs v ≡ Some l) is h
  unnamed_layout zero (array n ∷ nodes) u l e h = let is : array n ∷ nodes ≡ u = cc in subst (λ (v : List TypeNode). layout_of defs v ≡ Some l) is h
  unnamed_layout zero (opening packed ∷ nodes) u l e h = let is : opening packed ∷ nodes ≡ u = cc in subst (λ (v : List TypeNode). layout_of defs v ≡ Some l) is h
  unnamed_layout zero (closing ∷ nodes) u l e h = let is : closing ∷ nodes ≡ u = cc in subst (λ (v : List TypeNode). layout_of defs v ≡ Some l) is h
  unnamed_layout (suc d) [] u l e h = absurd cc
  unnamed_layout (suc d) (called n ∷ nodes) u l e h =
      let name = bind_some (nodes_of_name defs n) (unnamed d defs) u e in
      let sizes = sym (name_layout defs n) ∙ named_first (layout_of_name defs) n nodes l h in
      unnamed_layout d name.0 u l name.2 (sym (ap (λ (o : Option (List TypeNode)). o >>= layout_of defs) name.1) ∙ sizes)
  unnamed_layout (suc d) (scalar t ∷ nodes) u l e h = let is : scalar t ∷ nodes ≡ u = cc in subst (λ (v : List TypeNode). layout_of defs v ≡ Some l) is h
  unnamed_layout (suc d) (array n ∷ nodes) u l e h = let is : array n ∷ nodes ≡ u = cc in subst (λ (v : List TypeNode). layout_of defs v ≡ Some l) is h
  unnamed_layout (suc d) (opening packed ∷ nodes) u l e h = let is : opening packed ∷ nodes ≡ u = cc in subst (λ (v : List TypeNode). layout_of defs v ≡ Some l) is h
  unnamed_layout (suc d) (closing ∷ nodes) u l e h = let is : closing ∷ nodes ≡ u = cc in subst (λ (v : List TypeNode). layout_of defs v ≡ Some l) is h

-- ---- places

here_unnamed : (types : List MemTy) (names : List TypeName) (d : ℕ) (defs : Definitions) (t : MemTy) → IsUnnamed t → unnamed d defs (type_in types names t) ≡ Some (type_in types names t)
here_unnamed types names zero defs (One t) h = refl
here_unnamed types names zero defs (Array n element) h = refl
here_unnamed types names zero defs (Struct packed ids) h = refl
here_unnamed types names zero defs (Named k) h = absurd h
here_unnamed types names (suc d) defs (One t) h = refl
here_unnamed types names (suc d) defs (Array n element) h = refl
here_unnamed types names (suc d) defs (Struct packed ids) h = refl
here_unnamed types names (suc d) defs (Named k) h = absurd h

module _ (types : List MemTy) (names : List TypeName) (defs : Definitions) (are : AreTypes (names_in names) 0 types) (agree : AreDefinitions types names defs) where
  pub unnamed_past : (d : ℕ) (id : TypeId) → length types ≤ id.0 → unnamed d defs (nodes_in types names id) ≡ None
  unnamed_past d id past = ap (unnamed d defs) (no_nodes (names_in names) types id past) ∙ nothing d defs

  pub unnamed_here : (d : ℕ) (id : TypeId) (t : MemTy) → slice_get types id.0 ≡ Some t → IsUnnamed t → unnamed d defs (nodes_in types names id) ≡ Some (type_in types names t)
  unnamed_here d id t e h = ap (unnamed d defs) (place_nodes (names_in names) types id t are e) ∙ here_unnamed types names d defs t h

  pub unnamed_stops : (id : TypeId) (k : ℕ) → slice_get types id.0 ≡ Some (Named k) → unnamed zero defs (nodes_in types names id) ≡ None
  unnamed_stops id k e = ap (unnamed zero defs) (place_nodes (names_in names) types id (Named k) are e)

  name_nodes : (d : ℕ) (id : TypeId) (k : ℕ) (n : TypeName) → slice_get types id.0 ≡ Some (Named k) → slice_get names k ≡ Some n → unnamed (suc d) defs (nodes_in types names id) ≡ (defined_nodes types names n.ty >>= unnamed d defs)
  name_nodes d id k n e f =
      ap (unnamed (suc d) defs) (place_nodes (names_in names) types id (Named k) are e)
      ∙ ap (λ (m : Name). nodes_of_name defs m >>= unnamed d defs) (name_there types names defs are agree k n f)
      ∙ ap (λ (o : Option (List TypeNode)). o >>= unnamed d defs) (agree.each k n f (type_at (names_in names) types id.0 (Named k) are e))

  pub unnamed_next : (d : ℕ) (id : TypeId) (k : ℕ) (to : TypeId) → slice_get types id.0 ≡ Some (Named k) → IsDefined names k to → unnamed (suc d) defs (nodes_in types names id) ≡ unnamed d defs (nodes_in types names to)
  unnamed_next d id k to e f = name_nodes d id k (record { name = f.0; ty = Defined to }) e f.1

  undefined_by : (d k : ℕ) (name : Name) (ty : NamedType) → slice_get names k ≡ Some (record { name = name; ty = ty }) → ((to : TypeId) → IsDefined names k to → ⊥) → (defined_nodes types names ty >>= unnamed d defs) ≡ None
  undefined_by d k name (Defined to) e never = absurd (never to (name, e))
  undefined_by d k name Opaque e never = refl
  undefined_by d k name Missing e never = refl

  pub unnamed_undefined : (d : ℕ) (id : TypeId) (k : ℕ) → slice_get types id.0 ≡ Some (Named k) → ((to : TypeId) → IsDefined names k to → ⊥) → unnamed (suc d) defs (nodes_in types names id) ≡ None
  unnamed_undefined d id k e never =
      let first : IsFirst (names_in names) k = type_at (names_in names) types id.0 (Named k) are e in
      let m : TypeName = record { name = Number 0; ty = Missing } in
      let n = get_or names k m in
      let found = slice_get-get_or names k m (omega (arith, first.within, length-map names (λ (x : TypeName). x.name))) in
      name_nodes d id k n e found ∙ undefined_by d k n.name n.ty found never
