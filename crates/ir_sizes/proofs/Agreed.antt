-- A type has a layout by its place exactly where it has it by its nodes.
use Rattle.std.proofs.Common.{◌≡◌, ℕ, zero, suc, ◌<◌, ◌≤◌, List, [], ◌∷◌, map, length, get_or, Option, Some, None, option_map, refl, sym, ap, ◌∙◌, subst, inl, inr, arith}
use Rattle.std.specs.Prelude.{slice_get}
use Rattle.std.specs.List.{AllByRecursion}
use Rattle.std.proofs.lemmas.Bool.{cases_lt}
use Rattle.std.proofs.lemmas.List.{length-map}
use Rattle.std.proofs.lemmas.Option.{slice_get-get_or, slice_get-map, slice_get_within}
use Rattle.text_forms.specs.Bind.{◌>>=◌}
use Rattle.text_forms.proofs.Parts.{bind_some}
use Rattle.ir_types.specs.declared.name.Name.{Name}
use Rattle.ir_types.specs.declared.name.Name.TheVariants.{Number}
use Rattle.ir_types.specs.declared.inst.Ty.TheVariants.{Ptr}
use Rattle.ir_types.specs.declared.memory_type.TypeId.{TypeId}
use Rattle.ir_types.specs.declared.memory_type.MemTy.{MemTy}
use Rattle.ir_types.specs.declared.memory_type.MemTy.TheVariants.{One, Array, Struct, Named}
use Rattle.ir_types.specs.declared.memory_type.NamedType.{NamedType}
use Rattle.ir_types.specs.declared.memory_type.NamedType.TheVariants.{Defined, Opaque, Missing}
use Rattle.ir_types.specs.declared.memory_type.TypeName.{TypeName}
use Rattle.ir_types.specs.Names.{name_at}
use Rattle.ir_types.specs.Types.{IsBefore, IsFirst, IsTypeAt, AreTypes}
use Rattle.ir_types.specs.Sizes.{Layout, Subject, a_type, at_place, members, IsLaid, scalar_laid, array_laid, struct_laid, named_laid, place_laid, none_laid, more_laid, value_size, struct_layout}
use Rattle.ir_types.specs.TypeNodes.{TypeNode}
use Rattle.ir_types.specs.Offsets.{Definitions, nodes_of_name, Laid, layouts, layout_by, layout_within, layout_of_name, layout_of}
use Rattle.ir_types.proofs.NameAt.{name_got}
use Rattle.ir_sizes.specs.Definitions.{names_in, nodes_in, type_in, defined_nodes, AreDefinitions}
use Rattle.ir_sizes.proofs.Cells.{laid_by, laid_split, times, struct_by, called_layout, array_layout, struct_layout_by}
use Rattle.ir_sizes.proofs.Within.{name_layout}
use Rattle.ir_sizes.proofs.PlaceNodes.{type_at, place_nodes, no_nodes, place_one, places_one}

-- a list of one layout
abbrev pub only : Option Layout → Option (List Layout)
only o = o >>= λ l. Some (l ∷ [])

pub only_is : (o : Option Layout) (l : Layout) → only o ≡ Some (l ∷ []) → o ≡ Some l
only_is None l e = absurd cc
only_is (Some k) l e = let same : ◌≡◌ {A = List Layout} (k ∷ []) (l ∷ []) = cc in cc

pub some_is : {x y : Layout} → ◌≡◌ {A = Option Layout} (Some x) (Some y) → x ≡ y
some_is e = cc

pub none_some : (x : Layout) → ◌≡◌ {A = Option Layout} None (Some x) → ⊥
none_some x e = cc

-- the layouts of laid types
abbrev pub layouts_by : (Name → Option Layout) → List (List TypeNode) → Option (List Layout)
layouts_by sizes all = laid_by sizes all >>= λ xs. Some (layouts xs)

all_before : (i n : ℕ) (ids : List TypeId) → i ≤ n → AllByRecursion (IsBefore i) ids → AllByRecursion (IsBefore n) ids
all_before i n [] le h = tt
all_before i n (id ∷ ids) le h = (omega (arith, h.0), all_before i n ids le h.1)

pub later_type : (names : List Name) (i n : ℕ) (t : MemTy) → i ≤ n → IsTypeAt names i t → IsTypeAt names n t
later_type names i n (One t) le h = h
later_type names i n (Array k element) le h = omega arith
later_type names i n (Struct packed ids) le h = all_before i n ids le h
later_type names i n (Named k) le h = h

module _ (types : List MemTy) (names : List TypeName) (defs : Definitions) (are : AreTypes (names_in names) 0 types) (agree : AreDefinitions types names defs) where
  -- the name at a place
  pub name_there : (k : ℕ) (n : TypeName) → slice_get names k ≡ Some n → name_at (names_in names) k ≡ n.name
  name_there k n e = name_got (names_in names) k n.name (slice_get-map (λ (m : TypeName). m.name) names k ∙ ap (option_map (λ (m : TypeName). m.name)) e)

  -- the type at a place, before others
  abbrev pub with_rest : TypeId → Option (List Laid) → Layout → Option (List Laid)
  with_rest id others l = others >>= λ xs. Some (record { nodes = nodes_in types names id; layout = l } ∷ xs)

  -- ---- what is laid by places is laid by nodes

  abbrev said : Subject → Option (List Layout)
  said (a_type t) = only (layout_of defs (type_in types names t))
  said (at_place id) = only (layout_of defs (nodes_in types names id))
  said (members ids) = layouts_by (layout_of_name defs) (map (nodes_in types names) ids)

  abbrev IsPlaced : Subject → Type 0
  IsPlaced (a_type t) = IsTypeAt (names_in names) (length types) t
  IsPlaced (at_place id) = Unit {0}
  IsPlaced (members ids) = Unit {0}

  name_said : (k : ℕ) (n : TypeName) → slice_get names k ≡ Some n → IsFirst (names_in names) k → layout_of defs (type_in types names (Named k)) ≡ (defined_nodes types names n.ty >>= layout_of defs)
  name_said k n e first =
      called_layout (layout_of_name defs) (name_at (names_in names) k)
      ∙ name_layout defs (name_at (names_in names) k)
      ∙ ap (λ (m : Name). nodes_of_name defs m >>= layout_of defs) (name_there k n e)
      ∙ ap (λ (o : Option (List TypeNode)). o >>= layout_of defs) (agree.each k n e first)

  laid_said : {x : Subject} {ls : List Layout} → IsLaid types names x ls → IsPlaced x → said x ≡ Some ls
  laid_said (scalar_laid t h) p = refl
  laid_said (array_laid n element l h) p =
      let part = only_is (layout_of defs (nodes_in types names element)) l (laid_said h tt) in
      ap only (array_layout (layout_of_name defs) n (nodes_in types names element) (place_one (names_in names) types are element p))
      ∙ ap (λ (o : Option Layout). only (o >>= λ k. Some (times n k))) part
  laid_said (struct_laid packed ids ls h) p =
      let found = bind_some (laid_by (layout_of_name defs) (map (nodes_in types names) ids)) (λ (xs : List Laid). Some (layouts xs)) ls (laid_said h tt) in
      ap only (struct_layout_by (layout_of_name defs) packed (map (nodes_in types names) ids) (places_one (names_in names) types are (length types) ids (omega arith) p))
      ∙ ap (λ (o : Option (List Laid)). only (o >>= struct_by packed)) found.1
      ∙ ap (λ (o : Option (List Layout)). o >>= λ ks. Some (struct_layout packed ks ∷ [])) found.2
  laid_said (named_laid k name id l e h) p = ap only (name_said k (record { name = name; ty = Defined id }) e p) ∙ laid_said h tt
  laid_said (place_laid id t l e h) p =
      let within = slice_get_within types id.0 t e in
      ap (λ (nodes : List TypeNode). only (layout_of defs nodes)) (place_nodes (names_in names) types id t are e)
      ∙ laid_said h (later_type (names_in names) id.0 (length types) t (omega arith) (type_at (names_in names) types id.0 t are e))
  laid_said none_laid p = refl
  laid_said (more_laid id ids l ls h r) p =
      let first = only_is (layout_of defs (nodes_in types names id)) l (laid_said h tt) in
      let found = bind_some (laid_by (layout_of_name defs) (map (nodes_in types names) ids)) (λ (xs : List Laid). Some (layouts xs)) ls (laid_said r tt) in
      ap (λ (o : Option Layout). (o >>= with_rest id (laid_by (layout_of_name defs) (map (nodes_in types names) ids))) >>= λ xs. Some (layouts xs)) first
      ∙ ap (λ (o : Option (List Laid)). with_rest id o l >>= λ xs. Some (layouts xs)) found.1
      ∙ ap (λ (o : Option (List Layout)). o >>= λ ks. Some (l ∷ ks)) found.2

  -- ---- what is laid by nodes is laid by places

  module _ (depth : ℕ) (known : (k : ℕ) (l : Layout) → IsFirst (names_in names) k → layout_within depth defs (name_at (names_in names) k) ≡ Some l → IsLaid types names (a_type (Named k)) (l ∷ [])) where
    abbrev by_depth : List TypeNode → Option Layout
    by_depth nodes = layout_by (layout_within depth defs) nodes

    -- what has a layout at places before this one is laid
    abbrev IsKnown : ℕ → Type 0
    IsKnown i = (id : TypeId) (l : Layout) → IsBefore i id → by_depth (nodes_in types names id) ≡ Some l → IsLaid types names (at_place id) (l ∷ [])

    members_back : (i : ℕ) (ids : List TypeId) (xs : List Laid) → IsKnown i → AllByRecursion (IsBefore i) ids → laid_by (layout_within depth defs) (map (nodes_in types names) ids) ≡ Some xs → IsLaid types names (members ids) (layouts xs)
    members_back i [] xs before h e = let nothing : xs ≡ [] = cc in rw nothing none_laid
    members_back i (id ∷ ids) xs before h e =
        let s = laid_split (layout_within depth defs) (nodes_in types names id) (map (nodes_in types names) ids) xs e in
        rw s.is (more_laid id ids s.layout (layouts s.rest) (before id s.layout h.0 s.first) (members_back i ids s.rest before h.1 s.others))

    type_back : (i : ℕ) (t : MemTy) (l : Layout) → i ≤ length types → IsKnown i → IsTypeAt (names_in names) i t → by_depth (type_in types names t) ≡ Some l → IsLaid types names (a_type t) (l ∷ [])
    type_back i (One t) l le before h e =
        let is : ◌≡◌ {A = Layout} (record { size = value_size t; align = value_size t }) l = cc in
        subst (λ k. IsLaid types names (a_type (One t)) (k ∷ [])) is (scalar_laid t h)
    type_back i (Array n element) l le before h e =
        let one = place_one (names_in names) types are element (omega arith) in
        let part = bind_some (by_depth (nodes_in types names element)) (λ k. Some (times n k)) l (sym (array_layout (layout_within depth defs) n (nodes_in types names element) one) ∙ e) in
        let is : times n part.0 ≡ l = some_is part.2 in
        subst (λ k. IsLaid types names (a_type (Array n element)) (k ∷ [])) is (array_laid n element part.0 (before element part.0 h part.1))
    type_back i (Struct packed ids) l le before h e =
        let ones = places_one (names_in names) types are i ids le h in
        let found = bind_some (laid_by (layout_within depth defs) (map (nodes_in types names) ids)) (struct_by packed) l (sym (struct_layout_by (layout_within depth defs) packed (map (nodes_in types names) ids) ones) ∙ e) in
        let is : struct_layout packed (layouts found.0) ≡ l = some_is found.2 in
        subst (λ k. IsLaid types names (a_type (Struct packed ids)) (k ∷ [])) is (struct_laid packed ids (layouts found.0) (members_back i ids found.0 before h found.1))
    type_back i (Named k) l le before h e = known k l h (sym (called_layout (layout_within depth defs) (name_at (names_in names) k)) ∙ e)

    place_back : (bound : ℕ) (id : TypeId) (l : Layout) → id.0 < bound → IsBefore (length types) id → by_depth (nodes_in types names id) ≡ Some l → IsLaid types names (at_place id) (l ∷ [])
    place_back zero id l lt within e = absurd (omega arith)
    place_back (suc bound) id l lt within e =
        let found = slice_get-get_or types id.0 (One Ptr) within in
        let t = get_or types id.0 (One Ptr) in
        let nodes = place_nodes (names_in names) types id t are found in
        place_laid id t l found (type_back id.0 t l (omega arith) (λ part k before f. place_back bound part k (omega arith) (omega arith) f) (type_at (names_in names) types id.0 t are found) (ap by_depth (sym nodes) ∙ e))

    everywhere_back : (id : TypeId) (l : Layout) → by_depth (nodes_in types names id) ≡ Some l → IsLaid types names (at_place id) (l ∷ [])
    everywhere_back id l e = elim (cases_lt id.0 (length types)) [
      | inl within ↦ place_back (suc id.0) id l (omega arith) within e
      | inr past ↦ absurd (none_some l (sym (ap by_depth (no_nodes (names_in names) types id past)) ∙ e))
    ]

    named_back : (k : ℕ) (l : Layout) (name : Name) (ty : NamedType) → slice_get names k ≡ Some (record { name = name; ty = ty }) → (defined_nodes types names ty >>= by_depth) ≡ Some l → IsLaid types names (a_type (Named k)) (l ∷ [])
    named_back k l name (Defined id) e h = named_laid k name id l e (everywhere_back id l h)
    named_back k l name Opaque e h = absurd (none_some l h)
    named_back k l name Missing e h = absurd (none_some l h)

  name_back : (depth : ℕ) (k : ℕ) (l : Layout) → IsFirst (names_in names) k → layout_within depth defs (name_at (names_in names) k) ≡ Some l → IsLaid types names (a_type (Named k)) (l ∷ [])
  name_back zero k l first e = absurd (none_some l e)
  name_back (suc depth) k l first e =
      let d : TypeName = record { name = Number 0; ty = Missing } in
      let n = get_or names k d in
      let found = slice_get-get_or names k d (omega (arith, first.within, length-map names (λ (m : TypeName). m.name))) in
      let to = ap (λ (m : Name). nodes_of_name defs m >>= layout_by (layout_within depth defs)) (name_there k n found) ∙ ap (λ (o : Option (List TypeNode)). o >>= layout_by (layout_within depth defs)) (agree.each k n found first) in
      named_back depth (name_back depth) k l n.name n.ty found (sym to ∙ e)

  -- ---- both ways

  -- the type at a place has the layout by its nodes
  pub place_layout : (id : TypeId) (l : Layout) → IsLaid types names (at_place id) (l ∷ []) → layout_of defs (nodes_in types names id) ≡ Some l
  place_layout id l h = only_is (layout_of defs (nodes_in types names id)) l (laid_said h tt)

  -- and by its place
  pub layout_place : (id : TypeId) (l : Layout) → layout_of defs (nodes_in types names id) ≡ Some l → IsLaid types names (at_place id) (l ∷ [])
  layout_place id l e = everywhere_back (length defs) (name_back (length defs)) id l e

  -- the same of members
  pub members_layouts : (ids : List TypeId) (ls : List Layout) → IsLaid types names (members ids) ls → layouts_by (layout_of_name defs) (map (nodes_in types names) ids) ≡ Some ls
  members_layouts ids ls h = laid_said h tt

  pub layouts_members : (ids : List TypeId) (xs : List Laid) → AllByRecursion (IsBefore (length types)) ids → laid_by (layout_of_name defs) (map (nodes_in types names) ids) ≡ Some xs → IsLaid types names (members ids) (layouts xs)
  layouts_members ids xs h e = members_back (length defs) (name_back (length defs)) (length types) ids xs (λ id k _ f. layout_place id k f) h e

  -- and of a type whose parts are at places
  pub type_layout : (t : MemTy) (l : Layout) → IsTypeAt (names_in names) (length types) t → IsLaid types names (a_type t) (l ∷ []) → layout_of defs (type_in types names t) ≡ Some l
  type_layout t l p h = only_is (layout_of defs (type_in types names t)) l (laid_said h p)

  pub layout_type : (t : MemTy) (l : Layout) → IsTypeAt (names_in names) (length types) t → layout_of defs (type_in types names t) ≡ Some l → IsLaid types names (a_type t) (l ∷ [])
  layout_type t l p e = type_back (length defs) (name_back (length defs)) (length types) t l (omega arith) (λ id k _ f. layout_place id k f) p e
