-- The definitions of tables say what each name of a type stands for.
use Rattle.std.proofs.Common.{◌≡◌, ◌≢◌, ℕ, zero, suc, ◌<◌, ◌≤◌, Bool, true, false, List, [], ◌∷◌, length, Option, Some, None, refl, sym, ap, ◌∙◌, subst, arith}
use Rattle.std.specs.Prelude.{slice_get}
use Rattle.std.specs.List.{filter_map}
use Rattle.ir_types.specs.declared.name.Name.{Name}
use Rattle.ir_types.specs.declared.memory_type.TypeName.{TypeName}
use Rattle.ir_types.specs.declared.memory_type.NamedType.{NamedType}
use Rattle.ir_types.specs.declared.memory_type.NamedType.TheVariants.{Defined, Opaque, Missing}
use Rattle.ir_types.specs.declared.memory_type.MemTy.{MemTy}
use Rattle.ir_types.specs.Names.{same_name, name_at}
use Rattle.ir_types.specs.TypeNodes.{TypeNode, type_nodes}
use Rattle.ir_types.proofs.NameAt.{name_got}
use Rattle.ir_types.specs.Offsets.{Definitions, nodes_of_name}
use Rattle.ir_sizes.specs.Definitions.{defined_nodes, AreDefinitions}
use Rattle.ir_reader_types.specs.TypeTable.{names_of}
use Rattle.ir_reader_types.specs.Tables.{definition_over, AreEntriesApart}
use Rattle.ir_reader_types.proofs.FirstPlaces.{same_name-Decides, same_itself}
use Rattle.ir_reader_types.proofs.Growth.{got_name}

-- the nodes of what a name stands for, over these names and types
abbrev over_nodes : List Name → List MemTy → NamedType → Option (List TypeNode)
over_nodes names types (Defined id) = Some (type_nodes names types id)
over_nodes names types Opaque = None
over_nodes names types Missing = None

stands_for : (types : List MemTy) (entries : List TypeName) (ty : NamedType) → over_nodes (names_of entries) types ty ≡ defined_nodes types entries ty
stands_for types entries (Defined id) = refl
stands_for types entries Opaque = refl
stands_for types entries Missing = refl

other : (m n : Name) → m ≢ n → same_name m n ≡ false
other m n h = by (same_name m n) refl
  where
    by : (b : Bool) → same_name m n ≡ b → b ≡ false
    by true e = absurd (h ((same_name-Decides m n).0 e))
    by false e = refl

module _ (names : List Name) (types : List MemTy) where
  abbrev defs : List TypeName → Definitions
  defs entries = filter_map (definition_over names types) entries

  fewer : (name : Name) (ty : NamedType) (entries : List TypeName) → length (defs entries) ≤ length entries → length (defs (record { name = name; ty = ty } ∷ entries)) ≤ suc (length entries)
  fewer name (Defined id) entries h = omega arith
  fewer name Opaque entries h = omega arith
  fewer name Missing entries h = omega arith

  pub as_many : (entries : List TypeName) → length (defs entries) ≤ length entries
  as_many [] = omega arith
  as_many (e ∷ entries) = fewer e.name e.ty entries (as_many entries)

  -- an entry of another name is passed over
  skip : (n name : Name) (ty : NamedType) (entries : List TypeName) → same_name name n ≡ false → nodes_of_name (defs (record { name = name; ty = ty } ∷ entries)) n ≡ nodes_of_name (defs entries) n
  skip n name (Defined id) entries e = rw e refl
  skip n name Opaque entries e = rw e refl
  skip n name Missing entries e = refl

  pub none_found : (n : Name) (entries : List TypeName) → ((j : ℕ) (x : TypeName) → slice_get entries j ≡ Some x → x.name ≢ n) → nodes_of_name (defs entries) n ≡ None
  none_found n [] h = refl
  none_found n (x ∷ entries) h = skip n x.name x.ty entries (other x.name n (h 0 x refl)) ∙ none_found n entries (λ j y e. h (suc j) y e)

  -- the first entry of a name
  here : (name : Name) (ty : NamedType) (entries : List TypeName) → (ty ≡ Missing → nodes_of_name (defs entries) name ≡ None) → nodes_of_name (defs (record { name = name; ty = ty } ∷ entries)) name ≡ over_nodes names types ty
  here name (Defined id) entries h = rw (same_itself name) refl
  here name Opaque entries h = rw (same_itself name) refl
  here name Missing entries h = h refl

  found : (entries : List TypeName) (k : ℕ) (e : TypeName) → slice_get entries k ≡ Some e → ((j : ℕ) → j < k → name_at (names_of entries) j ≢ e.name) → (e.ty ≡ Missing → (j : ℕ) (x : TypeName) → slice_get entries j ≡ Some x → k ≢ j → e.name ≢ x.name)
      → nodes_of_name (defs entries) e.name ≡ over_nodes names types e.ty
  found [] k e at before apart = absurd cc
  found (x ∷ entries) zero e at before apart =
      let same : x ≡ e = cc in
      subst (λ (y : TypeName). nodes_of_name (defs (x ∷ entries)) y.name ≡ over_nodes names types y.ty) same
      (here x.name x.ty entries (λ m. none_found x.name entries (λ j y g s. let f = apart (sym (ap (λ (t : TypeName). t.ty) same) ∙ m) (suc j) y g (omega arith) in f (sym (ap (λ (t : TypeName). t.name) same) ∙ sym s))))
  found (x ∷ entries) (suc k) e at before apart =
      skip e.name x.name x.ty entries (other x.name e.name (before 0 (omega arith)))
      ∙ found entries k e at (λ j lt. before (suc j) (omega arith)) (λ m j y g d. apart m (suc j) y g (omega arith))

pub are_definitions : (entries : List TypeName) (types : List MemTy) → AreEntriesApart entries → AreDefinitions types entries (filter_map (definition_over (names_of entries) types) entries)
are_definitions entries types h =
    let names = names_of entries in
    record {
      as_many = as_many names types entries;
      each = λ k e at first.
          let same : name_at names k ≡ e.name = name_got names k e.name (got_name entries k e at) in
          found names types entries k e at (λ j lt s. first.first j lt (s ∙ sym same)) (λ m j x g d. h k j e x at g m d) ∙ stands_for types entries e.ty;
    }
