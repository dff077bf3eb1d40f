-- The names of types stand for what the definitions say, and behind them stand the names that are used and not defined.
use Rattle.std.proofs.Common.{◌≡◌, ◌≤◌, ℕ, zero, suc, List, [], ◌∷◌, ◌++◌, length, map, Option, Some, refl, sym, ap, ◌∙◌, subst, arith}
use Rattle.std.specs.Prelude.{slice_get}
use Rattle.std.specs.List.{AllByRecursion, filter_map}
use Rattle.std.specs.Option.{option_map}
use Rattle.std.proofs.lemmas.List.{length-map, append-nil}
use Rattle.std.proofs.lemmas.List.Elements.{filter_map-append}
use Rattle.text_forms.specs.Nested.{concat}
use Rattle.text_forms.specs.View.{Extends}
use Rattle.ir_types.specs.declared.name.Name.{Name}
use Rattle.ir_types.specs.declared.module.Symbol.{Symbol}
use Rattle.ir_types.specs.declared.memory_type.MemTy.{MemTy}
use Rattle.ir_types.specs.declared.memory_type.TypeName.{TypeName}
use Rattle.ir_types.specs.declared.memory_type.NamedType.{NamedType}
use Rattle.ir_types.specs.declared.memory_type.NamedType.TheVariants.{Defined, Opaque, Missing}
use Rattle.ir_types.specs.Names.{unknown}
use Rattle.ir_types.specs.Types.{AreTypes}
use Rattle.ir_types.specs.TypeNodes.{TypeNode}
use Rattle.ir_reader_types.specs.TypeTable.{names_of, missing_entry}
use Rattle.ir_reader_types.specs.Tables.{definition_over, IsDefinedBefore, AreEntriesApart}
use Rattle.ir_reader_types.proofs.LookUps.{names_append, missing_names, looked_up}
use Rattle.ir_reader_types.proofs.Holding.{names_extend}
use Rattle.ir_reader_types.proofs.Growth.{extends_length, entries_looked}
use Rattle.ir_reader_items.specs.declared.part.Definition.{Definition}
use Rattle.ir_reader_items.specs.declared.part.Variable.{Variable}
use Rattle.ir_reader.specs.Gathered.{definition_of}
use Rattle.ir_reader.specs.Trees.{stands_for, defined_as, symbol_over, variable_symbol}
use Rattle.ir_reader.specs.Typed.{LooksUpNames, Made, definition_uses, variable_uses, names_before_functions, StandsBefore, with_types, AreTyped}
use Rattle.ir_reader.proofs.Making.{looked_extend, all_later}
use Rattle.ir_reader.proofs.Setting.{with_names, with_front}

abbrev pub entries : List Definition → List TypeName
entries ds = map (λ (d : Definition). missing_entry d.name) ds

defined_names : (ds : List Definition) → names_of (entries ds) ≡ map (λ (d : Definition). d.name) ds
defined_names [] = refl
defined_names (d ∷ ds) = ap (λ (l : List Name). d.name ∷ l) (defined_names ds)

-- ---- what the names stand for

module _ (names : List Name) (types : List MemTy) where
  abbrev said : Name → Option (Option (List TypeNode)) → Option (Name × Option (List TypeNode))
  said n o = option_map (λ (t : Option (List TypeNode)). (n, t)) o

  said_so : (n : Name) (ty : NamedType) → definition_over names types (record { name = n; ty = ty }) ≡ said n (stands_for names types ty)
  said_so n (Defined id) = refl
  said_so n Opaque = refl
  said_so n Missing = refl

  -- the definitions of names that stand for what the definitions say
  pub definitions_are : (ds : List Definition) (tys : List NamedType) → map (stands_for names types) tys ≡ map defined_as ds → filter_map (definition_over names types) (with_types (entries ds) tys) ≡ map definition_of ds
  definitions_are [] [] e = refl
  definitions_are [] (ty ∷ tys) e = absurd cc
  definitions_are (d ∷ ds) [] e = absurd cc
  definitions_are (d ∷ ds) (ty ∷ tys) e =
      let here : stands_for names types ty ≡ defined_as d = cc in
      let there : map (stands_for names types) tys ≡ map defined_as ds = cc in
      let one : definition_over names types (record { name = d.name; ty = ty }) ≡ Some (definition_of d) = said_so d.name ty ∙ ap (said d.name) here in
      rw one (ap (λ (l : List (Name × Option (List TypeNode))). definition_of d ∷ l) (definitions_are ds tys there))

  stands_nowhere : (d : Definition) (ty : NamedType) → stands_for names types ty ≡ defined_as d → ty ≡ Missing → ⊥
  stands_nowhere d ty e m = let f : stands_for names types Missing ≡ defined_as d = sym (ap (stands_for names types) m) ∙ e in cc

  none_missing : (ds : List Definition) (tys : List NamedType) → map (stands_for names types) tys ≡ map defined_as ds → (i : ℕ) (x : TypeName) → slice_get (with_types (entries ds) tys) i ≡ Some x → x.ty ≡ Missing → ⊥
  none_missing [] tys e i x at m = cc
  none_missing (d ∷ ds) [] e i x at m = cc
  none_missing (d ∷ ds) (ty ∷ tys) e zero x at m =
      let here : stands_for names types ty ≡ defined_as d = cc in
      let first : TypeName = record { name = d.name; ty = ty } in
      let same : first ≡ x = cc in
      stands_nowhere d ty here (ap (λ (t : TypeName). t.ty) same ∙ m)
  none_missing (d ∷ ds) (ty ∷ tys) e (suc i) x at m = let there : map (stands_for names types) tys ≡ map defined_as ds = cc in none_missing ds tys there i x at m

  pub all_apart : (ds : List Definition) (tys : List NamedType) → map (stands_for names types) tys ≡ map defined_as ds → AreEntriesApart (with_types (entries ds) tys)
  all_apart ds tys e = λ i j x y a b m d. absurd (none_missing ds tys e i x a m)

  no_definitions : (ns : List Name) → filter_map (definition_over names types) (map missing_entry ns) ≡ []
  no_definitions [] = refl
  no_definitions (n ∷ ns) = no_definitions ns

-- ---- places of types

missing_before : (n : ℕ) (ns : List Name) → AllByRecursion (IsDefinedBefore n) (map missing_entry ns)
missing_before n [] = tt
missing_before n (m ∷ ns) = (tt, missing_before n ns)

entry_before : (n : ℕ) (name : Name) (ty : NamedType) → StandsBefore n ty → IsDefinedBefore n (record { name = name; ty = ty })
entry_before n name (Defined id) h = h
entry_before n name Opaque h = tt
entry_before n name Missing h = tt

all_before : (n : ℕ) (ds : List Definition) (tys : List NamedType) (ns : List Name) → AllByRecursion (StandsBefore n) tys → AllByRecursion (IsDefinedBefore n) (with_types (entries ds) tys ++ map missing_entry ns)
all_before n [] tys ns h = missing_before n ns
all_before n (d ∷ ds) [] ns h = (tt, entries_before ds)
  where
    entries_before : (es : List Definition) → AllByRecursion (IsDefinedBefore n) (entries es ++ map missing_entry ns)
    entries_before [] = missing_before n ns
    entries_before (e ∷ es) = (tt, entries_before es)
all_before n (d ∷ ds) (ty ∷ tys) ns h = (entry_before n d.name ty h.0, all_before n ds tys ns h.1)

-- ---- all of them

module _ (ds : List Definition) (vs : List Variable) (start first types : List MemTy) (tys : List NamedType) (symbols : List Symbol) (known names new : List TypeName) (d : Made stands_for defined_as definition_uses (entries ds) start ds tys known first)
    (v : Made symbol_over (λ (v : Variable). Some (variable_symbol v)) variable_uses known first vs symbols names types) where
  abbrev used : List Name
  used = concat (map definition_uses ds) ++ concat (map variable_uses vs)

  looked : LooksUpNames (entries ds) used names
  looked = looked_up (entries ds) known names (concat (map definition_uses ds)) (concat (map variable_uses vs)) d.names_grow v.names_grow

  ns : List Name
  ns = unknown (names_of (entries ds)) used

  said_of_all : map (stands_for (names_of names) types) tys ≡ map defined_as ds
  said_of_all = d.stands (names_of names) types (names_extend known names (looked_extend known names (concat (map variable_uses vs)) v.names_grow)) v.types_grow

  as_many : length tys ≡ length (entries ds)
  as_many =
      let e : length (map (stands_for (names_of names) types) tys) ≡ length (map defined_as ds) = ap length said_of_all in
      sym (length-map tys (stands_for (names_of names) types)) ∙ e ∙ length-map ds defined_as ∙ sym (length-map ds (λ (d : Definition). missing_entry d.name))

  pub few : length tys ≤ length names
  few = omega (arith, as_many, extends_length (entries ds) names (looked_extend (entries ds) names used looked))

  new_are : new ≡ with_types names tys → new ≡ with_types (entries ds) tys ++ map missing_entry ns
  unfolding ns
  new_are e = e ∙ ap (λ (l : List TypeName). with_types l tys) looked ∙ with_front (entries ds) (map missing_entry ns) tys (omega (arith, as_many))

  same : new ≡ with_types names tys → names_of new ≡ names_of names
  same e = ap names_of e ∙ with_names names tys

  named : new ≡ with_types names tys → names_of new ≡ names_before_functions ds vs
  unfolding ns
  named e =
      same e
      ∙ ap names_of looked
      ∙ names_append (entries ds) (map missing_entry ns)
      ∙ ap (λ (l : List Name). names_of (entries ds) ++ l) (missing_names ns)
      ∙ ap (λ (l : List Name). l ++ unknown l used) (defined_names ds)

  apart : AreEntriesApart (with_types (entries ds) tys ++ map missing_entry ns)
  unfolding ns
  apart = subst (λ (l : List Name). AreEntriesApart (with_types (entries ds) tys ++ map missing_entry (unknown l used))) (with_names (entries ds) tys) (entries_looked (with_types (entries ds) tys) used (all_apart (names_of names) types ds tys said_of_all))

  defined : filter_map (definition_over (names_of names) types) (with_types (entries ds) tys ++ map missing_entry ns) ≡ map definition_of ds
  defined =
      let over = definition_over (names_of names) types in
      filter_map-append over (with_types (entries ds) tys) (map missing_entry ns)
      ∙ ap (λ (l : List (Name × Option (List TypeNode))). filter_map over (with_types (entries ds) tys) ++ l) (no_definitions (names_of names) types ns)
      ∙ append-nil (filter_map over (with_types (entries ds) tys))
      ∙ definitions_are (names_of names) types ds tys said_of_all

  pub typed : AllByRecursion (StandsBefore (length first)) tys → new ≡ with_types names tys → AreTyped ds vs types new symbols
  typed within e = record {
    are = subst (λ (l : List Name). AreTypes l 0 types) (sym (same e)) v.are;
    before = subst (AllByRecursion (IsDefinedBefore (length types))) (sym (new_are e)) (all_before (length types) ds tys ns (all_later (length first) (length types) tys (extends_length first types v.types_grow) within));
    apart = subst AreEntriesApart (sym (new_are e)) apart;
    named = named e;
    defined = ap (λ (l : List Name). filter_map (definition_over l types) new) (same e) ∙ ap (filter_map (definition_over (names_of names) types)) (new_are e) ∙ defined;
    stand = λ later others n t. v.stands later others (subst (λ (l : List Name). Extends l later) (same e) n) t;
  }
