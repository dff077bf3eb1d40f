-- The first use in a module of what isn't known, by places and by names.
use Rattle.std.proofs.Common.{◌≡◌, ℕ, Bool, List, [], ◌++◌, map, Option, refl, sym, ap, subst, ◌∙◌}
use Rattle.std.specs.Option.{option_map}
use Rattle.text_forms.specs.Nested.{concat}
use Rattle.ir_types.specs.declared.memory_type.TypeId.{TypeId}
use Rattle.ir_types.specs.declared.memory_type.TypeName.{TypeName}
use Rattle.ir_types.specs.declared.memory_type.NamedType.{NamedType}
use Rattle.ir_types.specs.declared.memory_type.NamedType.TheVariants.{Defined, Opaque, Missing}
use Rattle.ir_types.specs.declared.module.Symbol.{Symbol}
use Rattle.ir_types.specs.declared.module.SymbolKind.{SymbolKind}
use Rattle.ir_types.specs.declared.module.SymbolKind.TheVariants as symbols
use Rattle.ir_types.specs.declared.module.Function.{Function}
use Rattle.ir_types.specs.declared.module.Module.{Module}
use Rattle.ir_types.specs.Denotes.{nodes_in, type_name_in, symbol_in, function_in, tables_of, tree_of, Denotes}
use Rattle.ir_types.specs.Names.{has_name}
use Rattle.ir_shape.specs.Modules.{IsModule}
use Rattle.ir_types.specs.Tree.{FunctionTree, TypeNameTree, SymbolTree, ModuleTree}
use Rattle.ir_types.specs.TypeNodes.{names_used}
use Rattle.ir_types.specs.Used.{types_of_definition, types_of_symbol}
use Rattle.ir_shape.proofs.Placing.{module_placed}
use Rattle.ir_rules.specs.declared.fault.Subject.TheVariants as subjects
use Rattle.ir_rules.specs.declared.fault.Breach.{Breach}
use Rattle.ir_rules.specs.Breaches.{first, outside, inside, in_functions}
use Rattle.ir_rules.specs.Unknown.{Known, known_in, known_within, unknown_of, unknown_types, unknown_uses, unknown_names}
use Rattle.ir_check_names.specs.Choice.{or_else, first_of}
use Rattle.ir_check_names.specs.Definitions.{is_symbol_known}
use Rattle.ir_check_names.specs.Missing.{missing_at, missing_names, missing_in_definition, missing_in_symbol}
use Rattle.ir_check_names.specs.FirstUnknown.{type_subject, local_marks, unknown_in, first_unknown}
use Rattle.ir_check_names.proofs.Choosing.{first_both, mapped_both, mapped_twice, mapped_first, first_map, first_concat, first_of_mapped, in_some, first_of_some, in_turn, same_firsts}
use Rattle.ir_check_names.proofs.Marked.{marks_of}
use Rattle.ir_check_names.proofs.Doubled.{IsSound, all_sound}
use Rattle.ir_check_names.proofs.Lacking.{first_unmet, type_known, symbol_known, symbols_marked, type_right}
use Rattle.ir_check_names.proofs.Using.{locals_marked, function_right}

module _ (m : Module) (r : IsModule m) where
  abbrev tree : ModuleTree
  tree = tree_of m

  denoted : Denotes m (tree_of m)
  denoted = r.denotes

  abbrev missing : List (Option ℕ)
  missing = missing_names m.type_names [] m.types

  abbrev marks : List Bool
  marks = map (λ (s : Symbol). is_symbol_known s.kind) m.symbols

  -- the first name in a type
  in_type : (k : Known) → k.types ≡ (known_in (tree_of m)).types → (id : TypeId) → option_map (type_subject m.type_names) (missing_at missing id) ≡ first_unmet k (map subjects.TypeName (names_used (nodes_in m id)))
  in_type k e id = type_right k m.type_names (λ i n at. ap (has_name n.name) e ∙ type_known m (tree_of m) denoted i n at) m.types id (module_placed m r).types

  -- ---- in heads

  abbrev said : Option ℕ → Option Breach
  said o = option_map (λ p. outside (type_subject m.type_names p)) o

  head_right : (id : TypeId) → said (missing_at missing id) ≡ first (unknown_types (tree_of m) (names_used (nodes_in m id)))
  head_right id =
      sym (mapped_twice outside (type_subject m.type_names) (missing_at missing id))
      ∙ ap (option_map outside) (in_type (known_in (tree_of m)) refl id)
      ∙ sym (first_map outside (unknown_of (known_in (tree_of m)) (map subjects.TypeName (names_used (nodes_in m id)))))

  definition_right : (n : TypeName) → said (missing_in_definition missing n.ty) ≡ in_some (λ (t : TypeNameTree). first (unknown_types (tree_of m) (types_of_definition t.ty))) (type_name_in m n)
  definition_right n = by n.ty
    where
      by : (ty : NamedType) → said (missing_in_definition missing ty) ≡ in_some (λ (t : TypeNameTree). first (unknown_types (tree_of m) (types_of_definition t.ty))) (type_name_in m (record n { ty = ty }))
      by (Defined id) = head_right id
      by Opaque = refl
      by Missing = refl

  symbol_right : (s : Symbol) → said (missing_in_symbol missing s.kind) ≡ in_some (λ (t : SymbolTree). first (unknown_types (tree_of m) (types_of_symbol t.kind))) (symbol_in m s)
  symbol_right s = by s.kind
    where
      by : (kind : SymbolKind) → said (missing_in_symbol missing kind) ≡ in_some (λ (t : SymbolTree). first (unknown_types (tree_of m) (types_of_symbol t.kind))) (symbol_in m (record s { kind = kind }))
      by (symbols.Variable id writable) = head_right id
      by (symbols.Function f) = refl
      by symbols.Missing = refl

  definitions_right : said (first_of (λ (n : TypeName). missing_in_definition missing n.ty) m.type_names) ≡ first (concat (map (λ (t : TypeNameTree). unknown_types (tree_of m) (types_of_definition t.ty)) (tree_of m).type_names))
  definitions_right =
      let found = λ (t : TypeNameTree). first (unknown_types (tree_of m) (types_of_definition t.ty)) in
      let same : (λ (n : TypeName). said (missing_in_definition missing n.ty)) ≡ (λ (n : TypeName). in_some found (type_name_in m n)) = λ j n. definition_right n j in
      mapped_first (λ p. outside (type_subject m.type_names p)) (λ (n : TypeName). missing_in_definition missing n.ty) m.type_names
      ∙ ap (λ (f : TypeName → Option Breach). first_of f m.type_names) same
      ∙ sym (first_concat (λ (t : TypeNameTree). unknown_types (tree_of m) (types_of_definition t.ty)) (tree_of m).type_names ∙ first_of_some (type_name_in m) found m.type_names)

  symbols_right : said (first_of (λ (s : Symbol). missing_in_symbol missing s.kind) m.symbols) ≡ first (concat (map (λ (s : SymbolTree). unknown_types (tree_of m) (types_of_symbol s.kind)) (tree_of m).symbols))
  symbols_right =
      let found = λ (s : SymbolTree). first (unknown_types (tree_of m) (types_of_symbol s.kind)) in
      let same : (λ (s : Symbol). said (missing_in_symbol missing s.kind)) ≡ (λ (s : Symbol). in_some found (symbol_in m s)) = λ j s. symbol_right s j in
      mapped_first (λ p. outside (type_subject m.type_names p)) (λ (s : Symbol). missing_in_symbol missing s.kind) m.symbols
      ∙ ap (λ (f : Symbol → Option Breach). first_of f m.symbols) same
      ∙ sym (first_concat (λ (s : SymbolTree). unknown_types (tree_of m) (types_of_symbol s.kind)) (tree_of m).symbols ∙ first_of_some (symbol_in m) found m.symbols)

  -- ---- in functions

  marks_right : map (λ (s : Symbol). is_symbol_known s.kind) m.symbols ≡ marks_of (map (λ (s : Symbol). s.name) m.symbols) (known_in (tree_of m)).symbols
  marks_right = symbols_marked (known_in (tree_of m)).symbols m.symbols (symbol_known m (tree_of m) denoted)

  in_function : (f : Function) → IsSound (tables_of m) f → unknown_in m marks missing f ≡ first (map (inside f.name) (unknown_uses (tree_of m) (function_in (tables_of m) f)))
  in_function f s =
      let k = known_within (tree_of m) (function_in (tables_of m) f) in
      function_right m f k (local_marks f) marks missing (locals_marked (tables_of m) f s.table s.placed) marks_right (in_type k refl) s.placed

  functions_right : first_of (unknown_in m marks missing) m.functions ≡ first (in_functions (unknown_uses (tree_of m)) (tree_of m))
  functions_right =
      let t = tables_of m in
      let found = λ (f : FunctionTree). map (inside f.name) (unknown_uses (tree_of m) f) in
      same_firsts (IsSound t) (unknown_in m marks missing) (λ f. first (found (function_in t f))) in_function m.functions (all_sound t m.functions denoted.tables (module_placed m r).functions)
      ∙ sym (first_concat found (map (function_in t) m.functions) ∙ first_of_mapped (function_in t) (λ (f : FunctionTree). first (found f)) m.functions)

  -- ---- in a module

  pub in_module : first_unknown m ≡ first (unknown_names (tree_of m))
  in_module =
      let a = first_of (λ (n : TypeName). missing_in_definition missing n.ty) m.type_names in
      let b = first_of (λ (s : Symbol). missing_in_symbol missing s.kind) m.symbols in
      let c = first_of (unknown_in m marks missing) m.functions in
      let xs = concat (map (λ (t : TypeNameTree). unknown_types (tree_of m) (types_of_definition t.ty)) (tree_of m).type_names) in
      let ys = concat (map (λ (s : SymbolTree). unknown_types (tree_of m) (types_of_symbol s.kind)) (tree_of m).symbols) in
      let zs = in_functions (unknown_uses (tree_of m)) (tree_of m) in
      ap (λ o. or_else o c) (mapped_both (λ p. outside (type_subject m.type_names p)) a b)
      ∙ in_turn (said a) (said b) c
      ∙ ap (λ o. or_else o (or_else (said b) c)) definitions_right
      ∙ ap (λ o. or_else (first xs) (or_else o c)) symbols_right
      ∙ ap (λ o. or_else (first xs) (or_else (first ys) o)) functions_right
      ∙ sym (first_both xs (ys ++ zs) ∙ ap (or_else (first xs)) (first_both ys zs))
