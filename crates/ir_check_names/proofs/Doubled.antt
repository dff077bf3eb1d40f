-- The first name at whose place there is a mark is the first that stands before, too.
use Rattle.std.proofs.Common.{◌≡◌, ◌<◌, Bool, true, false, cond, ◌&&◌, List, [], ◌∷◌, ◌++◌, map, length, get_or, set, Option, Some, refl, sym, ap, ◌∙◌}
use Rattle.std.specs.Prelude.{filter}
use Rattle.std.specs.Option.{option_map}
use Rattle.std.specs.List.{AllByRecursion, AllZip, filter_map, cons_option}
use Rattle.std.proofs.lemmas.List.{map-append}
use Rattle.ir_types.specs.declared.name.Name.{Name}
use Rattle.ir_types.specs.declared.name.ValueId.{ValueId}
use Rattle.ir_types.specs.declared.memory_type.TypeName.{TypeName}
use Rattle.ir_types.specs.declared.memory_type.NamedType.{NamedType}
use Rattle.ir_types.specs.declared.memory_type.NamedType.TheVariants.{Defined, Opaque, Missing}
use Rattle.ir_types.specs.declared.module.Symbol.{Symbol}
use Rattle.ir_types.specs.declared.module.SymbolKind.{SymbolKind}
use Rattle.ir_types.specs.declared.module.SymbolKind.TheVariants as symbols
use Rattle.ir_types.specs.declared.module.Function.{Function}
use Rattle.ir_types.specs.declared.module.Module.{Module}
use Rattle.ir_types.specs.Denotes.{Tables, name_in, type_name_in, symbol_in, function_in, tables_of, tree_of}
use Rattle.ir_types.specs.Names.{IsTable, has_name}
use Rattle.ir_shape.specs.Modules.{IsModule}
use Rattle.ir_types.specs.Tree.{FunctionTree, TypeNameTree, SymbolTree}
use Rattle.ir_shape.specs.Placed.{IsFunctionPlaced}
use Rattle.ir_shape.proofs.Placing.{module_placed}
use Rattle.ir_rules.specs.declared.fault.Subject.{Subject}
use Rattle.ir_rules.specs.declared.fault.Subject.TheVariants as subjects
use Rattle.ir_rules.specs.declared.fault.Breach.{Breach}
use Rattle.ir_rules.specs.Breaches.{first, Found, behind_those, outside, inside, in_functions}
use Rattle.ir_rules.specs.Locals.{is_text, names_of, definitions_of}
use Rattle.ir_rules.specs.Locals as rules
use Rattle.ir_rules.specs.Duplicates.{repeated, repeated_locals, duplicate_names}
use Rattle.ir_check_names.specs.declared.definitions.Definition.{Definition}
use Rattle.ir_check_names.specs.Choice.{or_else, first_of}
use Rattle.ir_check_names.specs.Definitions.{of_function, is_symbol_known, breach_at}
use Rattle.ir_check_names.specs.Repeated.{is_type_known, repeated_type, repeated_symbol, is_text_at, repeated_from, repeated_in, first_repeated}
use Rattle.ir_check_names.proofs.Choosing.{first_both, first_map, first_concat, first_of_mapped, same_firsts}
use Rattle.ir_check_names.proofs.Marked.{got_at, marks_of, mark_at, none_marked, marked_more}
use Rattle.ir_check_names.proofs.Defining.{Says, IsNamed, function_says, function_named, breach_says}

-- ---- in a function

-- what the rule finds
abbrev said : List rules.Definition × rules.Definition → Found
said x = (subjects.Local x.1.name, x.1.place)

abbrev again : List rules.Definition × rules.Definition → Bool
again x = is_text x.1.name && has_name x.1.name (names_of x.0)

abbrev found_behind : Function → List rules.Definition → List rules.Definition → Option Breach
found_behind f before es = first (map (inside f.name) (map said (filter again (behind_those before es))))

here : (f : Function) (before es : List rules.Definition) (e : rules.Definition) (b : Bool) → again (before, e) ≡ b → found_behind f before (e ∷ es) ≡ cond b (Some (inside f.name (subjects.Local e.name, e.place))) (found_behind f (before ++ e ∷ []) es)
here f before es e true h = rw h refl
here f before es e false h = rw h refl

-- whether a definition is found, as it is looked for
abbrev is_found : List Name → List Bool → Definition → Bool
is_found names given d = is_text_at names d.name && get_or given d.name.0 false

-- what is looked for, from here on
abbrev looked : Function → List Bool → List Definition → Option Breach
looked f given ds = option_map (breach_at f) (repeated_from f.names given ds)

by_mark : (f : Function) (given : List Bool) (d : Definition) (ds : List Definition) (b : Bool) → is_found f.names given d ≡ b → looked f given (d ∷ ds) ≡ cond b (Some (breach_at f d)) (looked f (set given d.name.0 true) ds)
by_mark f given d ds true h = rw (h, option_map) refl
by_mark f given d ds false h = rw (h, option_map) refl

text_there : (names : List Name) (id : ValueId) (n : Name) → id.0 < length names → name_in names id ≡ n → is_text_at names id ≡ is_text n
text_there names id n lt e = rw (got_at names id.0 lt, is_text_at) (ap is_text e)

repeated_right : (f : Function) (before : List rules.Definition) (ds : List Definition) (es : List rules.Definition) → IsTable f.names → AllByRecursion (IsNamed f.names) ds → AllZip (Says f.names) ds es
    → looked f (marks_of f.names (names_of before)) ds ≡ found_behind f before es
repeated_right f before [] [] table named says = refl
repeated_right f before [] (e ∷ es) table named says = absurd says
repeated_right f before (d ∷ ds) [] table named says = absurd says
repeated_right f before (d ∷ ds) (e ∷ es) table named says =
    by_mark f (marks_of f.names (names_of before)) d ds (again (before, e)) same ∙ by (again (before, e)) (repeated_right f (before ++ e ∷ []) ds es table named.1 says.1) ∙ sym (here f before es e (again (before, e)) refl)
  where
    -- the mark says whether the name stands before
    same : is_found f.names (marks_of f.names (names_of before)) d ≡ again (before, e)
    same =
        let text = text_there f.names d.name e.name named.0 (sym says.0.0) in
        let mark : get_or (marks_of f.names (names_of before)) d.name.0 false ≡ has_name e.name (names_of before) = mark_at f.names (names_of before) d.name.0 named.0 ∙ ap (λ n. has_name n (names_of before)) (sym says.0.0) in
        cc

    -- with one mark more
    later : set (marks_of f.names (names_of before)) d.name.0 true ≡ marks_of f.names (names_of (before ++ e ∷ []))
    later = marked_more f.names (names_of before) d.name.0 table named.0 ∙ ap (marks_of f.names) (ap (λ n. names_of before ++ n ∷ []) (sym says.0.0) ∙ sym (map-append (λ (d : rules.Definition). d.name) before (e ∷ [])))

    by : (b : Bool) → looked f (marks_of f.names (names_of (before ++ e ∷ []))) ds ≡ found_behind f (before ++ e ∷ []) es
        → cond b (Some (breach_at f d)) (looked f (set (marks_of f.names (names_of before)) d.name.0 true) ds) ≡ cond b (Some (inside f.name (subjects.Local e.name, e.place))) (found_behind f (before ++ e ∷ []) es)
    by true rest = ap Some (breach_says f d e named.0 says.0)
    by false rest = ap (λ given. looked f given ds) later ∙ rest

-- a function of a module: its names are a table, and each position is one of its list
pub record IsSound (t : Tables) (f : Function) : Type 0 where
  pub table : IsTable f.names
  pub placed : IsFunctionPlaced t f

-- functions that are in place, with tables, are sound
pub all_sound : (t : Tables) (fs : List Function) → AllByRecursion (λ f. IsTable f.names) fs → AllByRecursion (IsFunctionPlaced t) fs → AllByRecursion (IsSound t) fs
all_sound t [] h k = tt
all_sound t (f ∷ fs) h k = (record { table = h.0; placed = k.0 }, all_sound t fs h.1 k.1)

in_function : (t : Tables) (f : Function) → IsSound t f → repeated_in f ≡ first (map (inside f.name) (repeated_locals (function_in t f)))
in_function t f s = ap (λ given. looked f given (of_function f)) (none_marked f.names) ∙ repeated_right f [] (of_function f) (definitions_of (function_in t f)) s.table (function_named t f s.placed) (function_says t f)

-- ---- in lists

-- the first of some names that stands before, too
abbrev first_again : List Name → List Name → Option Name
first_again seen names = first (map (λ x. x.1) (filter (λ x. has_name x.1 x.0) (behind_those seen names)))

next : (seen names : List Name) (n : Name) → cond (has_name n seen) (Some n) (first_again (seen ++ n ∷ []) names) ≡ first_again seen (n ∷ names)
next seen names n = by (has_name n seen) refl
  where
    by : (b : Bool) → has_name n seen ≡ b → cond b (Some n) (first_again (seen ++ n ∷ []) names) ≡ first_again seen (n ∷ names)
    by true e = rw e refl
    by false e = rw e refl

module _ (m : Module) where
  abbrev names_there : List TypeName → List Name
  names_there es = map (λ (t : TypeNameTree). t.name) (filter_map (type_name_in m) es)

  types_right : (seen : List Name) (es : List TypeName) → repeated_type seen es ≡ first_again seen (names_there es)
  types_right seen [] = refl
  types_right seen (e ∷ es) = by e.ty (types_right (seen ++ e.name ∷ []) es) (types_right seen es)
    where
      by : (ty : NamedType) → repeated_type (seen ++ e.name ∷ []) es ≡ first_again (seen ++ e.name ∷ []) (names_there es) → repeated_type seen es ≡ first_again seen (names_there es)
          → cond (is_type_known ty) (cond (has_name e.name seen) (Some e.name) (repeated_type (seen ++ e.name ∷ []) es)) (repeated_type seen es) ≡ first_again seen (map (λ (t : TypeNameTree). t.name) (cons_option (type_name_in m (record e { ty = ty })) (filter_map (type_name_in m) es)))
      by (Defined id) here there = ap (cond (has_name e.name seen) (Some e.name)) here ∙ next seen (names_there es) e.name
      by Opaque here there = ap (cond (has_name e.name seen) (Some e.name)) here ∙ next seen (names_there es) e.name
      by Missing here there = there

  abbrev symbols_there : List Symbol → List Name
  symbols_there ss = map (λ (s : SymbolTree). s.name) (filter_map (symbol_in m) ss)

  symbols_right : (seen : List Name) (ss : List Symbol) → repeated_symbol seen ss ≡ first_again seen (symbols_there ss)
  symbols_right seen [] = refl
  symbols_right seen (s ∷ ss) = by s.kind (symbols_right (seen ++ s.name ∷ []) ss) (symbols_right seen ss)
    where
      by : (kind : SymbolKind) → repeated_symbol (seen ++ s.name ∷ []) ss ≡ first_again (seen ++ s.name ∷ []) (symbols_there ss) → repeated_symbol seen ss ≡ first_again seen (symbols_there ss)
          → cond (is_symbol_known kind) (cond (has_name s.name seen) (Some s.name) (repeated_symbol (seen ++ s.name ∷ []) ss)) (repeated_symbol seen ss) ≡ first_again seen (map (λ (s : SymbolTree). s.name) (cons_option (symbol_in m (record s { kind = kind })) (filter_map (symbol_in m) ss)))
      by (symbols.Variable id writable) here there = ap (cond (has_name s.name seen) (Some s.name)) here ∙ next seen (symbols_there ss) s.name
      by (symbols.Function f) here there = ap (cond (has_name s.name seen) (Some s.name)) here ∙ next seen (symbols_there ss) s.name
      by symbols.Missing here there = there

-- ---- in a module

functions_right : (m : Module) → IsModule m → first_of repeated_in m.functions ≡ first (in_functions repeated_locals (tree_of m))
functions_right m r =
    let t = tables_of m in
    same_firsts (IsSound t) repeated_in (λ f. first (map (inside f.name) (repeated_locals (function_in t f)))) (in_function t) m.functions (all_sound t m.functions r.denotes.tables (module_placed m r).functions)
    ∙ sym (first_concat (λ (f : FunctionTree). map (inside f.name) (repeated_locals f)) (map (function_in t) m.functions) ∙ first_of_mapped (function_in t) (λ (f : FunctionTree). first (map (inside f.name) (repeated_locals f))) m.functions)

-- the first of some names, said of each
said_of : (S : Name → Subject) (o : Option Name) (names : List Name) → o ≡ first names → option_map (λ n. outside (S n)) o ≡ first (map (λ n. outside (S n)) names)
said_of S o names e = ap (option_map (λ n. outside (S n))) e ∙ sym (first_map (λ n. outside (S n)) names)

-- the first name that is repeated in a module is the first in its tree
pub in_module : (m : Module) → IsModule m → first_repeated m ≡ first (duplicate_names (tree_of m))
in_module m r =
    let types = map (λ n. outside (subjects.TypeName n)) (repeated (names_there m m.type_names)) in
    let globals = map (λ n. outside (subjects.Symbol n)) (repeated (symbols_there m m.symbols)) in
    let inner = in_functions repeated_locals (tree_of m) in
    let a = said_of subjects.TypeName (repeated_type [] m.type_names) (repeated (names_there m m.type_names)) (types_right m [] m.type_names) in
    let b = said_of subjects.Symbol (repeated_symbol [] m.symbols) (repeated (symbols_there m m.symbols)) (symbols_right m [] m.symbols) in
    let c = functions_right m r in
    let all = first_both types (globals ++ inner) ∙ ap (or_else (first types)) (first_both globals inner) in
    cc
