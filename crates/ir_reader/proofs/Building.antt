-- The module of tables and functions denotes what the items are collected to.
use Rattle.std.proofs.Common.{◌≡◌, ℕ, List, [], ◌∷◌, ◌++◌, length, map, drop, Option, Some, None, Result, Ok, Err, refl, sym, ap, ◌∙◌, subst}
use Rattle.std.specs.Prelude.{IfOk}
use Rattle.std.specs.declared.alloc.AllocError.{AllocError}
use Rattle.std.specs.Option.{option_map}
use Rattle.std.specs.List.{AllByRecursion, filter_map, cons_option, range_with_len}
use Rattle.std.proofs.Math.Seq.{drop-append_seam}
use Rattle.std.proofs.lemmas.List.{map-append, length-map, append-nil}
use Rattle.std.proofs.lemmas.List.Elements.{filter_map-append}
use Rattle.text_forms.specs.declared.cursor.SyntaxFault.{SyntaxFault}
use Rattle.text_forms.specs.declared.cursor.SyntaxFault.TheVariants.{NoReading, Memory}
use Rattle.text_forms.specs.Gives.{Gives}
use Rattle.text_forms.specs.Nested.{concat}
use Rattle.text_forms.specs.Reading.{◌>>=◌}
use Rattle.text_lex.specs.declared.fault.Count.{Count}
use Rattle.ir_types.specs.declared.name.Name.{Name}
use Rattle.ir_types.specs.declared.module.Function.{Function}
use Rattle.ir_types.specs.declared.module.Symbol.{Symbol}
use Rattle.ir_types.specs.declared.module.Module.{Module}
use Rattle.ir_types.specs.declared.memory_type.MemTy.{MemTy}
use Rattle.ir_types.specs.declared.memory_type.Extent.{Extent}
use Rattle.ir_types.specs.declared.memory_type.TypeName.{TypeName}
use Rattle.ir_types.specs.declared.memory_type.NamedType.{NamedType}
use Rattle.ir_types.specs.declared.memory_type.NamedType.TheVariants.{Defined, Opaque, Missing}
use Rattle.ir_types.specs.Names.{IsTable, unknown}
use Rattle.ir_types.specs.Tree.{KeptTexts, TypeNameTree, SymbolTree, FunctionTree, ModuleTree, Item}
use Rattle.ir_types.specs.Offsets.{Definitions, definitions_in}
use Rattle.ir_types.specs.Skimmed.{Skimmed}
use Rattle.ir_types.specs.Denotes.{Tables, type_names_of, type_name_in, tables_of, function_in, IsBare, function_place, Denotes}
use Rattle.ir_types.specs.Used.{types_of, insts_of, all_insts, all_type_names, all_symbol_names}
use Rattle.ir_types.specs.Collected.{as_head, as_comdat, as_type, as_variable, as_function, as_attributes, as_metadata, symbol_of, symbol_of_function, collected}
use Rattle.ir_limits.specs.Mentioned.{in_items}
use Rattle.ir_limits.specs.Limits.{first_long, passed_by, limit_passed}
use Rattle.ir_reader_types.specs.TypeTable.{names_of, missing_entry}
use Rattle.ir_reader_types.specs.Tables.{TableLists, tables_in, definition_over, definitions_of, Grows, AreTables}
use Rattle.ir_reader_types.specs.Uses.{InstsUse}
use Rattle.ir_reader_types.proofs.LookUps.{names_append, missing_names}
use Rattle.ir_reader_items.specs.declared.part.Variable.{Variable}
use Rattle.ir_reader_items.specs.declared.source.FunctionSource.{FunctionSource}
use Rattle.ir_reader_items.specs.Parts.{variable_of}
use Rattle.ir_reader.specs.declared.gather.Gathered.{Gathered}
use Rattle.ir_reader.specs.declared.longs.ItemLong.{ItemLong}
use Rattle.ir_reader.specs.Gathered.{definition_of, skimmed_of, function_among, long_among, Holds}
use Rattle.ir_reader.specs.Trees.{symbol_over, variable_symbol, function_named, missing_symbol}
use Rattle.ir_reader.specs.Typed.{all_symbols, ArePrepared}
use Rattle.ir_reader.specs.Reading.{functions_read, filled_items, IsBuilt, GivesModule}
use Rattle.ir_reader.proofs.Filling.{put, filled_is}
use Rattle.ir_reader.proofs.Groups as groups
use Rattle.ir_reader.proofs.Usage.{type_names_are, symbol_names_are}
use Rattle.ir_reader.proofs.Bare.{all_there, none_said, missing_named, same_named, bare_behind}
use Rattle.ir_reader.proofs.Outlines.{names_read}
use Rattle.ir_reader.proofs.Symbolic.{symbols_named, missing_places}

-- ---- lists of which some stand for nothing

one_mapped : {B C : Type 0} (g : B → C) (o : Option B) (bs : List B) (cs : List C) → cs ≡ map g bs → cons_option (option_map g o) cs ≡ map g (cons_option o bs)
one_mapped g None bs cs e = e
one_mapped g (Some b) bs cs e = ap (λ (l : List _). g b ∷ l) e

mapped_there : {A B C : Type 0} (f : A → Option B) (g : B → C) (h : A → Option C) (xs : List A) → ((x : A) → h x ≡ option_map g (f x)) → filter_map h xs ≡ map g (filter_map f xs)
mapped_there f g h [] e = refl
mapped_there f g h (x ∷ xs) e = ap (λ (o : Option _). cons_option o (filter_map h xs)) (e x) ∙ one_mapped g (f x) (filter_map f xs) (filter_map h xs) (mapped_there f g h xs e)

-- ---- the parts of a module's tree

-- a module of these symbols, functions and lines, over these tables
abbrev pub module_over : TableLists → List KeptTexts → List Symbol → List Function → List KeptTexts → Module
module_over t head symbols functions tail = record { head = head; types = t.types; extents = t.extents; type_names = t.entries; symbols = symbols; functions = functions; tail = tail }

said : (m : Module) (n : Name) (ty : NamedType) → type_name_in m (record { name = n; ty = ty }) ≡ option_map groups.type_tree (definition_over (type_names_of m) m.types (record { name = n; ty = ty }))
said m n (Defined id) = refl
said m n Opaque = refl
said m n Missing = refl

symbols_of_variables : (vs : List Variable) → map variable_symbol vs ≡ map symbol_of (map variable_of vs)
symbols_of_variables [] = refl
symbols_of_variables (v ∷ vs) = ap (λ (l : List SymbolTree). variable_symbol v ∷ l) (symbols_of_variables vs)

-- the parts of a module's tree
abbrev tree_so : List KeptTexts → List TypeNameTree → List SymbolTree → List FunctionTree → List KeptTexts → ModuleTree
tree_so head names symbols functions tail = record { head = head; type_names = names; symbols = symbols; functions = functions; tail = tail }

same_parts : (h i : List KeptTexts) (n o : List TypeNameTree) (s t : List SymbolTree) (f g : List FunctionTree) (u v : List KeptTexts) → h ≡ i → n ≡ o → s ≡ t → f ≡ g → u ≡ v → tree_so h n s f u ≡ tree_so i o t g v
same_parts h i n o s t f g u v a b c d e = cc

-- ---- the module

module _ (g : Gathered) (items : List (Item Skimmed)) (h : Holds g items) (old t : TableLists) (symbols : List Symbol) (fs : List Function) (p : ArePrepared g.definitions.items g.variables.items g.functions.items old symbols) (grows : Grows old t)
    (reads : functions_read (definitions_of old) (map skimmed_of g.functions.items) ≡ Some (map (function_in (tables_in t)) fs)) (u : InstsUse old (concat (map insts_of (map (function_in (tables_in t)) fs))) t) where
  abbrev trees : List FunctionTree
  trees = map (function_in (tables_in t)) fs

  abbrev numbered : List (Item FunctionTree)
  numbered = put items trees

  -- the names of types stand for what they stand for in the items
  defined : definitions_of old ≡ definitions_in items
  defined = p.defined ∙ h.definitions

  functions_are : functions_read (definitions_in items) (filter_map function_among items) ≡ Some trees
  functions_are = ap (λ (d : Definitions). functions_read d (filter_map function_among items)) (sym defined) ∙ ap (functions_read (definitions_of old)) (sym h.functions) ∙ reads

  pub filled : filled_items items ≡ Some numbered
  filled = filled_is (definitions_in items) items ∙ ap (λ (o : Option (List FunctionTree)). o >>= λ l. Some (put items l)) functions_are

  same_names : map (λ (f : FunctionTree). f.name) trees ≡ map (λ (s : FunctionSource). s.name) g.functions.items
  same_names = names_read (definitions_of old) g.functions.items trees reads

  as_many : length trees ≡ length (filter_map function_among items)
  as_many =
      let names : length (map (λ (f : FunctionTree). f.name) trees) ≡ length (map (λ (s : FunctionSource). s.name) g.functions.items) = ap length same_names in
      sym (length-map trees (λ (f : FunctionTree). f.name)) ∙ names ∙ length-map g.functions.items (λ (s : FunctionSource). s.name) ∙ sym (length-map g.functions.items skimmed_of) ∙ ap length h.functions

  all_functions : filter_map as_function numbered ≡ trees
  all_functions = groups.functions items trees as_many

  -- those that are only used
  abbrev used : List Name
  used = drop t.known t.symbols

  abbrev all : List Symbol
  all = symbols ++ map missing_symbol used

  known_names : length old.symbols ≡ length symbols
  known_names = ap length p.named ∙ length-map symbols (λ (s : Symbol). s.name)

  only_used : used ≡ grows.symbols.more
  only_used =
      let count : t.known ≡ length old.symbols = grows.known ∙ p.known ∙ sym known_names in
      ap (λ (k : ℕ). drop k t.symbols) count ∙ ap (drop (length old.symbols)) grows.symbols.parts ∙ drop-append_seam old.symbols grows.symbols.more

  named : map (λ (s : Symbol). s.name) all ≡ t.symbols
  named =
      map-append (λ (s : Symbol). s.name) symbols (map missing_symbol used)
      ∙ ap (λ (l : List Name). l ++ map (λ (s : Symbol). s.name) (map missing_symbol used)) (sym p.named)
      ∙ ap (λ (l : List Name). old.symbols ++ l) (missing_named used ∙ only_used)
      ∙ sym grows.symbols.parts

  all_types : (m : Module) → m ≡ module_over t m.head m.symbols m.functions m.tail → filter_map (type_name_in m) t.entries ≡ filter_map as_type numbered
  all_types m e =
      let same : filter_map (definition_over (type_names_of m) m.types) t.entries ≡ definitions_of t = rw e refl in
      mapped_there (definition_over (type_names_of m) m.types) groups.type_tree (type_name_in m) t.entries (λ n. said m n.name n.ty)
      ∙ ap (map groups.type_tree) (same ∙ grows.definitions ∙ defined)
      ∙ sym (groups.types items trees)

  symbols_are : map (symbol_over (names_of t.entries) t.types) symbols ≡ map Some (all_symbols g.variables.items g.functions.items)
  symbols_are = p.stand t grows

  symbols_there : filter_map (symbol_over (names_of t.entries) t.types) all ≡ all_symbols g.variables.items g.functions.items
  symbols_there =
      let over = symbol_over (names_of t.entries) t.types in
      filter_map-append over symbols (map missing_symbol used)
      ∙ ap (λ (l : List SymbolTree). filter_map over symbols ++ l) (none_said (names_of t.entries) t.types used)
      ∙ append-nil (filter_map over symbols)
      ∙ all_there over symbols (all_symbols g.variables.items g.functions.items) symbols_are

  symbol_trees : all_symbols g.variables.items g.functions.items ≡ map symbol_of (filter_map as_variable numbered) ++ map symbol_of_function (filter_map as_function numbered)
  symbol_trees =
      let vs = g.variables.items in
      let variables : map variable_symbol vs ≡ map symbol_of (filter_map as_variable numbered) = symbols_of_variables vs ∙ ap (map symbol_of) (h.variables ∙ sym (groups.variables items trees)) in
      let functions : map function_named (map (λ (s : FunctionSource). s.name) g.functions.items) ≡ map symbol_of_function (filter_map as_function numbered) =
      ap (map function_named) (sym same_names) ∙ sym (symbols_named trees) ∙ ap (map symbol_of_function) (sym all_functions) in
      ap (λ (l : List SymbolTree). l ++ map function_named (map (λ (s : FunctionSource). s.name) g.functions.items)) variables
      ∙ ap (λ (l : List SymbolTree). map symbol_of (filter_map as_variable numbered) ++ l) functions

  -- ---- names that are only used

  abbrev function_names : List Name
  function_names = map (λ (f : FunctionSource). f.name) g.functions.items

  -- the functions are those of the tree
  used_there : InstsUse old (all_insts (collected numbered)) t
  used_there = subst (λ (l : List FunctionTree). InstsUse old (concat (map insts_of l)) t) (sym all_functions) u

  definitions_are : filter_map as_type numbered ≡ map groups.type_tree (map definition_of g.definitions.items)
  definitions_are = groups.types items trees ∙ ap (map groups.type_tree) (sym h.definitions)

  all_type_names_are : names_of t.entries ≡ all_type_names (collected numbered)
  all_type_names_are =
      let more = unknown (names_of old.entries) (types_of (all_insts (collected numbered))) in
      let looked = ap names_of used_there.entries ∙ names_append old.entries (map missing_entry more) ∙ ap (λ (l : List Name). names_of old.entries ++ l) (missing_names more) in
      type_names_are g.definitions.items g.variables.items function_names (collected numbered) definitions_are (sym symbol_trees) (names_of old.entries) (names_of t.entries) p.type_names looked

  all_symbol_names_are : map (λ (s : Symbol). s.name) all ≡ all_symbol_names (collected numbered)
  all_symbol_names_are =
      let known : old.symbols ≡ map (λ (s : SymbolTree). s.name) (all_symbols g.variables.items g.functions.items) = p.named ∙ same_named (names_of t.entries) t.types symbols (all_symbols g.variables.items g.functions.items) symbols_are in
      named ∙ symbol_names_are g.definitions.items g.variables.items function_names (collected numbered) definitions_are (sym symbol_trees) old.symbols t.symbols known used_there.symbols

  all_bare : AllByRecursion IsBare all
  all_bare = bare_behind (names_of t.entries) t.types symbols (all_symbols g.variables.items g.functions.items) symbols_are used

  all_places : filter_map function_place all ≡ range_with_len 0 (length fs)
  all_places =
      let count : length g.functions.items ≡ length fs = sym (length-map g.functions.items (λ (s : FunctionSource). s.name)) ∙ ap length (sym same_names) ∙ length-map trees (λ (f : FunctionTree). f.name) ∙ length-map fs (function_in (tables_in t)) in
      filter_map-append function_place symbols (map missing_symbol used)
      ∙ ap (λ (l : List ℕ). filter_map function_place symbols ++ l) (missing_places used)
      ∙ append-nil (filter_map function_place symbols)
      ∙ p.places
      ∙ ap (range_with_len 0) count

  denotes : (head tail : List KeptTexts) → head ≡ g.head.items ++ g.comdats.items → tail ≡ g.attributes.items ++ g.metadata.items → AreTables t → AllByRecursion (λ (f : Function). IsTable f.names) fs → Denotes (module_over t head all fs tail) (collected numbered)
  denotes head tail a b are tables =
      let m = module_over t head all fs tail in
      let heads : head ≡ filter_map as_head numbered ++ filter_map as_comdat numbered =
      a ∙ ap (λ (l : List KeptTexts). l ++ g.comdats.items) (h.head ∙ sym (groups.heads items trees)) ∙ ap (λ (l : List KeptTexts). filter_map as_head numbered ++ l) (h.comdats ∙ sym (groups.comdats items trees)) in
      let tails : tail ≡ filter_map as_attributes numbered ++ filter_map as_metadata numbered =
      b ∙ ap (λ (l : List KeptTexts). l ++ g.metadata.items) (h.attributes ∙ sym (groups.attributes items trees)) ∙ ap (λ (l : List KeptTexts). filter_map as_attributes numbered ++ l) (h.metadata ∙ sym (groups.metadata items trees)) in
      let seen : map (function_in (tables_of m)) fs ≡ filter_map as_function numbered = ap (λ (l : List Name). map (function_in (record { symbols = l; type_names = names_of t.entries; types = t.types })) fs) named ∙ sym all_functions in
      record {
        says = same_parts _ _ _ _ _ _ _ _ _ _ heads (all_types m refl) (symbols_there ∙ symbol_trees) seen tails;
        tables = tables;
        types = are.types_are;
        extents = are.extents_are;
        type_names = all_type_names_are;
        symbols = all_symbol_names_are;
        bare = all_bare;
        functions = all_places;
      }

  limit : passed_by trees (long_among g.longs.items trees) ≡ limit_passed numbered
  limit =
      ap (λ (l : List ItemLong). passed_by trees (long_among l trees)) h.longs
      ∙ ap (passed_by trees) (groups.longs items trees)
      ∙ ap (λ (l : List FunctionTree). passed_by l (first_long (in_items numbered))) (sym all_functions)

  -- the module that is made of all
  pub module_is : (head tail : List KeptTexts) (passed : Option (Count × ℕ)) → head ≡ g.head.items ++ g.comdats.items → tail ≡ g.attributes.items ++ g.metadata.items → AreTables t → AllByRecursion (λ (f : Function). IsTable f.names) fs → passed ≡ passed_by trees (long_among g.longs.items trees)
      → IsBuilt (filled_items items) (module_over t head all fs tail) passed
  module_is head tail passed a b are tables c = record { items = numbered; are = filled; denotes = denotes head tail a b are tables; limit = c ∙ limit }

-- Where a function is not read, no items are.
pub none_filled : (g : Gathered) (items : List (Item Skimmed)) (old : TableLists) (symbols : List Symbol) → Holds g items → ArePrepared g.definitions.items g.variables.items g.functions.items old symbols → functions_read (definitions_of old) (map skimmed_of g.functions.items) ≡ None → filled_items items ≡ None
none_filled g items old symbols h p e =
    filled_is (definitions_in items) items
    ∙ ap (λ (o : Option (List FunctionTree)). o >>= λ l. Some (put items l)) (ap (λ (d : Definitions). functions_read d (filter_map function_among items)) (sym (p.defined ∙ h.definitions)) ∙ ap (functions_read (definitions_of old)) (sym h.functions) ∙ e)

-- a refusal of functions is one of the module
pub refused : {X : Type 0} (view : X → List FunctionTree) (g : Gathered) (items : List (Item Skimmed)) (old : TableLists) (symbols : List Symbol) (fault : SyntaxFault) → Holds g items → ArePrepared g.definitions.items g.variables.items g.functions.items old symbols
    → Gives view (Err fault) (functions_read (definitions_of old) (map skimmed_of g.functions.items)) → GivesModule (filled_items items) (Err fault)
refused view g items old symbols (NoReading place) h p e = none_filled g items old symbols h p e
refused view g items old symbols Memory h p e = tt

-- the same module, whose lists are named otherwise
pub module_so : (items_are : Option (List (Item FunctionTree))) (t : TableLists) (head tail : List KeptTexts) (symbols symbols1 : List Symbol) (fs fs1 : List Function) (types : List MemTy) (extents : List Extent) (names : List TypeName) (passed : Option (Count × ℕ))
    → types ≡ t.types → extents ≡ t.extents → names ≡ t.entries → symbols1 ≡ symbols → fs1 ≡ fs → IsBuilt items_are (module_over t head symbols fs tail) passed
    → IsBuilt items_are (record { head = head; types = types; extents = extents; type_names = names; symbols = symbols1; functions = fs1; tail = tail }) passed
module_so items_are t head tail symbols symbols1 fs fs1 types extents names passed a b c d e h = rw (a, b, c, d, e) h

-- the first limit, where the tables are these
pub passed_so : (r : Result (Option (Count × ℕ)) AllocError) (fs : List Function) (longs : List ItemLong) (long : Option ℕ) (seen t : Tables) → IfOk r (λ (p : Option (Count × ℕ)). (u : Tables) → p ≡ passed_by (map (function_in u) fs) long) → long ≡ long_among longs (map (function_in seen) fs) → seen ≡ t
    → IfOk r (λ (p : Option (Count × ℕ)). p ≡ passed_by (map (function_in t) fs) (long_among longs (map (function_in t) fs)))
passed_so (Ok p) fs longs long seen t h l e = h t ∙ ap (passed_by (map (function_in t) fs)) (l ∙ ap (λ (u : Tables). long_among longs (map (function_in u) fs)) e)
passed_so (Err x) fs longs long seen t h l e = tt
