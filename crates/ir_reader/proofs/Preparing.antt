-- What tables are before functions are read.
use Rattle.std.proofs.Common.{◌≡◌, ℕ, List, [], ◌∷◌, ◌++◌, length, map, Option, Some, refl, sym, ap, ◌∙◌, subst}
use Rattle.std.specs.List.{filter_map, range_with_len}
use Rattle.std.proofs.lemmas.List.{map-append, length-map}
use Rattle.std.proofs.lemmas.List.Elements.{filter_map-append}
use Rattle.text_forms.specs.View.{Extends}
use Rattle.ir_types.specs.declared.module.Symbol.{Symbol}
use Rattle.ir_types.specs.declared.memory_type.MemTy.{MemTy}
use Rattle.ir_types.specs.declared.memory_type.TypeName.{TypeName}
use Rattle.ir_types.specs.Tree.{SymbolTree}
use Rattle.ir_types.specs.Denotes.{function_place}
use Rattle.ir_types.proofs.NameAt.{extends_refl}
use Rattle.ir_reader_types.specs.TypeTable.{names_of}
use Rattle.ir_reader_types.specs.Tables.{TableLists}
use Rattle.ir_reader_types.proofs.Holding.{names_extend}
use Rattle.ir_reader_items.specs.declared.part.Definition.{Definition}
use Rattle.ir_reader_items.specs.declared.part.Variable.{Variable}
use Rattle.ir_reader_items.specs.declared.source.FunctionSource.{FunctionSource}
use Rattle.ir_reader.specs.Trees.{symbol_over, variable_symbol, function_named, function_symbols}
use Rattle.ir_reader.specs.Typed.{AreTyped, ArePrepared}
use Rattle.ir_reader.proofs.Symbolic.{functions_stand, function_places, no_places}

some_symbols : (vs : List Variable) → map Some (map variable_symbol vs) ≡ map (λ (v : Variable). Some (variable_symbol v)) vs
some_symbols [] = refl
some_symbols (v ∷ vs) = ap (λ (l : List (Option SymbolTree)). Some (variable_symbol v) ∷ l) (some_symbols vs)

-- tables of these names and types, whose symbols have the names of these
pub prepared : (ds : List Definition) (vs : List Variable) (fs : List FunctionSource) (types : List MemTy) (names : List TypeName) (before symbols : List Symbol) (t : TableLists) → AreTyped ds vs types names before
    → symbols ≡ before ++ function_symbols 0 (map (λ (f : FunctionSource). f.name) fs) → t.symbols ≡ map (λ (s : Symbol). s.name) symbols → t.known ≡ length (map (λ (s : Symbol). s.name) symbols) → t.entries ≡ names → t.types ≡ types → ArePrepared ds vs fs t symbols
prepared ds vs fs types names before symbols t h s named known e d =
    let functions = map (λ (f : FunctionSource). f.name) fs in
    let made = function_symbols 0 functions in
    record {
      defined = rw (e, d) h.defined;
      type_names = ap names_of e ∙ h.named;
      named = named;
      known = known ∙ length-map symbols (λ (s : Symbol). s.name);
      stand = λ later g.
          let ns = names_of later.entries in
          let n : Extends (names_of names) ns = subst (λ (l : List TypeName). Extends (names_of l) ns) e (names_extend t.entries later.entries g.entries) in
          let x : Extends types later.types = subst (λ (l : List MemTy). Extends l later.types) d g.types in
          let over = symbol_over ns later.types in
          ap (map over) s
          ∙ map-append over before made
          ∙ ap (λ (l : List (Option SymbolTree)). map over before ++ l) (functions_stand ns later.types 0 functions)
          ∙ ap (λ (l : List (Option SymbolTree)). l ++ map Some (map function_named functions)) (h.stand ns later.types n x ∙ sym (some_symbols vs))
          ∙ sym (map-append Some (map variable_symbol vs) (map function_named functions));
      places =
          let none = no_places (names_of names) types before vs (h.stand (names_of names) types (extends_refl (names_of names)) (extends_refl types)) in
          ap (filter_map function_place) s
          ∙ filter_map-append function_place before made
          ∙ ap (λ (l : List ℕ). l ++ filter_map function_place made) none
          ∙ function_places 0 functions
          ∙ ap (range_with_len 0) (length-map fs (λ (f : FunctionSource). f.name));
    }
