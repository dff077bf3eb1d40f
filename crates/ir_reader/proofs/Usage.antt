-- Names that are used, one thing's behind another's.
use Rattle.std.proofs.Common.{◌≡◌, List, [], ◌∷◌, ◌++◌, map, refl, sym, ap, ◌∙◌, append_assoc}
use Rattle.std.proofs.lemmas.List.{append-nil, map-append, map_push}
use Rattle.text_forms.specs.Nested.{concat}
use Rattle.ir_types.specs.declared.name.Name.{Name}
use Rattle.ir_types.specs.Names.{unknown}
use Rattle.ir_types.specs.Tree.{InstTree, TypeNameTree, SymbolTree, FunctionTree, ModuleTree}
use Rattle.ir_types.specs.Used.{types_in, types_of_definition, types_of_symbol, types_of, operands_of, symbols_of, insts_of, all_insts, with_unknown, all_type_names, all_symbol_names}
use Rattle.ir_reader_types.specs.Tables.{TableLists}
use Rattle.ir_reader_types.specs.Uses.{InstsUse}
use Rattle.ir_reader_types.proofs.LookUps.{unknown_append}
use Rattle.ir_reader_types.proofs.Uses.{uses_both}
use Rattle.ir_reader_items.specs.declared.part.Definition.{Definition}
use Rattle.ir_reader_items.specs.declared.part.Variable.{Variable}
use Rattle.ir_reader.specs.Gathered.{definition_of}
use Rattle.ir_reader.specs.Trees.{variable_symbol, function_named}
use Rattle.ir_reader.specs.Typed.{definition_uses, variable_uses, names_before_functions}
use Rattle.ir_reader.proofs.Groups.{type_tree}

concat_append : {A : Type 0} (xs ys : List (List A)) → concat (xs ++ ys) ≡ concat xs ++ concat ys
concat_append [] ys = refl
concat_append (x ∷ xs) ys = ap (λ (l : List _). x ++ l) (concat_append xs ys) ∙ sym (append_assoc x (concat xs) (concat ys))

pub concat_push : {A B : Type 0} (f : A → List B) (xs : List A) (x : A) → concat (map f (xs ++ x ∷ [])) ≡ concat (map f xs) ++ f x
concat_push f xs x = ap concat (map_push f xs x) ∙ concat_append (map f xs) (f x ∷ []) ∙ ap (λ (l : List _). concat (map f xs) ++ l) (append-nil (f x))

concat_both : {A B : Type 0} (f : A → List B) (xs ys : List A) → concat (map f (xs ++ ys)) ≡ concat (map f xs) ++ concat (map f ys)
concat_both f xs ys = ap concat (map-append f xs ys) ∙ concat_append (map f xs) (map f ys)

-- names behind names
pub unknown_further : (old mid new used more : List Name) → mid ≡ with_unknown old used → new ≡ with_unknown mid more → new ≡ with_unknown old (used ++ more)
unknown_further old mid new used more e d =
    d
    ∙ ap (λ (l : List Name). with_unknown l more) e
    ∙ append_assoc old (unknown old used) (unknown (old ++ unknown old used) more)
    ∙ ap (λ (l : List Name). old ++ l) (sym (unknown_append old used more))

-- ---- instructions

-- some instructions, and then others
pub insts_both : (a b c : TableLists) (xs ys : List InstTree) → InstsUse a xs b → InstsUse b ys c → InstsUse a (xs ++ ys) c
insts_both a b c xs ys p q =
    let types : types_of (xs ++ ys) ≡ types_of xs ++ types_of ys = concat_both (λ (i : InstTree). types_in i.kind) xs ys in
    let operands : operands_of (xs ++ ys) ≡ operands_of xs ++ operands_of ys = concat_both (λ (i : InstTree). i.args) xs ys in
    rw (types, operands) (uses_both a b c (types_of xs) (types_of ys) (operands_of xs) (operands_of ys) p q)

-- those of functions, and then of one more
pub function_uses : (a b c : TableLists) (fs : List FunctionTree) (f : FunctionTree) → InstsUse a (concat (map insts_of fs)) b → InstsUse b (insts_of f) c → InstsUse a (concat (map insts_of (fs ++ f ∷ []))) c
function_uses a b c fs f p q = rw (concat_push insts_of fs f) (insts_both a b c (concat (map insts_of fs)) (insts_of f) p q)

-- ---- a module's tree

each_definition : (ds : List Definition) → map (λ (n : TypeNameTree). types_of_definition n.ty) (map type_tree (map definition_of ds)) ≡ map definition_uses ds
each_definition [] = refl
each_definition (d ∷ ds) = ap (λ (l : List (List Name)). definition_uses d ∷ l) (each_definition ds)

named_definitions : (ds : List Definition) → map (λ (n : TypeNameTree). n.name) (map type_tree (map definition_of ds)) ≡ map (λ (d : Definition). d.name) ds
named_definitions [] = refl
named_definitions (d ∷ ds) = ap (λ (l : List Name). d.name ∷ l) (named_definitions ds)

functions_use : (ns : List Name) → concat (map (λ (s : SymbolTree). types_of_symbol s.kind) (map function_named ns)) ≡ []
functions_use [] = refl
functions_use (n ∷ ns) = functions_use ns

each_symbol : (vs : List Variable) (ns : List Name) → concat (map (λ (s : SymbolTree). types_of_symbol s.kind) (map variable_symbol vs ++ map function_named ns)) ≡ concat (map variable_uses vs)
each_symbol [] ns = functions_use ns
each_symbol (v ∷ vs) ns = ap (λ (l : List Name). variable_uses v ++ l) (each_symbol vs ns)

-- of these definitions, variables and names of functions
module _ (ds : List Definition) (vs : List Variable) (fs : List Name) (m : ModuleTree) (types : m.type_names ≡ map type_tree (map definition_of ds)) (symbols : m.symbols ≡ map variable_symbol vs ++ map function_named fs) where
  -- the names of types that are known before functions are read, and those that instructions use
  pub type_names_are : (known names : List Name) → known ≡ names_before_functions ds vs → names ≡ with_unknown known (types_of (all_insts m)) → names ≡ all_type_names m
  type_names_are known names e d =
      let defined : map (λ (n : TypeNameTree). n.name) m.type_names ≡ map (λ (d : Definition). d.name) ds = ap (map (λ (n : TypeNameTree). n.name)) types ∙ named_definitions ds in
      let first : concat (map (λ (n : TypeNameTree). types_of_definition n.ty) m.type_names) ≡ concat (map definition_uses ds) = ap (λ (l : List TypeNameTree). concat (map (λ (n : TypeNameTree). types_of_definition n.ty) l)) types ∙ ap concat (each_definition ds) in
      let next : concat (map (λ (s : SymbolTree). types_of_symbol s.kind) m.symbols) ≡ concat (map variable_uses vs) = ap (λ (l : List SymbolTree). concat (map (λ (s : SymbolTree). types_of_symbol s.kind) l)) symbols ∙ each_symbol vs fs in
      let last = types_of (all_insts m) in
      let all = unknown_further (map (λ (d : Definition). d.name) ds) known names (concat (map definition_uses ds) ++ concat (map variable_uses vs)) last e d in
      rw (defined, first, next) (all ∙ ap (with_unknown (map (λ (d : Definition). d.name) ds)) (append_assoc (concat (map definition_uses ds)) (concat (map variable_uses vs)) last))

  -- the same of symbols
  pub symbol_names_are : (known names : List Name) → known ≡ map (λ (s : SymbolTree). s.name) (map variable_symbol vs ++ map function_named fs) → names ≡ with_unknown known (symbols_of (operands_of (all_insts m))) → names ≡ all_symbol_names m
  symbol_names_are known names e d = d ∙ ap (λ (l : List Name). with_unknown l (symbols_of (operands_of (all_insts m)))) (e ∙ ap (map (λ (s : SymbolTree). s.name)) (sym symbols))
