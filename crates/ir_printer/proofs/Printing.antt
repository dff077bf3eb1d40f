-- The pieces that a module is printed as spell its items, and join.
use Rattle.std.proofs.Common.{◌≡◌, ◌≤◌, ◌+◌, ℕ, List, [], ◌∷◌, ◌++◌, length, refl, sym, ap, ◌∙◌, subst, append_assoc, arith, inl, inr, length-append}
use Rattle.std.specs.Prelude.{map, codes, flat_map}
use Rattle.std.specs.List.{AllByRecursion}
use Rattle.std.proofs.lemmas.List.{append-nil}
use Rattle.text_forms.specs.Form.{Lexeme, Form, many}
use Rattle.text_forms.proofs.Begins.{test}
use Rattle.text_lex.specs.Layout.{Piece, text_of, tokens_of}
use Rattle.text_lex.proofs.Layouts.{tokens_of-append}
use Rattle.text_lex.proofs.Lexed.{each_split}
use Rattle.ir_types.specs.declared.name.Name.{Name}
use Rattle.ir_types.specs.Offsets.{Definitions}
use Rattle.ir_types.specs.TypeForms.{memory_type}
use Rattle.ir_types.specs.ItemForms.{item}
use Rattle.ir_types.specs.Tree.{KeptTexts, FunctionTree, NamedTree, defined, opaque, SymbolKindTree, variable, function, SymbolTree, VariableTree, ModuleTree, Item, variable_item, function_item, head_line, comdat_line, attribute_line, metadata_line}
use Rattle.ir_shape.specs.Shape.{IsFunction, IsVariable, IsItem}
use Rattle.ir_printer_types.specs.MemoryPieces.{node_pieces}
use Rattle.ir_printer_types.specs.Pieces.{word, line_feed, each_behind, separated}
use Rattle.ir_printer_types.proofs.Says.{Says, none_says, more_says}
use Rattle.ir_printer_types.proofs.Laid.{IsLaid, loose, nothing_behind, feed_laid}
use Rattle.ir_printer_types.proofs.MemoryPrinted.{memory_prints}
use Rattle.ir_printer.specs.Print.{function_pieces, parting, functions_behind, definition_pieces, named_pieces, type_name_pieces, variable_pieces, symbol_kind_pieces, symbol_pieces, is_comdat, whole_line, head_line_pieces, comdat_line_pieces, front_pieces, module_pieces}
use Rattle.ir_printer.proofs.Lines.{begins_group}
use Rattle.ir_printer.proofs.Grouped.{head_items, comdat_items, named_items, type_items, kind_items, symbol_items, function_items, tail_items, printed_items}
use Rattle.ir_printer.proofs.Numbering.{written_item}
use Rattle.ir_printer.proofs.SpelledFunctions.{function_says}
use Rattle.ir_printer.proofs.SpelledItems.{head_says, comdat_says, group_says, metadata_says, defined_says, definition_within, opaque_says, variable_says, variable_within}
use Rattle.ir_printer.proofs.LaidItems.{EndsLine, line_laid, function_laid, opaque_laid, definition_laid, variable_laid}

-- the items that stand before the functions
abbrev front_items : ModuleTree → List (Item FunctionTree)
front_items m = flat_map head_items m.head ++ (flat_map type_items m.type_names ++ (flat_map comdat_items m.head ++ flat_map symbol_items m.symbols))

-- in the printed order these are the first, and then those of the functions and of the tail
items_parted : (m : ModuleTree) → printed_items m ≡ front_items m ++ (flat_map function_items m.functions ++ flat_map tail_items m.tail)
unfolding printed_items
items_parted m = simp append_assoc

-- ---- pieces of items

-- the pieces spell the items, where types may be nested so deep and there are no more tokens than that; and any that are laid may stand behind them
record Prints (defs : Definitions) (d : ℕ) (items : List (Item FunctionTree)) (ps : List Piece) : Type 0 where
  says : length (tokens_of ps) ≤ d → Says (many (item defs (memory_type d))) (map written_item items) (tokens_of ps)
  laid : EndsLine ps

nothing : (defs : Definitions) (d : ℕ) → Prints defs d [] []
nothing defs d = record { says = λ le. none_says _; laid = record { before = λ qs g. g } }

one : (defs : Definitions) (d : ℕ) (i : Item FunctionTree) (ps : List Piece) → (length (tokens_of ps) ≤ d → Says (item defs (memory_type d)) (written_item i) (tokens_of ps)) → EndsLine ps → Prints defs d (i ∷ []) ps
one defs d i ps s l = record { says = λ le. more_says (tokens_of ps) [] _ (sym (append-nil (tokens_of ps))) (s le) (none_says _); laid = l }

many_append : {A : Type 0} {f : Form A} (xs ys : List A) (ts us : List Lexeme) → Says (many f) xs ts → Says (many f) ys us → Says (many f) (xs ++ ys) (ts ++ us)
many_append [] ys ts us p q = rw p.spells q
many_append (x ∷ xs) ys ts us p q =
    let h = p.spells in
    more_says h.0 (h.1 ++ us) (ts ++ us) (ap (λ (vs : List Lexeme). vs ++ us) h.2 ∙ append_assoc h.0 h.1 us) (record { spells = h.3 }) (many_append xs ys h.1 us (record { spells = h.4 }) q)

map_append : {A B : Type 0} (f : A → B) (xs ys : List A) → map f (xs ++ ys) ≡ map f xs ++ map f ys
map_append f [] ys = refl
map_append f (x ∷ xs) ys = ap (λ (zs : List _). f x ∷ zs) (map_append f xs ys)

both : (defs : Definitions) (d : ℕ) (xs ys : List (Item FunctionTree)) (ps qs : List Piece) → Prints defs d xs ps → Prints defs d ys qs → Prints defs d (xs ++ ys) (ps ++ qs)
both defs d xs ys ps qs p q = record {
  says = λ le.
      let parts : tokens_of (ps ++ qs) ≡ tokens_of ps ++ tokens_of qs = tokens_of-append ps qs in
      let sum : length (tokens_of (ps ++ qs)) ≡ length (tokens_of ps) + length (tokens_of qs) = ap length parts ∙ length-append (tokens_of ps) (tokens_of qs) in
      rw (parts, map_append written_item xs ys) (many_append (map written_item xs) (map written_item ys) (tokens_of ps) (tokens_of qs) (p.says (omega arith)) (q.says (omega arith)));
  laid = record { before = λ rs g. rw (append_assoc ps qs rs) (p.laid.before (qs ++ rs) (q.laid.before rs g)) };
}

behind_feed : (defs : Definitions) (d : ℕ) (xs : List (Item FunctionTree)) (ps : List Piece) → Prints defs d xs ps → Prints defs d xs (line_feed ∷ ps)
behind_feed defs d xs ps p = record { says = p.says; laid = record { before = λ qs g. loose (feed_laid (p.laid.before qs g)) } }

-- for each of some parts, its items by its pieces
all : {A : Type 0} (defs : Definitions) (d : ℕ) (r : A → List (Item FunctionTree)) (pieces : A → List Piece) → ((a : A) → AllByRecursion IsItem (r a) → Prints defs d (r a) (pieces a)) → (parts : List A) → AllByRecursion IsItem (flat_map r parts) → Prints defs d (flat_map r parts) (flat_map pieces parts)
all defs d r pieces each [] h = nothing defs d
all defs d r pieces each (a ∷ parts) h =
    let k = each_split IsItem (r a) (flat_map r parts) h in
    both defs d (r a) (flat_map r parts) (pieces a) (flat_map pieces parts) (each a k.0) (all defs d r pieces each parts k.1)

-- ---- lines

head_prints : (defs : Definitions) (d : ℕ) (xs : KeptTexts) → AllByRecursion IsItem (head_items xs) → Prints defs d (head_items xs) (head_line_pieces xs)
head_prints defs d xs h = elim (test (is_comdat xs)) [
  | inl y ↦ rw y (nothing defs d)
  | inr n ↦
      let k : AllByRecursion IsItem (head_line xs ∷ []) = rw n at h in
      rw n (one defs d (head_line xs) (whole_line xs) (λ le. head_says defs (memory_type d) xs k.0) (line_laid xs k.0.tokens))
]

comdat_prints : (defs : Definitions) (d : ℕ) (xs : KeptTexts) → AllByRecursion IsItem (comdat_items xs) → Prints defs d (comdat_items xs) (comdat_line_pieces xs)
comdat_prints defs d xs h = elim (test (is_comdat xs)) [
  | inl y ↦
      let k : AllByRecursion IsItem (comdat_line xs ∷ []) = rw y at h in
      rw y (one defs d (comdat_line xs) (whole_line xs) (λ le. comdat_says defs (memory_type d) xs k.0) (line_laid xs k.0.tokens))
  | inr n ↦ rw n (nothing defs d)
]

tail_prints : (defs : Definitions) (d : ℕ) (xs : KeptTexts) → AllByRecursion IsItem (tail_items xs) → Prints defs d (tail_items xs) (whole_line xs)
tail_prints defs d xs h = elim (test (begins_group xs)) [
  | inl y ↦
      let k : AllByRecursion IsItem (attribute_line xs ∷ []) = rw y at h in
      rw y (one defs d (attribute_line xs) (whole_line xs) (λ le. group_says defs (memory_type d) xs k.0) (line_laid xs k.0.tokens))
  | inr n ↦
      let k : AllByRecursion IsItem (metadata_line xs ∷ []) = rw n at h in
      rw n (one defs d (metadata_line xs) (whole_line xs) (λ le. metadata_says defs (memory_type d) xs k.0) (line_laid xs k.0.tokens))
]

-- ---- named types and variables

module _ (defs : Definitions) (d : ℕ) where
  named_prints : (n : Name) (t : NamedTree) → AllByRecursion IsItem (named_items n t) → Prints defs d (named_items n t) (definition_pieces n (named_pieces t))
  named_prints n (defined nodes) h =
      let p = memory_prints nodes h.0.1 in
      one defs d _ (definition_pieces n (node_pieces nodes)) (λ le. defined_says defs (memory_type d) n nodes (node_pieces nodes) h.0.0 (p.says d (definition_within n (node_pieces nodes) d le))) (definition_laid n (node_pieces nodes) h.0.0 p.laid)
  named_prints n opaque h = one defs d _ (definition_pieces n (word (codes "opaque") ∷ [])) (λ le. opaque_says defs (memory_type d) n h.0.0) (definition_laid n (word (codes "opaque") ∷ []) h.0.0 opaque_laid)

  variable_prints : (v : VariableTree) → IsVariable v → Prints defs d (variable_item v ∷ []) (variable_pieces v)
  variable_prints v h =
      let p = memory_prints v.ty h.ty in
      one defs d _ (variable_pieces v) (λ le. variable_says defs v (memory_type d) h.name h.before h.after (p.says d (variable_within v d le))) (variable_laid v h.name h.before.tokens h.after.tokens p.laid)

  kind_prints : (s : SymbolTree) (k : SymbolKindTree) → AllByRecursion IsItem (kind_items s k) → Prints defs d (kind_items s k) (symbol_kind_pieces s k)
  kind_prints s (variable nodes writable) h = variable_prints _ h.0
  kind_prints s function h = nothing defs d

  -- ---- functions

  function_prints : (f : FunctionTree) → IsFunction f → Prints defs d (function_items f) (function_pieces f)
  function_prints f h = one defs d (function_item f) (function_pieces f) (λ le. function_says defs f h (memory_type d)) (function_laid f h)

  each_prints : (fs : List FunctionTree) → AllByRecursion IsItem (flat_map function_items fs) → Prints defs d (flat_map function_items fs) (each_behind (line_feed ∷ []) (map function_pieces fs))
  each_prints [] h = nothing defs d
  each_prints (f ∷ fs) h = behind_feed defs d _ (function_pieces f ++ each_behind (line_feed ∷ []) (map function_pieces fs)) (both defs d (function_items f) _ (function_pieces f) _ (function_prints f h.0) (each_prints fs h.1))

  parted_prints : (text : List ℕ) (xs : List (Item FunctionTree)) (ps : List Piece) → Prints defs d xs ps → Prints defs d xs (parting text ++ ps)
  parted_prints [] xs ps p = p
  parted_prints (c ∷ cs) xs ps p = behind_feed defs d xs ps p

  functions_print : (text : List ℕ) (fs : List FunctionTree) → AllByRecursion IsItem (flat_map function_items fs) → Prints defs d (flat_map function_items fs) (functions_behind text (map function_pieces fs))
  functions_print text [] h = nothing defs d
  functions_print text (f ∷ fs) h = parted_prints text _ (separated (line_feed ∷ []) (map function_pieces (f ∷ fs))) (both defs d (function_items f) _ (function_pieces f) _ (function_prints f h.0) (each_prints fs h.1))

  -- ---- the whole

  front_prints : (m : ModuleTree) → AllByRecursion IsItem (front_items m) → Prints defs d (front_items m) (front_pieces m)
  unfolding front_pieces
  front_prints m h =
      let heads = each_split IsItem (flat_map head_items m.head) _ h in
      let types = each_split IsItem (flat_map type_items m.type_names) _ heads.1 in
      let comdats = each_split IsItem (flat_map comdat_items m.head) _ types.1 in
      both defs d _ _ (flat_map head_line_pieces m.head) _ (all defs d head_items head_line_pieces (head_prints defs d) m.head heads.0)
      (both defs d _ _ (flat_map type_name_pieces m.type_names) _ (all defs d type_items type_name_pieces (λ n. named_prints n.name n.ty) m.type_names types.0)
      (both defs d _ _ (flat_map comdat_line_pieces m.head) _ (all defs d comdat_items comdat_line_pieces (comdat_prints defs d) m.head comdats.0)
      (all defs d symbol_items symbol_pieces (λ s. kind_prints s s.kind) m.symbols comdats.1)))

  whole_prints : (m : ModuleTree) → AllByRecursion IsItem (printed_items m) → Prints defs d (printed_items m) (module_pieces m)
  unfolding module_pieces
  whole_prints m h =
      let k : AllByRecursion IsItem (front_items m ++ (flat_map function_items m.functions ++ flat_map tail_items m.tail)) = rw (items_parted m) at h in
      let front = each_split IsItem (front_items m) _ k in
      let functions = each_split IsItem (flat_map function_items m.functions) _ front.1 in
      rw (items_parted m) (both defs d _ _ (front_pieces m) _ (front_prints m front.0)
      (both defs d _ _ (functions_behind (text_of (front_pieces m)) (map function_pieces m.functions)) _ (functions_print (text_of (front_pieces m)) m.functions functions.0)
      (all defs d tail_items whole_line (tail_prints defs d) m.tail functions.1)))

-- whatever names of types stand for
pub record IsPrinted (defs : Definitions) (m : ModuleTree) : Type 0 where
  pub says : Says (many (item defs (memory_type (length (tokens_of (module_pieces m)))))) (map written_item (printed_items m)) (tokens_of (module_pieces m))
  pub laid : IsLaid (module_pieces m)

-- What is printed of a module spells its items and joins.
pub module_printed : (defs : Definitions) (m : ModuleTree) → AllByRecursion IsItem (printed_items m) → IsPrinted defs m
module_printed defs m h =
    let p = whole_prints defs (length (tokens_of (module_pieces m))) m h in
    record { says = p.says (omega arith); laid = subst IsLaid (append-nil (module_pieces m)) (p.laid.before [] (loose nothing_behind)) }
