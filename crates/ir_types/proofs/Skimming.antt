-- A module's items can be read in two passes: first skimmed, and then with the inner parts of their functions.
use Rattle.std.proofs.Common.{◌≡◌, ℕ, Bool, true, false, cond, List, [], ◌∷◌, length, Option, Some, None, refl, sym, ap, ◌∙◌}
use Rattle.text_forms.specs.declared.TokenKind.TheVariants.{LeftParen, RightParen, LeftBrace, RightBrace}
use Rattle.text_forms.specs.Form.{Lexeme, Form, pair, mapped, by_word, enclosed}
use Rattle.text_forms.specs.Kept.{attachments}
use Rattle.text_forms.specs.Nested.{joined}
use Rattle.text_forms.specs.Reading.{◌>>=◌, opens, read, read_whole}
use Rattle.text_forms.specs.Walk.{completed}
use Rattle.text_forms.proofs.Exact.{read_spells, spells_read, some_is}
use Rattle.text_forms.proofs.Parts.{bind_some}
use Rattle.ir_types.specs.declared.name.Name.{Name}
use Rattle.ir_types.specs.declared.inst.Ty.{Ty}
use Rattle.ir_types.specs.declared.opcode.ItemWord.{ItemWord}
use Rattle.ir_types.specs.declared.opcode.ItemWord.TheVariants as items
use Rattle.ir_types.specs.TypeNodes.{TypeNode}
use Rattle.ir_types.specs.Offsets.{Definitions, as_definition, definitions_in}
use Rattle.ir_types.specs.Tree.{KeptTexts, WrittenParam, WrittenBlock, WrittenFunction, Item, head_line, comdat_line, type_item, variable_item, function_item, attribute_line, metadata_line}
use Rattle.text_forms.specs.Combined.{between, some, list}
use Rattle.ir_types.specs.TypeForms.{return_type, global_name, memory_type}
use Rattle.ir_types.specs.Words.{kept, item_words}
use Rattle.ir_types.specs.FunctionForms.{parameter, dotted_parameters, block, declared_tree, declared_function, defined_tree, defined_function}
use Rattle.ir_types.specs.ItemForms.{item_behind, item, module_form, SpellsModule, wordless_item}
use Rattle.ir_types.specs.Skimmed.{declared_outline, skimmed_declaration, defined_outline, skimmed_definition, Skimmed, outlined, as_it_is, skimmed_behind, skimmed_item, skimmed_module, dotted_read, params_read, body_read, with_dotted, with_inner, filled, with_body, with_body_of_item, with_bodies, with_own_bodies, items_read}
use Rattle.ir_types.proofs.Balanced.{params_later, dotted_later, body_later}
use Rattle.ir_types.proofs.Decides.{module_decides}
use Rattle.ir_types.proofs.Later.{Later, second, both, into, pair_later, both_later, mapped_later, all_of, nothing_left, at_once, word_later, each, each_later, whole_later}

-- ---- functions

-- the parts of a function, its parameters of the form f, and what is behind them of the form g
abbrev with_params : {A B : Type 0} → Form KeptTexts → Form A → Form B → Form (KeptTexts × (Ty × (Name × (A × B))))
with_params before f g = pair before (pair return_type (pair global_name (pair f g)))

-- the same, where what those read less is completed
abbrev completing : {A B C D : Type 0} → (B → Option A) → (D → Option C) → KeptTexts × (Ty × (Name × (B × D))) → Option (KeptTexts × (Ty × (Name × (A × C))))
completing complete_one complete_other = second (second (second (both complete_one complete_other)))

parts_later : {A B C D : Type 0} (before : Form KeptTexts) (f : Form A) (g : Form B) (h : Form C) (k : Form D) (complete_one : B → Option A) (complete_other : D → Option C) → Later f g complete_one → Later h k complete_other
    → Later (with_params before f h) (with_params before g k) (completing complete_one complete_other)
parts_later before f g h k complete_one complete_other one other =
    let inner = both_later f g h k complete_one complete_other one other in
    let named = pair_later global_name (pair f h) (pair g k) (both complete_one complete_other) inner in
    let typed = pair_later return_type (pair global_name (pair f h)) (pair global_name (pair g k)) (second (both complete_one complete_other)) named in
    pair_later before (pair return_type (pair global_name (pair f h))) (pair return_type (pair global_name (pair g k))) (second (second (both complete_one complete_other))) typed

-- parameters, and their tokens
abbrev params : Form (List WrittenParam)
params = between LeftParen RightParen (list parameter)

abbrev dotted_params : Form (List WrittenParam × Bool)
dotted_params = between LeftParen RightParen dotted_parameters

abbrev params_tokens : Form (List Lexeme)
params_tokens = enclosed LeftParen RightParen

-- what stands behind parameters, with a body of the form f
abbrev with_behind : {B : Type 0} → Form B → Form (KeptTexts × B)
with_behind f = pair (joined kept attachments) f

abbrev body : Definitions → Form (List WrittenBlock)
body defs = between LeftBrace RightBrace (some (block defs))

abbrev body_tokens : Form (List Lexeme)
body_tokens = enclosed LeftBrace RightBrace

-- A defined function is read as it is skimmed, and then with its inner parts.
pub function_later : (defs : Definitions) → Later (defined_function defs) skimmed_definition (filled defs)
unfolding defined_function skimmed_definition
function_later defs =
    let behind = pair_later (joined kept attachments) (body defs) body_tokens (body_read defs) (body_later defs) in
    let parts = parts_later kept params params_tokens (with_behind (body defs)) (with_behind body_tokens) params_read (second (body_read defs)) params_later behind in
    mapped_later (with_params kept params (with_behind (body defs))) (with_params kept params_tokens (with_behind body_tokens)) (completing params_read (second (body_read defs))) defined_tree defined_outline (filled defs) parts
    (λ x. same x (params_read x.1.1.1.0) (body_read defs x.1.1.1.1.1))
  where
    same : (x : KeptTexts × (Ty × (Name × (List Lexeme × (KeptTexts × List Lexeme))))) (o : Option (List WrittenParam)) (p : Option (List WrittenBlock))
        → (o >>= λ ps. p >>= λ blocks. Some (with_inner (defined_outline x) ps blocks)) ≡ (completing (λ (_ : List Lexeme). o) (second (λ (_ : List Lexeme). p)) x >>= into defined_tree)
    same x None p = refl
    same x (Some ps) None = refl
    same x (Some ps) (Some blocks) = refl

-- So is a declared one.
pub declaration_later : (defs : Definitions) → Later declared_function skimmed_declaration (filled defs)
unfolding declared_function skimmed_declaration
declaration_later defs =
    let parts = parts_later (joined attachments kept) dotted_params params_tokens kept kept dotted_read all_of dotted_later (nothing_left kept) in
    mapped_later (with_params (joined attachments kept) dotted_params kept) (with_params (joined attachments kept) params_tokens kept) (completing dotted_read all_of) declared_tree declared_outline (filled defs) parts (λ x. same x (dotted_read x.1.1.1.0))
  where
    same : (x : KeptTexts × (Ty × (Name × (List Lexeme × KeptTexts)))) (o : Option (List WrittenParam × Bool)) → (o >>= λ ps. Some (with_dotted (declared_outline x) ps)) ≡ (completing (λ (_ : List Lexeme). o) all_of x >>= into declared_tree)
    same x None = refl
    same x (Some ps) = refl

-- ---- items

as_it_was : (defs : Definitions) (i : Item WrittenFunction) → with_body_of_item defs (as_it_is i) ≡ Some i
as_it_was defs (head_line xs) = refl
as_it_was defs (comdat_line xs) = refl
as_it_was defs (type_item n t) = refl
as_it_was defs (variable_item v) = refl
as_it_was defs (function_item f) = refl
as_it_was defs (attribute_line xs) = refl
as_it_was defs (metadata_line xs) = refl

no_body : (defs : Definitions) (f : Form (Item WrittenFunction)) → Later f (mapped as_it_is f) (with_body_of_item defs)
no_body defs f = at_once f as_it_is (with_body_of_item defs) (as_it_was defs)

behind_later : (defs : Definitions) (w : ItemWord) → Later (item_behind defs w) (skimmed_behind w) (with_body_of_item defs)
behind_later defs items.SourceFilename = no_body defs (item_behind [] items.SourceFilename)
behind_later defs items.Target = no_body defs (item_behind [] items.Target)
behind_later defs items.Declare = mapped_later declared_function skimmed_declaration (filled defs) function_item (λ s. function_item (outlined s)) (with_body_of_item defs) (declaration_later defs) (λ s. refl)
behind_later defs items.Define = mapped_later (defined_function defs) skimmed_definition (filled defs) function_item (λ s. function_item (outlined s)) (with_body_of_item defs) (function_later defs) (λ s. refl)
behind_later defs items.Attributes = no_body defs (item_behind [] items.Attributes)

-- An item is read as it is skimmed, and then with its body.
pub item_later : (defs : Definitions) (m : Form (List TypeNode)) → Later (item defs m) (skimmed_item m) (with_body_of_item defs)
unfolding item skimmed_item
item_later defs m ts = by (opens (by_word item_words skimmed_behind) ts)
  where
    by : (b : Bool)
        → cond b (read (by_word item_words (item_behind defs)) ts) (read (wordless_item m) ts) ≡ completed (with_body_of_item defs) (cond b (read (by_word item_words skimmed_behind) ts) (read (mapped as_it_is (wordless_item m)) ts))
    by true = word_later item_words (item_behind defs) skimmed_behind (with_body_of_item defs) (behind_later defs) ts
    by false = no_body defs (wordless_item m) ts

-- ---- modules

each_is : (defs : Definitions) (skimmed : List (Item Skimmed)) → each (with_body_of_item defs) skimmed ≡ with_bodies defs skimmed
each_is defs [] = refl
each_is defs (s ∷ more) = rw (each_is defs more) refl

same_completed : (defs : Definitions) (r : Option (List (Item Skimmed) × List Lexeme)) → completed (each (with_body_of_item defs)) r ≡ completed (with_bodies defs) r
same_completed defs None = refl
same_completed defs (Some x) = rw (each_is defs x.0) refl

-- A module's items are read as they are skimmed, and then with their bodies.
pub module_later : (defs : Definitions) (depth : ℕ) → Later (module_form defs depth) (skimmed_module depth) (with_bodies defs)
unfolding module_form skimmed_module item skimmed_item
module_later defs depth ts =
    let m = memory_type depth in
    each_later (opens (skimmed_item m)) (item defs m) (skimmed_item m) (with_body_of_item defs) (item_later defs m) (length ts) ts ∙ same_completed defs (read (skimmed_module depth) ts)

-- All tokens are read as a module's items in two steps.
pub whole_module_later : (defs : Definitions) (depth : ℕ) (ts : List Lexeme) → read_whole (module_form defs depth) ts ≡ (read_whole (skimmed_module depth) ts >>= with_bodies defs)
whole_module_later defs depth ts = whole_later (module_form defs depth) (skimmed_module depth) (with_bodies defs) (module_later defs depth) ts

-- ---- definitions

same_definition : (defs : Definitions) (s : Item Skimmed) (i : Item WrittenFunction) → with_body_of_item defs s ≡ Some i → as_definition i ≡ as_definition s
same_definition defs (head_line xs) i e = ap as_definition (some_is i (head_line xs) (sym e))
same_definition defs (comdat_line xs) i e = ap as_definition (some_is i (comdat_line xs) (sym e))
same_definition defs (type_item n t) i e = ap as_definition (some_is i (type_item n t) (sym e))
same_definition defs (variable_item v) i e = ap as_definition (some_is i (variable_item v) (sym e))
same_definition defs (function_item s) i e =
    let f = bind_some (with_body defs s) (λ f. Some (function_item f)) i e in
    ap as_definition (some_is i (function_item f.0) (sym f.2))
same_definition defs (attribute_line xs) i e = ap as_definition (some_is i (attribute_line xs) (sym e))
same_definition defs (metadata_line xs) i e = ap as_definition (some_is i (metadata_line xs) (sym e))

-- Bodies define no names of types.
pub same_definitions : (defs : Definitions) (skimmed : List (Item Skimmed)) (written : List (Item WrittenFunction)) → with_bodies defs skimmed ≡ Some written → definitions_in written ≡ definitions_in skimmed
same_definitions defs [] written e = ap definitions_in (some_is written [] (sym e))
same_definitions defs (s ∷ more) written e =
    let i = bind_some (with_body_of_item defs s) (λ i. with_bodies defs more >>= λ is. Some (i ∷ is)) written e in
    let is = bind_some (with_bodies defs more) (λ is. Some (i.0 ∷ is)) written i.2 in
    let first = same_definition defs s i.0 i.1 in
    let others = same_definitions defs more is.0 is.1 in
    ap definitions_in (some_is written (i.0 ∷ is.0) (sym is.2)) ∙ rw (first, others) refl

-- ---- what tokens spell

-- what the tokens are skimmed to, and with which bodies
pub record Skims (written : List (Item WrittenFunction)) (ts : List Lexeme) : Type 0 where
  pub items : List (Item Skimmed)
  pub read : read_whole (skimmed_module (length ts)) ts ≡ Some items
  pub bodies : with_own_bodies items ≡ Some written

-- What is found comes from items that are skimmed, and their bodies.
pub skims_from : (written : List (Item WrittenFunction)) (ts : List Lexeme) → items_read ts ≡ Some written → Skims written ts
skims_from written ts e = let s = bind_some (read_whole (skimmed_module (length ts)) ts) with_own_bodies written e in record { items = s.0; read = s.1; bodies = s.2 }

-- Skimmed items, with their bodies, are spelled by the tokens.
pub skims_spelled : (written : List (Item WrittenFunction)) (ts : List Lexeme) → Skims written ts → SpellsModule written ts
skims_spelled written ts s =
    let defs = definitions_in written in
    let d = length ts in
    let own : with_bodies defs s.items ≡ Some written = ap (λ (l : Definitions). with_bodies l s.items) (same_definitions (definitions_in s.items) s.items written s.bodies) ∙ s.bodies in
    read_spells (module_form defs d) (module_decides defs d) written ts (whole_module_later defs d ts ∙ rw s.read own)

-- What the tokens spell is found by skimming them.
pub spelled_found : (written : List (Item WrittenFunction)) (ts : List Lexeme) → SpellsModule written ts → items_read ts ≡ Some written
spelled_found written ts s =
    let defs = definitions_in written in
    let d = length ts in
    let e = sym (whole_module_later defs d ts) ∙ spells_read (module_form defs d) (module_decides defs d) written ts s in
    let b = bind_some (read_whole (skimmed_module d) ts) (with_bodies defs) written e in
    let own : with_own_bodies b.0 ≡ Some written = ap (λ (l : Definitions). with_bodies l b.0) (sym (same_definitions defs b.0 written b.2)) ∙ b.2 in
    rw b.1 own

-- What is found by skimming the tokens is spelled by them.
pub found_spelled : (written : List (Item WrittenFunction)) (ts : List Lexeme) → items_read ts ≡ Some written → SpellsModule written ts
found_spelled written ts e = skims_spelled written ts (skims_from written ts e)

-- Where nothing is found so, the tokens spell no items:
pub none_spelled : (ts : List Lexeme) → items_read ts ≡ None → (written : List (Item WrittenFunction)) → SpellsModule written ts → ⊥
none_spelled ts e written s = let f = spelled_found written ts s in cc

-- they can't be skimmed,
pub none_skimmed : (ts : List Lexeme) → read_whole (skimmed_module (length ts)) ts ≡ None → (written : List (Item WrittenFunction)) → SpellsModule written ts → ⊥
none_skimmed ts e = none_spelled ts (rw e refl)

-- or some body spells no blocks.
pub no_bodies : (ts : List Lexeme) (skimmed : List (Item Skimmed)) → read_whole (skimmed_module (length ts)) ts ≡ Some skimmed → with_own_bodies skimmed ≡ None → (written : List (Item WrittenFunction)) → SpellsModule written ts → ⊥
no_bodies ts skimmed r b = none_spelled ts (rw r b)

-- The same tokens spell the items of one module.
pub one_spelling : (one other : List (Item WrittenFunction)) (ts : List Lexeme) → SpellsModule one ts → SpellsModule other ts → one ≡ other
one_spelling one other ts s r = some_is one other (sym (spelled_found one ts s) ∙ spelled_found other ts r)
