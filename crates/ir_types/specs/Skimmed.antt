-- A module's items where the inner parts of functions are passed over: what stands between the parentheses of their parameters and the braces of
-- their bodies is taken as its tokens, and read later, when it is known what the names of types stand for.
use Rattle.std.specs.Prelude.{ℕ, Bool, List, [], ◌∷◌, length, Option, Some, None}
use Rattle.text_forms.specs.declared.TokenKind.TheVariants.{LeftParen, RightParen, LeftBrace, RightBrace}
use Rattle.text_forms.specs.Form.{Lexeme, Form, enclosed, pair, either, mapped, many, by_word}
use Rattle.text_forms.specs.Reading.{◌>>=◌, read_whole}
use Rattle.text_forms.specs.Balanced.{inside}
use Rattle.text_forms.specs.Kept.{attachments}
use Rattle.text_forms.specs.Nested.{joined}
use Rattle.ir_types.specs.declared.name.Name.{Name}
use Rattle.ir_types.specs.declared.inst.Ty.{Ty}
use Rattle.ir_types.specs.declared.opcode.ItemWord.{ItemWord}
use Rattle.ir_types.specs.declared.opcode.ItemWord.TheVariants as items
use Rattle.ir_types.specs.TypeNodes.{TypeNode}
use Rattle.ir_types.specs.Offsets.{Definitions, definitions_in}
use Rattle.ir_types.specs.Tree.{KeptTexts, WrittenParam, WrittenBlock, WrittenFunction, Item, head_line, comdat_line, type_item, variable_item, function_item, attribute_line, metadata_line}
use Rattle.text_forms.specs.Combined.{some, list}
use Rattle.ir_types.specs.TypeForms.{return_type, global_name, memory_type}
use Rattle.ir_types.specs.Words.{kept, item_words}
use Rattle.ir_types.specs.FunctionForms.{parameter, block, declared_tree, defined_tree, dotted_parameters}
use Rattle.ir_types.specs.ItemForms.{item_behind, wordless_item}

-- ---- items as they are skimmed

-- a function whose inner parts are passed over: what stands outside, the tokens of its parameters with their parentheses, and those of its body with
-- their braces, where it has one
pub record Outline : Type 0 where
  pub name : Name
  pub before : KeptTexts
  pub ret : Ty
  pub params : List Lexeme
  pub after : KeptTexts
  pub body : Option (List Lexeme)

-- the parts of a declared function
abbrev pub declared_outline : KeptTexts × (Ty × (Name × (List Lexeme × KeptTexts))) → Outline
declared_outline (before, (t, (name, (params, after)))) = record { name = name; before = before; ret = t; params = params; after = after; body = None }

-- B K R @name ( .. ) K
unfoldable pub skimmed_declaration : Form Outline
skimmed_declaration = mapped declared_outline (pair (joined attachments kept) (pair return_type (pair global_name (pair (enclosed LeftParen RightParen) kept))))

-- the parts of a defined function
abbrev pub defined_outline : KeptTexts × (Ty × (Name × (List Lexeme × (KeptTexts × List Lexeme)))) → Outline
defined_outline (before, (t, (name, (params, (after, body))))) = record { name = name; before = before; ret = t; params = params; after = after; body = Some body }

-- K R @name ( .. ) K B { .. }
unfoldable pub skimmed_definition : Form Outline
skimmed_definition =
    mapped defined_outline (pair kept (pair return_type (pair global_name (pair (enclosed LeftParen RightParen) (pair (joined kept attachments) (enclosed LeftBrace RightBrace))))))

-- a function, all of it or its outline
pub data Skimmed : Type 0 where
  whole : WrittenFunction → Skimmed
  outlined : Outline → Skimmed

-- an item of which nothing is passed over
abbrev pub as_it_is : Item WrittenFunction → Item Skimmed
as_it_is (head_line xs) = head_line xs
as_it_is (comdat_line xs) = comdat_line xs
as_it_is (type_item n t) = type_item n t
as_it_is (variable_item v) = variable_item v
as_it_is (function_item f) = function_item (whole f)
as_it_is (attribute_line xs) = attribute_line xs
as_it_is (metadata_line xs) = metadata_line xs

-- what is behind the word of an item: of a function its outline is read
abbrev pub skimmed_behind : ItemWord → Form (Item Skimmed)
skimmed_behind items.SourceFilename = mapped as_it_is (item_behind [] items.SourceFilename)
skimmed_behind items.Target = mapped as_it_is (item_behind [] items.Target)
skimmed_behind items.Declare = mapped (λ s. function_item (outlined s)) skimmed_declaration
skimmed_behind items.Define = mapped (λ s. function_item (outlined s)) skimmed_definition
skimmed_behind items.Attributes = mapped as_it_is (item_behind [] items.Attributes)

-- an item, where memory types are of the form m
unfoldable pub skimmed_item : Form (List TypeNode) → Form (Item Skimmed)
skimmed_item m = either (by_word item_words skimmed_behind) (mapped as_it_is (wordless_item m))

-- item .., where memory types are nested at most so deep
unfoldable pub skimmed_module : ℕ → Form (List (Item Skimmed))
skimmed_module depth = many (skimmed_item (memory_type depth))

-- ---- the same with their inner parts

-- the parameters of a declared function
abbrev pub dotted_read : List Lexeme → Option (List WrittenParam × Bool)
dotted_read tokens = read_whole dotted_parameters (inside tokens)

-- those of a defined function
abbrev pub params_read : List Lexeme → Option (List WrittenParam)
params_read tokens = read_whole (list parameter) (inside tokens)

-- the blocks that stand between the braces, where names of types are defined so
abbrev pub body_read : Definitions → List Lexeme → Option (List WrittenBlock)
body_read defs tokens = read_whole (some (block defs)) (inside tokens)

-- a declared function with these parameters
abbrev pub with_dotted : Outline → List WrittenParam × Bool → WrittenFunction
with_dotted s ps = declared_tree (s.before, (s.ret, (s.name, (ps, s.after))))

-- a defined function with these parameters and blocks
abbrev pub with_inner : Outline → List WrittenParam → List WrittenBlock → WrittenFunction
with_inner s ps blocks = defined_tree (s.before, (s.ret, (s.name, (ps, (s.after, blocks)))))

-- the function that an outline is of, where its tokens spell one
abbrev pub filled : Definitions → Outline → Option WrittenFunction
filled defs s = elim s.body [
  | None ↦ dotted_read s.params >>= λ ps. Some (with_dotted s ps)
  | Some tokens ↦ params_read s.params >>= λ ps. body_read defs tokens >>= λ blocks. Some (with_inner s ps blocks)
]

-- the function with its inner parts
abbrev pub with_body : Definitions → Skimmed → Option WrittenFunction
with_body defs (whole f) = Some f
with_body defs (outlined s) = filled defs s

-- the item, with its inner parts where it is a function's
abbrev pub with_body_of_item : Definitions → Item Skimmed → Option (Item WrittenFunction)
with_body_of_item defs (head_line xs) = Some (head_line xs)
with_body_of_item defs (comdat_line xs) = Some (comdat_line xs)
with_body_of_item defs (type_item n t) = Some (type_item n t)
with_body_of_item defs (variable_item v) = Some (variable_item v)
with_body_of_item defs (function_item s) = with_body defs s >>= λ f. Some (function_item f)
with_body_of_item defs (attribute_line xs) = Some (attribute_line xs)
with_body_of_item defs (metadata_line xs) = Some (metadata_line xs)

-- the items, each with its inner parts, in their order
abbrev pub with_bodies : Definitions → List (Item Skimmed) → Option (List (Item WrittenFunction))
with_bodies defs [] = Some []
with_bodies defs (s ∷ more) = with_body_of_item defs s >>= λ i. with_bodies defs more >>= λ is. Some (i ∷ is)

-- the items with their inner parts, where names of types are those that the items themselves define
abbrev pub with_own_bodies : List (Item Skimmed) → Option (List (Item WrittenFunction))
with_own_bodies skimmed = with_bodies (definitions_in skimmed) skimmed

-- the items that all of the tokens spell: first skimmed, and then with their inner parts (proofs/Skimming: they are those of `SpellsModule`)
abbrev pub items_read : List Lexeme → Option (List (Item WrittenFunction))
items_read tokens = read_whole (skimmed_module (length tokens)) tokens >>= with_own_bodies
