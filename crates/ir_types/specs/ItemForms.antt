-- The grammar of items and modules.
use Rattle.std.specs.Prelude.{ℕ, Bool, true, false, ◌&&◌, nat_le, count_by, length, List, [], ◌∷◌, map, codes, Option, Some, None, if◌then◌else◌}
use Rattle.text_forms.specs.declared.TokenKind.TheVariants.{Quoted, Local, Global, Comdat, Word, Number, Metadata, AttributeGroup, Bang, Equal, Comma, LeftParen, RightParen}
use Rattle.text_forms.specs.Form.{Lexeme, Form, Stops, Spells, ahead, up_to, pair, either, mapped, made, many, by_word}
use Rattle.text_forms.specs.Reading.{◌>>=◌}
use Rattle.text_forms.specs.Combined.{word, behind, after_mark}
use Rattle.ir_types.specs.declared.opcode.ItemWord.{ItemWord}
use Rattle.ir_types.specs.declared.opcode.ItemWord.TheVariants as items
use Rattle.ir_types.specs.declared.opcode.Extra.{Extra}
use Rattle.ir_types.specs.declared.opcode.Extra.TheVariants.{Section, Alignment, Attachment}
use Rattle.ir_types.specs.declared.opcode.Extra.TheVariants as extras
use Rattle.ir_types.specs.Written.{name_behind}
use Rattle.text_forms.specs.Nested.{concat, joined}
use Rattle.text_forms.specs.Kept.{is_unsigned, kept_one, kept_token, kept_such, perhaps, in_braces, attachment}
use Rattle.ir_types.specs.Offsets.{Definitions, definitions_in}
use Rattle.ir_types.specs.TypeNodes.{TypeNode}
use Rattle.ir_types.specs.Tree.{KeptTexts, WrittenFunction, Item, head_line, comdat_line, type_item, variable_item, function_item, attribute_line, metadata_line}
use Rattle.ir_types.specs.TypeForms.{memory_type}
use Rattle.ir_types.specs.Words.{item_words, kept}
use Rattle.ir_types.specs.FunctionForms.{declared_function, defined_function}

-- ---- lines that are kept whole

-- = string
abbrev pub equal_string : Form KeptTexts
equal_string = joined (kept_one Equal) (kept_one Quoted)

-- datalayout = string | triple = string
unfoldable pub target_line : Form KeptTexts
target_line = joined (either (kept_token Word (codes "datalayout")) (kept_token Word (codes "triple"))) equal_string

-- #n = { balanced }
unfoldable pub attribute_group : Form KeptTexts
attribute_group = joined (kept_one AttributeGroup) (joined (kept_one Equal) in_braces)

-- $name = comdat word
unfoldable pub comdat : Form KeptTexts
comdat = mapped (λ (name, texts). name ∷ texts) (ahead Comdat (joined (kept_one Equal) (joined (kept_token Word (codes "comdat")) (kept_one Word))))

-- !name = [distinct] !{ balanced }
unfoldable pub metadata : Form KeptTexts
metadata = mapped (λ (name, texts). name ∷ texts) (ahead Metadata (joined (kept_one Equal) (joined (perhaps (kept_token Word (codes "distinct"))) (joined (kept_one Bang) in_braces))))

-- ---- named types and variables, where memory types are of the form m

-- a named type
abbrev pub named_type : List ℕ × Option (List TypeNode) → Option (Item WrittenFunction)
named_type (s, m) = name_behind s >>= λ n. Some (type_item n m)

-- %name = type M | %name = type opaque
unfoldable pub type_definition : Form (List TypeNode) → Form (Item WrittenFunction)
type_definition m = made named_type (ahead Local (after_mark Equal (behind (codes "type") (either (mapped Some m) (word (codes "opaque") None)))))

-- where a variable's initialiser ends, outside brackets: at a comma, and where an item begins
unfoldable pub initialiser_stops : Stops
initialiser_stops = record { kinds = Comma ∷ []; words = map (λ (w, _). w) item_words; before_equal = Local ∷ Global ∷ Comdat ∷ Metadata ∷ [] }

-- section string | comdat [ ($name) ] | align n | an attachment
unfoldable pub extra_behind : Form (Extra × KeptTexts)
extra_behind =
    either (mapped (λ xs. (Section, xs)) (joined (kept_token Word (codes "section")) (kept_one Quoted)))
    (either (mapped (λ xs. (extras.Comdat, xs)) (joined (kept_token Word (codes "comdat")) (perhaps (joined (kept_one LeftParen) (joined (kept_one Comdat) (kept_one RightParen))))))
    (either (mapped (λ xs. (Alignment, xs)) (joined (kept_token Word (codes "align")) (kept_such Number is_unsigned))) (mapped (λ xs. (Attachment, xs)) attachment)))

-- the same behind a comma
abbrev pub extra : Form (Extra × KeptTexts)
extra = mapped (λ (comma, (e, texts)). (e, comma ∷ texts)) (ahead Comma extra_behind)

-- how many of them are of one kind
abbrev pub count_of : (Extra → Bool) → List (Extra × KeptTexts) → ℕ
count_of p xs = count_by (λ (e, _). p e) xs

abbrev pub is_section : Extra → Bool
is_section Section = true
is_section e = false

abbrev pub is_comdat : Extra → Bool
is_comdat extras.Comdat = true
is_comdat e = false

abbrev pub is_alignment : Extra → Bool
is_alignment Alignment = true
is_alignment e = false

-- the texts of all, where no two are sections, comdats or alignments
abbrev pub kept_once : List (Extra × KeptTexts) → Option KeptTexts
kept_once xs =
    if nat_le (count_of is_section xs) 1 && (nat_le (count_of is_comdat xs) 1 && nat_le (count_of is_alignment xs) 1) then Some (concat (map (λ (_, texts). texts) xs)) else None

-- [initialiser] [, section string] [, comdat [($name)]] [, align n] A, all behind the initialiser in any order
unfoldable pub behind_type : Form KeptTexts
behind_type = joined (up_to initialiser_stops) (made kept_once (many extra))

-- global | constant: true where it may be written
unfoldable pub variable_word : Form Bool
variable_word = either (word (codes "global") true) (word (codes "constant") false)

-- a variable of its parts
abbrev pub named_variable : List ℕ × (KeptTexts × (Bool × (List TypeNode × KeptTexts))) → Option (Item WrittenFunction)
named_variable (s, (before, (writable, (m, after)))) = name_behind s >>= λ n. Some (variable_item (record { name = n; before = before; writable = writable; ty = m; after = after }))

-- @name = K (global | constant) M ..
unfoldable pub variable_definition : Form (List TypeNode) → Form (Item WrittenFunction)
variable_definition m = made named_variable (ahead Global (after_mark Equal (pair kept (pair variable_word (pair m behind_type)))))

-- ---- items and modules

-- what is behind the word of an item
abbrev pub item_behind : Definitions → ItemWord → Form (Item WrittenFunction)
item_behind defs items.SourceFilename = mapped (λ xs. head_line (codes "source_filename" ∷ xs)) equal_string
item_behind defs items.Target = mapped (λ xs. head_line (codes "target" ∷ xs)) target_line
item_behind defs items.Declare = mapped function_item declared_function
item_behind defs items.Define = mapped function_item (defined_function defs)
item_behind defs items.Attributes = mapped (λ xs. attribute_line (codes "attributes" ∷ xs)) attribute_group

-- an item that begins with no word, where memory types are of the form m
abbrev pub wordless_item : Form (List TypeNode) → Form (Item WrittenFunction)
wordless_item m = either (mapped comdat_line comdat) (either (mapped metadata_line metadata) (either (type_definition m) (variable_definition m)))

-- an item, where names of types are defined so and memory types are of the form m
unfoldable pub item : Definitions → Form (List TypeNode) → Form (Item WrittenFunction)
item defs m = either (by_word item_words (item_behind defs)) (wordless_item m)

-- item .., where names of types are defined so and memory types are nested at most so deep
unfoldable pub module_form : Definitions → ℕ → Form (List (Item WrittenFunction))
module_form defs depth = many (item defs (memory_type depth))

-- By these tokens a module's items are spelled. In constants the names of types are those that the items themselves define, wherever they
-- stand; no type is nested deeper than there are tokens.
abbrev pub SpellsModule : List (Item WrittenFunction) → List Lexeme → Type 0
SpellsModule written ts = Spells (module_form (definitions_in written) (length ts)) written ts
