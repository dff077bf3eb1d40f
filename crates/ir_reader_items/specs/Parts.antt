-- Which item a part stands for.
use Rattle.std.specs.Prelude.{ℕ, List, ◌≤◌, length, Option, Result}
use Rattle.std.specs.Option.{option_map}
use Rattle.text_forms.specs.declared.cursor.Cursor.{Cursor}
use Rattle.text_forms.specs.declared.cursor.SyntaxFault.{SyntaxFault}
use Rattle.text_forms.specs.Form.{Lexeme, Form}
use Rattle.text_forms.specs.Reading.{read}
use Rattle.text_forms.specs.Gives.{Gives, left}
use Rattle.ir_types.specs.TypeForms.{memory_type}
use Rattle.ir_types.specs.TypeNodes.{TypeNode}
use Rattle.ir_types.specs.Tree.{VariableTree, Item, head_line, comdat_line, type_item, variable_item, function_item, attribute_line, metadata_line}
use Rattle.ir_types.specs.Skimmed.{Outline, Skimmed, outlined}
use Rattle.ir_reader_items.specs.declared.source.TypeSource.{TypeSource}
use Rattle.ir_reader_items.specs.declared.source.FunctionSource.{FunctionSource}
use Rattle.ir_reader_items.specs.declared.part.Definition.{Definition}
use Rattle.ir_reader_items.specs.declared.part.Variable.{Variable}
use Rattle.ir_reader_items.specs.declared.part.Part.{Part}
use Rattle.ir_reader_items.specs.declared.part.Part.TheVariants as parts
use Rattle.ir_reader_items.specs.Sources.{nodes_read, outline_read}

-- the nodes of the type that stands there
abbrev pub nodes_of : TypeSource → List TypeNode
nodes_of s = nodes_read (left s.tokens)

-- the same of a type that may be absent
abbrev pub nodes_if_any : Option TypeSource → Option (List TypeNode)
nodes_if_any s = option_map nodes_of s

-- the outline of the function that stands there
abbrev pub outline_of : FunctionSource → Outline
outline_of s = outline_read s.defined (left s.tokens)

-- a variable
abbrev pub variable_of : Variable → VariableTree
variable_of v = record { name = v.name; before = v.before; writable = v.writable; ty = nodes_of v.ty; after = v.after }

-- the definition of a type
abbrev pub definition_of : Definition → Item Skimmed
definition_of d = type_item d.name (nodes_if_any d.ty)

-- the item
abbrev pub item_of : Part → Item Skimmed
item_of (parts.Head xs) = head_line xs
item_of (parts.Comdat xs) = comdat_line xs
item_of (parts.Type d) = definition_of d
item_of (parts.Variable v) = variable_item (variable_of v)
item_of (parts.Function f) = function_item (outlined (outline_of f))
item_of (parts.Attributes xs) = attribute_line xs
item_of (parts.Metadata xs) = metadata_line xs

-- the item is the one that is read
abbrev pub GivesItem : Result (Part × Cursor) SyntaxFault → Option (Item Skimmed × List Lexeme) → Type 0
GivesItem result there = Gives (λ x. (item_of x.0, left x.1)) result there

-- the item is the one that the form reads, where memory types are nested at most so deep as there are tokens, or deeper
abbrev pub GivesItemOf : (Form (List TypeNode) → Form (Item Skimmed)) → List Lexeme → Result (Part × Cursor) SyntaxFault → Type 0
GivesItemOf item ts result = (d : ℕ) → length ts ≤ d → GivesItem result (read (item (memory_type d)) ts)
