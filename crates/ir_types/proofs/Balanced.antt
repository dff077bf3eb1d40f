-- Blocks and memory types close all brackets that they open.
use Rattle.std.proofs.Common.{◌≡◌, ℕ, Bool, true, List, [], ◌∷◌, Some, refl}
use Rattle.text_forms.specs.declared.TokenKind.TheVariants.{LeftParen, RightParen, RightBracket, LeftBrace, RightBrace}
use Rattle.text_forms.specs.Form.{Lexeme, Spells, nests}
use Rattle.text_forms.specs.Balanced.{stack_after}
use Rattle.text_forms.specs.Reading.{decides, read}
use Rattle.text_forms.specs.LeftOut.{left_out_words}
use Rattle.text_forms.specs.Kept.{kept_piece, kept_run, metadata_node, attachment}
use Rattle.text_forms.proofs.Balanced.{balanced, memory_stack}
use Rattle.text_forms.proofs.Between.{in_two_steps, between_inside}
use Rattle.ir_types.specs.Offsets.{Definitions}
use Rattle.ir_types.specs.TypeNodes.{TypeNode}
use Rattle.ir_types.specs.Tree.{WrittenParam, WrittenBlock}
use Rattle.text_forms.specs.Combined.{between, some, list}
use Rattle.ir_types.specs.TypeForms.{local_name, global_name, label, width, vector_type, value_type, memory_leaf, array_begin, type_parts, memory_type, return_type, type_words, inst_memory}
use Rattle.ir_types.specs.FlagForms.{three_flags}
use Rattle.ir_types.specs.ValueForms.{lane, constant_word, typed_lane, constant_offset, value}
use Rattle.ir_types.specs.Words.{value_words, item_words, instruction_words, excluded_words, kept, operation_words, terminator_words}
use Rattle.ir_types.specs.InstParts.{typed_value, typed_pair, pointer_value, index_value, target, alignment}
use Rattle.ir_types.specs.InstForms.{overflowing, possibly_exact, plain_binary, or_operation, predicates, compared, compare, select, freeze, trunc, zext, sext, ptrtoint, entry_of_phi, phi, getelementptr, load, store, argument, signature, call, extractelement, insertelement, shufflevector, branch, case_of_switch, switch, ret, inst_attachments, operation, terminator}
use Rattle.ir_types.specs.FunctionForms.{parameter, dotted_parameters, block}

-- What spells blocks closes all brackets that it opens.
pub blocks_balanced : (defs : Definitions) (bs : List WrittenBlock) (ts : List Lexeme) → Spells (some (block defs)) bs ts → nests [] ts ≡ true
unfolding local_name global_name label width vector_type value_type return_type three_flags inst_memory lane constant_word typed_lane constant_offset value kept kept_run kept_piece typed_value typed_pair pointer_value index_value target alignment overflowing possibly_exact plain_binary or_operation predicates compared compare select freeze trunc zext sext ptrtoint entry_of_phi phi getelementptr load store argument signature call extractelement insertelement shufflevector branch case_of_switch switch ret inst_attachments metadata_node attachment operation_words operation terminator_words terminator block
blocks_balanced defs bs ts s = balanced (some (block defs)) refl bs ts s

body_decides : (defs : Definitions) → decides (between LeftBrace RightBrace (some (block defs))) ≡ true
unfolding local_name global_name label width vector_type value_type return_type three_flags inst_memory lane constant_word typed_lane constant_offset value kept kept_run kept_piece typed_value typed_pair pointer_value index_value target alignment overflowing possibly_exact plain_binary or_operation predicates compared compare select freeze trunc zext sext ptrtoint entry_of_phi phi getelementptr load store argument signature call extractelement insertelement shufflevector branch case_of_switch switch ret inst_attachments metadata_node attachment operation_words operation terminator_words terminator block type_words excluded_words value_words item_words instruction_words left_out_words
body_decides defs = refl

-- a body is read in two steps
pub body_later : (defs : Definitions) (ts : List Lexeme) → read (between LeftBrace RightBrace (some (block defs))) ts ≡ in_two_steps LeftBrace RightBrace (some (block defs)) ts
body_later defs ts = between_inside LeftBrace RightBrace (some (block defs)) (body_decides defs) refl (blocks_balanced defs) ts

-- the parameters of a defined function are, and those of a declared one
params_decide : decides (between LeftParen RightParen (list parameter)) ≡ true
unfolding local_name width vector_type value_type kept kept_run kept_piece type_words excluded_words value_words item_words instruction_words left_out_words operation_words terminator_words parameter
params_decide = refl

params_balanced : (ps : List WrittenParam) (ts : List Lexeme) → Spells (list parameter) ps ts → nests [] ts ≡ true
unfolding local_name width vector_type value_type kept kept_run kept_piece parameter
params_balanced ps ts s = balanced (list parameter) refl ps ts s

-- The parameters of a defined function are read in two steps: first their tokens, then what these spell.
pub params_later : (ts : List Lexeme) → read (between LeftParen RightParen (list parameter)) ts ≡ in_two_steps LeftParen RightParen (list parameter) ts
params_later ts = between_inside LeftParen RightParen (list parameter) params_decide refl params_balanced ts

dotted_decides : decides (between LeftParen RightParen dotted_parameters) ≡ true
unfolding local_name width vector_type value_type kept kept_run kept_piece type_words excluded_words value_words item_words instruction_words left_out_words operation_words terminator_words parameter dotted_parameters
dotted_decides = refl

dotted_balanced : (ps : List WrittenParam × Bool) (ts : List Lexeme) → Spells dotted_parameters ps ts → nests [] ts ≡ true
unfolding local_name width vector_type value_type kept kept_run kept_piece parameter dotted_parameters
dotted_balanced ps ts s = balanced dotted_parameters refl ps ts s

-- So are those of a declared one.
pub dotted_later : (ts : List Lexeme) → read (between LeftParen RightParen dotted_parameters) ts ≡ in_two_steps LeftParen RightParen dotted_parameters ts
dotted_later ts = between_inside LeftParen RightParen dotted_parameters dotted_decides refl dotted_balanced ts

-- A leaf of a memory type leaves no bracket open,
pub leaf_stack : stack_after memory_leaf [] ≡ Some []
unfolding local_name width vector_type value_type memory_leaf
leaf_stack = refl

-- the head of an array one,
pub array_stack : stack_after array_begin [] ≡ Some (RightBracket ∷ [])
unfolding array_begin
array_stack = refl

-- and a whole memory type none.
pub memory_balanced : (d : ℕ) (nodes : List TypeNode) (ts : List Lexeme) → Spells (memory_type d) nodes ts → nests [] ts ≡ true
unfolding type_parts
memory_balanced d nodes ts s = balanced (memory_type d) (memory_stack type_parts leaf_stack array_stack d []) nodes ts s
