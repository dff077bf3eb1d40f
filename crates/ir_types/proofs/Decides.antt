-- One token ahead decides what the grammar reads; where a comma or a name with `=` leads, what stands behind it.
use Rattle.std.proofs.Common.{◌≡◌, ℕ, zero, suc, true, false, List, [], ◌∷◌, ◌++◌, codes, refl, sym, subst}
use Rattle.text_forms.specs.declared.TokenKind.TheVariants.{Word}
use Rattle.text_forms.specs.Form.{Form, by_word, either, many}
use Rattle.text_forms.specs.Reading.{Terminal, this, all_apart, decides, nullable, first, after}
use Rattle.text_forms.specs.Nested.{PartsDecide}
use Rattle.text_forms.specs.Kept.{kept_piece, kept_run, metadata_node, attachment, attachments}
use Rattle.text_forms.specs.LeftOut.{left_out_words}
use Rattle.text_forms.proofs.NestedDecides.{memory_decides, memory_takes, memory_after}
use Rattle.ir_types.specs.Offsets.{Definitions}
use Rattle.ir_types.specs.TypeNodes.{TypeNode}
use Rattle.ir_types.specs.Tree.{WrittenFunction, Item}
use Rattle.ir_types.specs.TypeForms.{local_name, global_name, label, width, vector_type, value_type, memory_leaf, array_begin, type_parts, memory_type, return_type, inst_memory, type_words}
use Rattle.ir_types.specs.FlagForms.{three_flags}
use Rattle.ir_types.specs.ValueForms.{lane, constant_word, typed_lane, constant_offset, value}
use Rattle.ir_types.specs.Words.{operation_words, terminator_words, value_words, item_words, instruction_words, excluded_words, kept}
use Rattle.ir_types.specs.InstParts.{typed_value, typed_pair, pointer_value, index_value, target, alignment}
use Rattle.ir_types.specs.InstForms.{overflowing, possibly_exact, plain_binary, or_operation, predicates, compared, compare, select, freeze, trunc, zext, sext, ptrtoint, entry_of_phi, phi, getelementptr, load, store, argument, signature, call, extractelement, insertelement, shufflevector, branch, case_of_switch, switch, ret, inst_attachments, operation, terminator}
use Rattle.ir_types.specs.FunctionForms.{line, block, parameter, dotted_parameters, declared_function, defined_function}
use Rattle.ir_types.specs.ItemForms.{wordless_item, target_line, attribute_group, comdat, metadata, type_definition, initialiser_stops, extra_behind, behind_type, variable_word, variable_definition, item_behind, item, module_form}

-- in memory types too, at every depth
pub parts_decide : PartsDecide type_parts
unfolding local_name width vector_type value_type memory_leaf array_begin type_parts
parts_decide = record {
  leaf_decides = refl;
  leaf_takes = refl;
  leaf_ends = refl;
  array_decides = refl;
  array_takes = refl;
  array_ends = refl;
  leaf_apart = refl;
  array_apart = refl;
  end_apart = refl;
}

-- no memory type begins with the word `opaque`
not_opaque : (d : ℕ) → all_apart (first (memory_type d)) (this Word (codes "opaque") ∷ []) ≡ true
unfolding local_name width vector_type value_type memory_leaf array_begin type_parts
not_opaque zero = refl
not_opaque (suc d) = refl

-- items that begin with a word
abbrev with_word : Definitions → Form (Item WrittenFunction)
with_word defs = by_word item_words (item_behind defs)

many_decide : {A : Type 0} (f g : Form A) → decides f ≡ true → decides g ≡ true → nullable f ≡ false → nullable g ≡ false → all_apart (first f) (first g) ≡ true → all_apart (after f ++ after g) (first f ++ first g) ≡ true → decides (many (either f g)) ≡ true
many_decide f g df dg nf ng fg afg = rw (df, dg, nf, ng, fg, afg) refl

words_decide : (defs : Definitions) → decides (with_word defs) ≡ true
unfolding local_name global_name label width vector_type value_type return_type three_flags inst_memory lane constant_word typed_lane constant_offset value typed_value typed_pair pointer_value index_value target alignment overflowing possibly_exact plain_binary or_operation predicates compared compare select freeze trunc zext sext ptrtoint entry_of_phi phi getelementptr load store argument signature call extractelement insertelement shufflevector branch case_of_switch switch ret inst_attachments operation_words operation terminator_words terminator block kept_piece kept_run metadata_node attachment attachments left_out_words type_words value_words item_words instruction_words excluded_words kept parameter dotted_parameters declared_function defined_function target_line attribute_group comdat metadata memory_leaf type_definition initialiser_stops extra_behind behind_type variable_word variable_definition item
words_decide defs = refl

others_decide : (m : Form (List TypeNode)) → decides m ≡ true → nullable m ≡ false → after m ≡ [] → all_apart (first m) (this Word (codes "opaque") ∷ []) ≡ true → decides (wordless_item m) ≡ true
unfolding local_name global_name label width vector_type value_type return_type three_flags inst_memory lane constant_word typed_lane constant_offset value typed_value typed_pair pointer_value index_value target alignment overflowing possibly_exact plain_binary or_operation predicates compared compare select freeze trunc zext sext ptrtoint entry_of_phi phi getelementptr load store argument signature call extractelement insertelement shufflevector branch case_of_switch switch ret inst_attachments operation_words operation terminator_words terminator block kept_piece kept_run metadata_node attachment attachments left_out_words type_words value_words item_words instruction_words excluded_words kept parameter dotted_parameters declared_function defined_function target_line attribute_group comdat metadata memory_leaf type_definition initialiser_stops extra_behind behind_type variable_word variable_definition item
others_decide m d n a o = rw (d, n, a, o) refl

-- the same as where memory types are leaves alone
others_after : (m : Form (List TypeNode)) → nullable m ≡ false → after m ≡ [] → after (wordless_item m) ≡ after (wordless_item memory_leaf)
unfolding local_name global_name label width vector_type value_type return_type three_flags inst_memory lane constant_word typed_lane constant_offset value typed_value typed_pair pointer_value index_value target alignment overflowing possibly_exact plain_binary or_operation predicates compared compare select freeze trunc zext sext ptrtoint entry_of_phi phi getelementptr load store argument signature call extractelement insertelement shufflevector branch case_of_switch switch ret inst_attachments operation_words operation terminator_words terminator block kept_piece kept_run metadata_node attachment attachments left_out_words type_words value_words item_words instruction_words excluded_words kept parameter dotted_parameters declared_function defined_function target_line attribute_group comdat metadata memory_leaf type_definition initialiser_stops extra_behind behind_type variable_word variable_definition item
others_after m n a = rw (n, a) refl

-- whatever the form of memory types is
items_decide : (defs : Definitions) (m : Form (List TypeNode)) → decides m ≡ true → nullable m ≡ false → after m ≡ [] → all_apart (first m) (this Word (codes "opaque") ∷ []) ≡ true → decides (many (item defs m)) ≡ true
unfolding local_name global_name label width vector_type value_type return_type three_flags inst_memory lane constant_word typed_lane constant_offset value typed_value typed_pair pointer_value index_value target alignment overflowing possibly_exact plain_binary or_operation predicates compared compare select freeze trunc zext sext ptrtoint entry_of_phi phi getelementptr load store argument signature call extractelement insertelement shufflevector branch case_of_switch switch ret inst_attachments operation_words operation terminator_words terminator block kept_piece kept_run metadata_node attachment attachments left_out_words type_words value_words item_words instruction_words excluded_words kept parameter dotted_parameters declared_function defined_function target_line attribute_group comdat metadata memory_leaf type_definition initialiser_stops extra_behind behind_type variable_word variable_definition item
items_decide defs m d n a o =
    many_decide (with_word defs) (wordless_item m) (words_decide defs) (others_decide m d n a o) refl refl refl
    (subst (λ (l : List Terminal). all_apart (after (with_word defs) ++ l) (first (with_word defs) ++ first (wordless_item m)) ≡ true) (sym (others_after m n a)) refl)

-- One token ahead decides what a module's form reads, whatever its depth.
pub module_decides : (defs : Definitions) (depth : ℕ) → decides (module_form defs depth) ≡ true
unfolding module_form
module_decides defs depth = items_decide defs (memory_type depth) (memory_decides type_parts parts_decide depth) (memory_takes type_parts parts_decide depth) (memory_after type_parts parts_decide depth) (not_opaque depth)

-- A line is spelled by no empty list of tokens.
pub line_takes : (defs : Definitions) → nullable (line (operation defs)) ≡ false
unfolding operation
line_takes defs = refl

-- Nor is a block,
pub block_takes : (defs : Definitions) → nullable (block defs) ≡ false
unfolding block operation terminator
block_takes defs = refl

-- nor an item.
pub item_takes : (defs : Definitions) (m : Form (List TypeNode)) → nullable (item defs m) ≡ false
unfolding type_definition variable_definition comdat metadata item
item_takes defs m = refl
