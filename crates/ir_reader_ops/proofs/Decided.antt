-- One token ahead tells an instruction, so that it is read in one way at most.
use Rattle.std.proofs.Common.{◌≡◌, true, refl}
use Rattle.text_forms.specs.Kept.{kept_piece, kept_run, metadata_node, attachment, attachments}
use Rattle.text_forms.specs.LeftOut.{left_out_words}
use Rattle.text_forms.specs.Reading.{decides}
use Rattle.ir_types.specs.Offsets.{Definitions}
use Rattle.ir_types.specs.TypeForms.{local_name, global_name, width, vector_type, value_type, return_type, inst_memory, type_words, memory_leaf, array_begin, type_parts}
use Rattle.ir_types.specs.FlagForms.{three_flags}
use Rattle.ir_types.specs.ValueForms.{lane, constant_word, typed_lane, constant_offset, value}
use Rattle.ir_types.specs.Words.{operation_words, terminator_words, value_words, item_words, instruction_words, excluded_words, kept}
use Rattle.ir_types.specs.InstParts.{typed_value, typed_pair, pointer_value, index_value, target, alignment}
use Rattle.ir_types.specs.InstForms.{overflowing, possibly_exact, plain_binary, or_operation, predicates, compared, compare, select, freeze, trunc, zext, sext, ptrtoint, entry_of_phi, phi, getelementptr, load, store, argument, signature, call, extractelement, insertelement, shufflevector, branch, case_of_switch, switch, ret, inst_attachments, operation, terminator}
use Rattle.ir_reader_ops.specs.Words.{instruction}

instruction_decides : (defs : Definitions) → decides (instruction defs) ≡ true
unfolding local_name global_name width vector_type value_type return_type three_flags inst_memory lane constant_word typed_lane constant_offset value typed_value typed_pair pointer_value index_value target alignment overflowing possibly_exact plain_binary or_operation predicates compared compare select freeze trunc zext sext ptrtoint entry_of_phi phi getelementptr load store argument signature call extractelement insertelement shufflevector branch case_of_switch switch ret inst_attachments operation_words operation terminator_words terminator kept_piece kept_run metadata_node attachment attachments left_out_words type_words value_words item_words instruction_words excluded_words kept memory_leaf array_begin type_parts
instruction_decides defs = refl
