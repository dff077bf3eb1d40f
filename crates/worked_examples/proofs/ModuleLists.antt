-- A worked example of a module's lists: places in them stand for what the text's items name, and what is only used stands behind the others.
use Rattle.std.proofs.Common.{◌≡◌, ℕ, true, false, length, List, [], ◌∷◌, ◌++◌, map, codes, Option, Some, None, refl}
use Rattle.text_forms.specs.Form.{Lexeme}
use Rattle.text_forms.specs.Lexical.{table}
use Rattle.text_forms.specs.Kept.{kept_piece, kept_run, metadata_node, attachment, attachments}
use Rattle.text_forms.specs.LeftOut.{left_out_words}
use Rattle.text_forms.specs.Reading.{◌>>=◌, read_whole}
use Rattle.ir_types.specs.declared.name.Name.TheVariants.{Text, Number}
use Rattle.ir_types.specs.declared.name.ValueId.{ValueId}
use Rattle.ir_types.specs.declared.memory_type.TypeId.{TypeId}
use Rattle.ir_types.specs.declared.memory_type.NamedType.TheVariants.{Defined, Missing}
use Rattle.ir_types.specs.declared.memory_type.MemTy.TheVariants.{One, Array, Struct, Named}
use Rattle.ir_types.specs.declared.inst.Ty.TheVariants.{Int, Ptr, Void}
use Rattle.ir_types.specs.declared.inst.Operand.TheVariants as operands
use Rattle.ir_types.specs.declared.inst.InstKind.TheVariants as kinds
use Rattle.ir_types.specs.declared.inst.Inst.{Inst}
use Rattle.ir_types.specs.declared.module.Function.{Function}
use Rattle.ir_types.specs.declared.module.Symbol.{Symbol}
use Rattle.ir_types.specs.declared.module.SymbolKind.TheVariants as symbols
use Rattle.ir_types.specs.declared.module.Module.{Module}
use Rattle.ir_types.specs.Offsets.{Definitions}
use Rattle.ir_types.specs.TypeNodes.{scalar, called, array}
use Rattle.ir_types.specs.Tree.{WrittenFunction, Item}
use Rattle.ir_types.specs.TypeForms.{local_name, global_name, label, width, vector_type, value_type, return_type, inst_memory, type_words, memory_leaf, array_begin, type_parts}
use Rattle.ir_types.specs.FlagForms.{three_flags}
use Rattle.ir_types.specs.ValueForms.{lane, constant_word, typed_lane, constant_offset, value}
use Rattle.ir_types.specs.Words.{operation_words, terminator_words, value_words, item_words, instruction_words, excluded_words, kept}
use Rattle.ir_types.specs.InstParts.{typed_value, typed_pair, pointer_value, index_value, target, alignment}
use Rattle.ir_types.specs.InstForms.{overflowing, possibly_exact, plain_binary, or_operation, predicates, compared, compare, select, freeze, trunc, zext, sext, ptrtoint, entry_of_phi, phi, getelementptr, load, store, argument, signature, call, extractelement, insertelement, shufflevector, branch, case_of_switch, switch, ret, inst_attachments, operation, terminator}
use Rattle.ir_types.specs.FunctionForms.{block, parameter, dotted_parameters, declared_function, defined_function}
use Rattle.ir_types.specs.ItemForms.{target_line, attribute_group, comdat, metadata, type_definition, initialiser_stops, extra_behind, behind_type, variable_word, variable_definition, item, module_form}
use Rattle.ir_types.specs.Numbered.{numbered_module}
use Rattle.ir_types.specs.Collected.{collected}
use Rattle.ir_types.specs.Used.{all_type_names, all_symbol_names}
use Rattle.ir_types.specs.Denotes.{tree_of, type_names_of}
use Rattle.worked_examples.proofs.Tokens.{tokens_of}

-- ---- the text

-- %q and %r, @w and @z are used and not defined
abbrev text : List Lexeme
text =
    tokens_of
    (codes "define void @f ( ptr %p ) { getelementptr { %q , %t } , ptr %p , i64 1 store ptr getelementptr ( %t , ptr @w , i64 2 ) , ptr @v store ptr @z , ptr @w ret void } "
    ++ codes "@v = global %t 0 %t = type i64 %u = type [ 2 x %r ]")

abbrev definitions : Definitions
definitions = (Text (codes "t"), Some (scalar (Int 64) ∷ [])) ∷ (Text (codes "u"), Some (array 2 ∷ called (Text (codes "r")) ∷ [])) ∷ []

abbrev written : Option (List (Item WrittenFunction))
written = read_whole (module_form definitions (length text)) text

-- ---- the module

abbrev type_at : ℕ → TypeId
type_at i = record { 0 = i }

abbrev value_at : ℕ → ValueId
value_at i = record { 0 = i }

abbrev step : Inst
step = record {
  kind = kinds.Offset (type_at 6) (64 ∷ []) false false false;
  ty = Ptr;
  args = operands.Local (value_at 0) ∷ operands.Int 1 ∷ [];
  labels = [];
  result = Some (value_at 2);
  wide = false;
  kept = [];
}

-- sixteen bytes behind the one symbol, into the other
abbrev write : Inst
write = record { kind = kinds.Store Ptr 8; ty = Void; args = operands.Global 2 16 ∷ operands.Global 0 0 ∷ []; labels = []; result = None; wide = false; kept = [] }

abbrev write_again : Inst
write_again = record { kind = kinds.Store Ptr 8; ty = Void; args = operands.Global 3 0 ∷ operands.Global 2 0 ∷ []; labels = []; result = None; wide = false; kept = [] }

abbrev leave : Inst
leave = record { kind = kinds.ReturnVoid; ty = Void; args = []; labels = []; result = None; wide = false; kept = [] }

abbrev function : Function
function = record {
  name = Text (codes "f");
  before = [];
  ret = Void;
  params = record { ty = Ptr; kept = []; name = value_at 0 } ∷ [];
  varargs = false;
  after = [];
  body = record { name = value_at 1; insts = step ∷ write ∷ write_again ∷ leave ∷ [] } ∷ [];
  names = Text (codes "p") ∷ Number 0 ∷ Number 1 ∷ [];
}

abbrev module_of_text : Module
module_of_text = record {
  head = [];
  types = One (Int 64) ∷ Named 2 ∷ Array 2 (type_at 1) ∷ Named 0 ∷ Named 3 ∷ Named 0 ∷ Struct false (type_at 4 ∷ type_at 5 ∷ []) ∷ [];
  extents = [];
  type_names =
      record { name = Text (codes "t"); ty = Defined (type_at 0) }
      ∷ record { name = Text (codes "u"); ty = Defined (type_at 2) }
      ∷ record { name = Text (codes "r"); ty = Missing }
      ∷ record { name = Text (codes "q"); ty = Missing }
      ∷ [];
  symbols =
      record { name = Text (codes "v"); kind = symbols.Variable (type_at 3) true; before = []; after = codes "0" ∷ [] }
      ∷ record { name = Text (codes "f"); kind = symbols.Function (record { 0 = 0 }); before = []; after = [] }
      ∷ record { name = Text (codes "w"); kind = symbols.Missing; before = []; after = [] }
      ∷ record { name = Text (codes "z"); kind = symbols.Missing; before = []; after = [] }
      ∷ [];
  functions = function ∷ [];
  tail = [];
}

-- The module says what the text's items are collected to.
says : (written >>= numbered_module >>= λ items. Some (collected items)) ≡ Some (tree_of module_of_text)
unfolding table local_name global_name label width vector_type value_type return_type three_flags inst_memory lane constant_word typed_lane constant_offset value typed_value typed_pair pointer_value index_value target alignment overflowing possibly_exact plain_binary or_operation predicates compared compare select freeze trunc zext sext ptrtoint entry_of_phi phi getelementptr load store argument signature call extractelement insertelement shufflevector branch case_of_switch switch ret inst_attachments operation_words operation terminator_words terminator block kept_piece kept_run metadata_node attachment attachments left_out_words type_words value_words item_words instruction_words excluded_words kept memory_leaf array_begin type_parts parameter dotted_parameters declared_function defined_function target_line attribute_group comdat metadata type_definition initialiser_stops extra_behind behind_type variable_word variable_definition item module_form
says = refl

-- Its lists have what is only used by first use: types of definitions stand before those of functions, wherever these are in the text.
types_by_use : type_names_of module_of_text ≡ all_type_names (tree_of module_of_text)
types_by_use = refl

symbols_by_use : map (λ (s : Symbol). s.name) module_of_text.symbols ≡ all_symbol_names (tree_of module_of_text)
symbols_by_use = refl
