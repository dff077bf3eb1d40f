-- Worked examples of the rules: texts, and what is found in them.
use Rattle.std.proofs.Common.{◌≡◌, ℕ, List, [], ◌∷◌, length, codes, Option, Some, refl}
use Rattle.text_forms.specs.Lexical.{table}
use Rattle.text_forms.specs.Reading.{◌>>=◌, read_whole}
use Rattle.text_forms.specs.Kept.{kept_piece, kept_run, metadata_node, attachment, attachments}
use Rattle.text_forms.specs.LeftOut.{left_out_words}
use Rattle.ir_types.specs.declared.name.Name.{Name}
use Rattle.ir_types.specs.declared.name.Name.TheVariants.{Text, Number}
use Rattle.ir_types.specs.TypeForms.{local_name, global_name, label, width, vector_type, value_type, return_type, inst_memory, type_words, memory_leaf, array_begin, type_parts}
use Rattle.ir_types.specs.FlagForms.{three_flags}
use Rattle.ir_types.specs.ValueForms.{lane, constant_word, typed_lane, constant_offset, value}
use Rattle.ir_types.specs.Words.{operation_words, terminator_words, value_words, item_words, instruction_words, excluded_words, kept}
use Rattle.ir_types.specs.InstParts.{typed_value, typed_pair, pointer_value, index_value, target, alignment}
use Rattle.ir_types.specs.InstForms.{overflowing, possibly_exact, plain_binary, or_operation, predicates, compared, compare, select, freeze, trunc, zext, sext, ptrtoint, entry_of_phi, phi, getelementptr, load, store, argument, signature, call, extractelement, insertelement, shufflevector, branch, case_of_switch, switch, ret, inst_attachments, operation, terminator}
use Rattle.ir_types.specs.FunctionForms.{block, parameter, dotted_parameters, declared_function, defined_function}
use Rattle.ir_types.specs.ItemForms.{target_line, attribute_group, comdat, metadata, type_definition, initialiser_stops, extra_behind, behind_type, variable_word, variable_definition, item, module_form}
use Rattle.ir_types.specs.Tree.{ModuleTree}
use Rattle.ir_types.specs.Numbered.{numbered_module}
use Rattle.ir_types.specs.Collected.{collected}
use Rattle.ir_rules.specs.declared.fault.Rule.{Rule}
use Rattle.ir_rules.specs.declared.fault.Rule.TheVariants.{DuplicateName, UnknownName, TypeMismatch, UnknownCallee, Numbering, EntryHasPredecessor, PhiEdges}
use Rattle.ir_rules.specs.declared.fault.Breach.{Breach}
use Rattle.ir_rules.specs.declared.fault.Subject.{Subject}
use Rattle.ir_rules.specs.declared.fault.Subject.TheVariants.{Nothing, Local, Symbol, TypeName}
use Rattle.ir_rules.specs.Breaches.{outside, inside}
use Rattle.ir_intrinsics.specs.Intrinsics.{families, lifetimes, width_texts, lane_texts}
use Rattle.ir_rules.specs.WellFormed.{early_breaches}
use Rattle.worked_examples.proofs.Tokens.{tokens_of}

-- ---- a text as a module

abbrev tree : List ℕ → Option ModuleTree
tree s = read_whole (module_form [] (length (tokens_of s))) (tokens_of s) >>= numbered_module >>= λ items. Some (collected items)

-- what is found in a text, of all rules but the last
abbrev found : List ℕ → Option (List (Rule × Breach))
found s = tree s >>= λ m. Some (early_breaches m)

abbrev nothing : Option (List (Rule × Breach))
nothing = Some []

abbrev name : List ℕ → Name
name s = Text s

-- one breach, in the function f
abbrev in_f : Rule → Subject → ℕ → Option (List (Rule × Breach))
in_f r s place = Some ((r, inside (Text (codes "f")) (s, place)) ∷ [])

-- one breach outside functions
abbrev in_heads : Rule → Subject → Option (List (Rule × Breach))
in_heads r s = Some ((r, outside s) ∷ [])

abbrev x : Subject
x = Local (Text (codes "x"))

abbrev of_number : ℕ → Subject
of_number n = Local (Number n)

-- ---- names

record NamesFound : Type 0 where
  types_twice : found (codes "%t = type i8 %u = type i8 %t = type i16")
      ≡ in_heads DuplicateName (TypeName (Text (codes "t")))
  symbols_twice : found (codes "@f = global i8 0 declare void @f ( )")
      ≡ in_heads DuplicateName (Symbol (Text (codes "f")))
  param_and_result : found (codes "define void @f ( i8 %x ) { %x = add i8 1 , 2 ret void }")
      ≡ in_f DuplicateName x 0
  label_and_result : found (codes "define void @f ( ) { %x = add i8 1 , 2 br label %b x: ret void b: ret void }")
      ≡ in_f DuplicateName x 2
  number_and_text : found (codes "define void @f ( i8 %0 ) { a: %x = add i8 1 , 2 ret void }")
      ≡ nothing
  unknown_type : found (codes "%t = type { i8 , %u }")
      ≡ in_heads UnknownName (TypeName (Text (codes "u")))
  known_later : found (codes "%t = type { i8 , %u } %u = type opaque")
      ≡ nothing
  unknown_variable_type : found (codes "@v = global ptr null @w = external global [ 2 x %u ]")
      ≡ Some ((UnknownName, outside (TypeName (Text (codes "u")))) ∷ (TypeMismatch, outside Nothing) ∷ [])
  unknown_symbol : found (codes "define void @f ( ) { store ptr @v , ptr @f ret void }")
      ≡ Some ((UnknownName, inside (Text (codes "f")) (Symbol (Text (codes "v")), 0)) ∷ [])
  unknown_label : found (codes "define void @f ( ) { br label %x }")
      ≡ Some ((UnknownName, inside (Text (codes "f")) (x, 0)) ∷ (TypeMismatch, inside (Text (codes "f")) (Nothing, 0)) ∷ [])
  number_twice : found (codes "define i8 @f ( ) { %1 = add i8 1 , 2 %1 = add i8 1 , 2 ret i8 %1 }")
      ≡ in_f Numbering (of_number 1) 1
  number_too_small : found (codes "define i8 @f ( i8 %5 ) { %4 = add i8 1 , 2 ret i8 %5 }")
      ≡ in_f Numbering (of_number 4) 0

names : NamesFound
unfolding table local_name global_name label width vector_type value_type return_type three_flags inst_memory lane constant_word typed_lane constant_offset value typed_value typed_pair pointer_value index_value target alignment overflowing possibly_exact plain_binary or_operation predicates compared compare select freeze trunc zext sext ptrtoint entry_of_phi phi getelementptr load store argument signature call extractelement insertelement shufflevector branch case_of_switch switch ret inst_attachments operation_words operation terminator_words terminator block kept_piece kept_run metadata_node attachment attachments left_out_words type_words value_words item_words instruction_words excluded_words kept memory_leaf array_begin type_parts parameter dotted_parameters declared_function defined_function target_line attribute_group comdat metadata type_definition initialiser_stops extra_behind behind_type variable_word variable_definition item module_form families lifetimes width_texts lane_texts
names = record { types_twice = refl; symbols_twice = refl; param_and_result = refl; label_and_result = refl; number_and_text = refl; unknown_type = refl; known_later = refl; unknown_variable_type = refl; unknown_symbol = refl; unknown_label = refl; number_twice = refl; number_too_small = refl }

-- ---- types

record TypesFound : Type 0 where
  other_width : found (codes "define i8 @f ( i16 %x ) { %y = add i8 %x , 2 ret i8 %y }")
      ≡ in_f TypeMismatch (Local (Text (codes "y"))) 0
  too_great : found (codes "define void @f ( ) { %x = add i8 256 , 2 ret void }")
      ≡ in_f TypeMismatch x 0
  greatest : found (codes "define void @f ( ) { %x = add i8 255 , -128 ret void }")
      ≡ nothing
  pointer_number : found (codes "define ptr @f ( ) { ret ptr 0 }")
      ≡ in_f TypeMismatch Nothing 0
  void_result : found (codes "define void @f ( ptr %p ) { %x = store i8 1 , ptr %p ret void }")
      ≡ in_f TypeMismatch x 0
  label_as_value : found (codes "define i8 @f ( ) { x: ret i8 %x }")
      ≡ in_f TypeMismatch Nothing 0
  value_as_label : found (codes "define void @f ( i8 %x ) { br label %x }")
      ≡ in_f TypeMismatch Nothing 0
  other_return : found (codes "define void @f ( ) { ret i8 1 }")
      ≡ in_f TypeMismatch Nothing 0
  no_alignment : found (codes "define void @f ( ptr %p ) { store i8 1 , ptr %p , align 3 ret void }")
      ≡ in_f TypeMismatch Nothing 0
  great_alignment : found (codes "define void @f ( ptr %p ) { store i8 1 , ptr %p , align 4294967296 ret void }")
      ≡ nothing
  loaded_bits : found (codes "define void @f ( ptr %p ) { %x = load < 8 x i1 > , ptr %p ret void }")
      ≡ in_f TypeMismatch x 0
  open_mask : found (codes "define void @f ( < 2 x i32 > %m ) { %x = shufflevector < 2 x i8 > poison , < 2 x i8 > poison , < 2 x i32 > %m ret void }")
      ≡ in_f TypeMismatch x 0
  few_lanes : found (codes "define void @f ( ) { %x = freeze < 4 x i8 > < i8 1 , i8 2 > ret void }")
      ≡ in_f TypeMismatch x 0
  sizeless : found (codes "%t = type opaque @v = external global %t")
      ≡ in_heads TypeMismatch Nothing
  member : found (codes "%t = type { i8 , [ 4 x i32 ] } define void @f ( ptr %p , i64 %i ) { %x = getelementptr %t , ptr %p , i64 %i , i32 1 , i64 %i ret void }")
      ≡ nothing
  no_member : found (codes "%t = type { i8 , [ 4 x i32 ] } define void @f ( ptr %p ) { %x = getelementptr %t , ptr %p , i64 0 , i32 2 ret void }")
      ≡ in_f TypeMismatch x 0
  wide_member : found (codes "%t = type { i8 , [ 4 x i32 ] } define void @f ( ptr %p ) { %x = getelementptr %t , ptr %p , i64 0 , i64 1 ret void }")
      ≡ in_f TypeMismatch x 0
  into_number : found (codes "define void @f ( ptr %p ) { %x = getelementptr i8 , ptr %p , i64 0 , i64 0 ret void }")
      ≡ in_f TypeMismatch x 0

types : TypesFound
unfolding table local_name global_name label width vector_type value_type return_type three_flags inst_memory lane constant_word typed_lane constant_offset value typed_value typed_pair pointer_value index_value target alignment overflowing possibly_exact plain_binary or_operation predicates compared compare select freeze trunc zext sext ptrtoint entry_of_phi phi getelementptr load store argument signature call extractelement insertelement shufflevector branch case_of_switch switch ret inst_attachments operation_words operation terminator_words terminator block kept_piece kept_run metadata_node attachment attachments left_out_words type_words value_words item_words instruction_words excluded_words kept memory_leaf array_begin type_parts parameter dotted_parameters declared_function defined_function target_line attribute_group comdat metadata type_definition initialiser_stops extra_behind behind_type variable_word variable_definition item module_form families lifetimes width_texts lane_texts
types = record { other_width = refl; too_great = refl; greatest = refl; pointer_number = refl; void_result = refl; label_as_value = refl; value_as_label = refl; other_return = refl; no_alignment = refl; great_alignment = refl; loaded_bits = refl; open_mask = refl; few_lanes = refl; sizeless = refl; member = refl; no_member = refl; wide_member = refl; into_number = refl }

-- ---- calls

record CallsFound : Type 0 where
  undeclared : found (codes "define void @f ( ) { call void @g ( ) ret void }")
      ≡ in_f UnknownCallee (Symbol (Text (codes "g"))) 0
  other_argument : found (codes "declare void @g ( i8 ) define void @f ( ) { call void @g ( i16 1 ) ret void }")
      ≡ in_f UnknownCallee (Symbol (Text (codes "g"))) 0
  more_arguments : found (codes "declare void @g ( i8 , ... ) define void @f ( ) { call void ( i8 , ... ) @g ( i8 1 , i16 2 ) ret void }")
      ≡ nothing
  too_few : found (codes "declare void @g ( i8 , ... ) define void @f ( ) { call void ( i8 , ... ) @g ( ) ret void }")
      ≡ in_f UnknownCallee (Symbol (Text (codes "g"))) 0
  minimum : found (codes "declare < 4 x i32 > @llvm.smin.v4i32 ( < 4 x i32 > , < 4 x i32 > )")
      ≡ nothing
  other_minimum : found (codes "declare i32 @llvm.smin.v4i32 ( < 4 x i32 > , < 4 x i32 > )")
      ≡ in_heads UnknownCallee (Symbol (Text (codes "llvm.smin.v4i32")))
  variable_minimum : found (codes "@llvm.umax.i8 = global i8 0")
      ≡ in_heads UnknownCallee (Symbol (Text (codes "llvm.umax.i8")))
  sum : found (codes "declare i64 @llvm.vector.reduce.add.v512i64 ( < 512 x i64 > )")
      ≡ nothing
  other_function : found (codes "declare i8 @llvm.abs.i8 ( i16 ) declare void @llvm.lifetime.startle ( ) declare i8 @llvm.lifetime.end.p0 ( i8 , ... )")
      ≡ nothing
  masked : found (codes "declare < 2 x i8 > @llvm.masked.load.v2i8.p0 ( ptr , i32 , < 2 x i1 > , < 2 x i8 > ) define void @f ( ptr %p , i32 %a ) { %x = call < 2 x i8 > @llvm.masked.load.v2i8.p0 ( ptr %p , i32 %a , < 2 x i1 > poison , < 2 x i8 > poison ) ret void }")
      ≡ in_f TypeMismatch x 0
  masked_otherwise : found (codes "declare < 2 x i8 > @llvm.masked.load.v2i8.p0 ( ptr , < 2 x i1 > , < 2 x i8 > ) define void @f ( ptr %p ) { %x = call < 2 x i8 > @llvm.masked.load.v2i8.p0 ( ptr %p , < 2 x i1 > poison , < 2 x i8 > poison ) ret void }")
      ≡ in_heads UnknownCallee (Symbol (Text (codes "llvm.masked.load.v2i8.p0")))
  masked_rightly : found (codes "declare void @llvm.masked.store.v2i8.p0 ( < 2 x i8 > , ptr , i32 , < 2 x i1 > ) define void @f ( ptr %p ) { call void @llvm.masked.store.v2i8.p0 ( < 2 x i8 > zeroinitializer , ptr %p , i32 1 , < 2 x i1 > poison ) ret void }")
      ≡ nothing

calls : CallsFound
unfolding table local_name global_name label width vector_type value_type return_type three_flags inst_memory lane constant_word typed_lane constant_offset value typed_value typed_pair pointer_value index_value target alignment overflowing possibly_exact plain_binary or_operation predicates compared compare select freeze trunc zext sext ptrtoint entry_of_phi phi getelementptr load store argument signature call extractelement insertelement shufflevector branch case_of_switch switch ret inst_attachments operation_words operation terminator_words terminator block kept_piece kept_run metadata_node attachment attachments left_out_words type_words value_words item_words instruction_words excluded_words kept memory_leaf array_begin type_parts parameter dotted_parameters declared_function defined_function target_line attribute_group comdat metadata type_definition initialiser_stops extra_behind behind_type variable_word variable_definition item module_form families lifetimes width_texts lane_texts
calls = record { undeclared = refl; other_argument = refl; more_arguments = refl; too_few = refl; minimum = refl; other_minimum = refl; variable_minimum = refl; sum = refl; other_function = refl; masked = refl; masked_otherwise = refl; masked_rightly = refl }

-- ---- edges

record EdgesFound : Type 0 where
  again : found (codes "define void @f ( ) { x: br label %x }")
      ≡ in_f EntryHasPredecessor x 0
  loop : found (codes "define void @f ( i1 %c ) { a: br label %b b: %x = phi i8 [ 1 , %a ] , [ %x , %b ] br i1 %c , label %b , label %d d: ret void }")
      ≡ nothing
  entry_lost : found (codes "define void @f ( i1 %c ) { a: br label %b b: %x = phi i8 [ 1 , %a ] br i1 %c , label %b , label %d d: ret void }")
      ≡ in_f PhiEdges x 1
  both_edges : found (codes "define void @f ( i1 %c ) { a: br i1 %c , label %b , label %b b: %x = phi i8 [ 1 , %a ] , [ 1 , %a ] ret void }")
      ≡ nothing
  unequal : found (codes "define void @f ( i1 %c ) { a: br i1 %c , label %b , label %b b: %x = phi i8 [ 1 , %a ] , [ 2 , %a ] ret void }")
      ≡ in_f PhiEdges x 1
  behind_another : found (codes "define void @f ( ) { a: br label %b b: %y = add i8 1 , 2 %x = phi i8 [ 1 , %a ] ret void }")
      ≡ in_f PhiEdges x 2
  unreachable_edge : found (codes "define void @f ( ) { a: br label %b u: br label %b b: %x = phi i8 [ 1 , %a ] ret void }")
      ≡ in_f PhiEdges x 2

edges : EdgesFound
unfolding table local_name global_name label width vector_type value_type return_type three_flags inst_memory lane constant_word typed_lane constant_offset value typed_value typed_pair pointer_value index_value target alignment overflowing possibly_exact plain_binary or_operation predicates compared compare select freeze trunc zext sext ptrtoint entry_of_phi phi getelementptr load store argument signature call extractelement insertelement shufflevector branch case_of_switch switch ret inst_attachments operation_words operation terminator_words terminator block kept_piece kept_run metadata_node attachment attachments left_out_words type_words value_words item_words instruction_words excluded_words kept memory_leaf array_begin type_parts parameter dotted_parameters declared_function defined_function target_line attribute_group comdat metadata type_definition initialiser_stops extra_behind behind_type variable_word variable_definition item module_form families lifetimes width_texts lane_texts
edges = record { again = refl; loop = refl; entry_lost = refl; both_edges = refl; unequal = refl; behind_another = refl; unreachable_edge = refl }
