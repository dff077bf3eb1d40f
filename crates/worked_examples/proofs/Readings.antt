-- Worked examples of what names, numbers and texts stand for.
use Rattle.std.specs.List.{filter_map}
use Rattle.std.proofs.Common.{◌≡◌, ℕ, true, false, length, take, ◌+◌, ◌%◌, ◌^◌, List, [], ◌∷◌, ◌++◌, map, codes, Option, Some, None, refl, Bool}
use Rattle.std.specs.Prelude.{is_some, slice_get, ◌-◌}
use Rattle.text_forms.specs.Form.{Lexeme}
use Rattle.text_forms.specs.Lexical.{table}
use Rattle.text_forms.specs.Kept.{kept_piece, kept_run, metadata_node, attachment, attachments}
use Rattle.text_forms.specs.LeftOut.{left_out_words}
use Rattle.text_forms.specs.Reading.{◌>>=◌, read_whole}
use Rattle.ir_types.specs.declared.name.Name.{Name}
use Rattle.ir_types.specs.declared.name.Name.TheVariants.{Text, Number}
use Rattle.ir_types.specs.declared.inst.Ty.TheVariants.{Int, Ptr, Vector, Void}
use Rattle.ir_types.specs.declared.inst.Pred.TheVariants.{Eq, Slt}
use Rattle.ir_types.specs.declared.call.Actual.{Actual}
use Rattle.ir_types.specs.declared.call.Signature.{Signature}
use Rattle.ir_types.specs.declared.call.TailKind.{TailKind}
use Rattle.ir_types.specs.declared.call.TailKind.TheVariants.{Unmarked, Tail, MustTail, NoTail}
use Rattle.ir_types.specs.Kinds.{Kind, Offset, Binary, Compare, Select, Freeze, Trunc, Zext, Sext, PtrToInt, Phi, Load, Store, Call, Extract, Insert, Shuffle, Jump, Branch, Switch, Return, ReturnVoid, Unreachable}
use Rattle.ir_types.specs.declared.inst.BinOp.TheVariants.{Add, Sub, Mul, Shl, UDiv, AShr, And, Or, Xor}
use Rattle.ir_types.specs.Written.{number_of, number_at, unescaped, name_behind, name_before}
use Rattle.ir_types.specs.Offsets.{Definitions, definitions_in}
use Rattle.ir_types.specs.TypeNodes.{scalar, called, array, opening, closing}
use Rattle.ir_types.specs.Tree.{KeptTexts, OperandTree, local, number, null, poison, lanes, global, out_of_range, InstTree, BlockTree, FunctionTree, WrittenFunction, TypeNameTree, defined, opaque, ModuleTree, Item, comdat_line, variable_item, function_item, metadata_line}
use Rattle.ir_types.specs.TypeForms.{local_name, global_name, label, width, vector_type, value_type, return_type, inst_memory, type_words, memory_leaf, array_begin, type_parts}
use Rattle.ir_types.specs.FlagForms.{three_flags, no_flags, wrap_flags, exact_flag, disjoint_flag}
use Rattle.ir_types.specs.ValueForms.{lane, constant_word, typed_lane, constant_offset, value}
use Rattle.ir_types.specs.Words.{operation_words, terminator_words, value_words, item_words, instruction_words, excluded_words, kept}
use Rattle.ir_types.specs.InstParts.{typed_value, typed_pair, pointer_value, index_value, target, alignment}
use Rattle.ir_types.specs.InstForms.{if_wide, overflowing, possibly_exact, plain_binary, or_operation, predicates, compared, compare, select, freeze, trunc, zext, sext, ptrtoint, entry_of_phi, phi, getelementptr, load, store, argument, signature, call, extractelement, insertelement, shufflevector, branch, case_of_switch, switch, ret, inst_attachments, bare_inst, with_kept, operation, terminator}
use Rattle.ir_types.specs.FunctionForms.{named_by, block, parameter, dotted_parameters, declared_function, defined_function}
use Rattle.ir_types.specs.ItemForms.{target_line, attribute_group, comdat, metadata, type_definition, initialiser_stops, extra_behind, behind_type, variable_word, variable_definition, item, module_form}
use Rattle.ir_types.specs.Sizes.{Layout, value_size, struct_layout}
use Rattle.ir_types.specs.Numbered.{numbered_module}
use Rattle.ir_types.specs.Collected.{as_function, collected}
use Rattle.worked_examples.proofs.Tokens.{tokens_of}

-- a backslash, and a string between quotation marks
abbrev slash : ℕ
slash = 92

abbrev quoted : List ℕ → List ℕ
quoted s = 34 ∷ s ++ 34 ∷ []

-- ---- numbers

record Numbers : Type 0 where
  zero_digit : number_of (codes "0") ≡ 0
  twelve : number_of (codes "12") ≡ 12
  -- zeros in front change nothing
  padded : number_of (codes "00012") ≡ 12
  -- more digits than a machine's number has
  long : number_of (codes "100000000000000000000000000000000000007") ≡ 10 ^ 38 + 7
  one_bit : number_at 1 (codes "1") ≡ 1
  -- minus one has all bits set
  minus_one_bit : number_at 1 (codes "-1") ≡ 1
  minus_one : number_at 32 (codes "-1") ≡ 4294967295
  minus_zero : number_at 32 (codes "-0") ≡ 0
  -- the greatest number of 32 bits, and one more
  greatest : number_at 32 (codes "4294967295") ≡ 4294967295
  beyond : number_at 32 (codes "4294967296") ≡ 0
  -- the least signed number of 32 bits
  least : number_at 32 (codes "-2147483648") ≡ 2147483648
  minus_beyond : number_at 32 (codes "-4294967297") ≡ 4294967295
  two_in_one_bit : number_at 1 (codes "2") ≡ 0
  long_modulo : number_at 32 (codes "100000000000000000000000000000000000007") ≡ (10 ^ 38 + 7) % 2 ^ 32

numbers : Numbers
numbers = record { zero_digit = refl; twelve = refl; padded = refl; long = refl; one_bit = refl; minus_one_bit = refl; minus_one = refl; minus_zero = refl; greatest = refl; beyond = refl; least = refl; minus_beyond = refl; two_in_one_bit = refl; long_modulo = refl }

-- ---- strings and names

record Strings : Type 0 where
  plain : unescaped (codes "a b") ≡ codes "a b"
  -- `a\5Cb` has one backslash, and what it makes is no escape again
  escaped_slash : unescaped (codes "a" ++ slash ∷ codes "5Cb") ≡ codes "a" ++ slash ∷ codes "b"
  not_twice : unescaped (slash ∷ codes "5C41") ≡ slash ∷ codes "41"
  -- two backslashes are one, and three are one and what stands behind it
  two : unescaped (slash ∷ slash ∷ []) ≡ slash ∷ []
  two_then_digits : unescaped (slash ∷ slash ∷ codes "41") ≡ slash ∷ codes "41"
  three_then_digits : unescaped (slash ∷ slash ∷ slash ∷ codes "41") ≡ slash ∷ codes "A"
  -- `\41` is A, in small letters too `\6a` is j
  letter : unescaped (slash ∷ codes "41") ≡ codes "A"
  small : unescaped (slash ∷ codes "6a" ++ codes "x") ≡ codes "jx"
  greatest_byte : unescaped (slash ∷ codes "fF") ≡ 255 ∷ []
  -- `\4` at the end, `\4g`, `\zz` and `\` at the end stand for themselves
  one_digit : unescaped (slash ∷ codes "4") ≡ slash ∷ codes "4"
  digit_and_letter : unescaped (slash ∷ codes "4g") ≡ slash ∷ codes "4g"
  no_digits : unescaped (slash ∷ codes "zz") ≡ slash ∷ codes "zz"
  at_end : unescaped (codes "a" ++ slash ∷ []) ≡ codes "a" ++ slash ∷ []

strings : Strings
strings = record { plain = refl; escaped_slash = refl; not_twice = refl; two = refl; two_then_digits = refl; three_then_digits = refl; letter = refl; small = refl; greatest_byte = refl; one_digit = refl; digit_and_letter = refl; no_digits = refl; at_end = refl }

record Names : Type 0 where
  bare : name_behind (codes "%x") ≡ Some (Text (codes "x"))
  string : name_behind (codes "%" ++ quoted (codes "a b")) ≡ Some (Text (codes "a b"))
  -- a name is the same with quotes and without
  same : name_behind (codes "%" ++ quoted (codes "x")) ≡ name_behind (codes "%x")
  escaped : name_behind (codes "@" ++ quoted (slash ∷ codes "22")) ≡ Some (Text (34 ∷ []))
  empty : name_behind (codes "%" ++ quoted []) ≡ Some (Text [])
  digits : name_behind (codes "%7") ≡ Some (Number 7)
  -- zeros in front change nothing
  padded : name_behind (codes "%007") ≡ Some (Number 7)
  greatest : name_behind (codes "%4294967295") ≡ Some (Number 4294967295)
  beyond : name_behind (codes "%4294967296") ≡ None
  -- digits in a string are a text
  quoted_digits : name_behind (codes "@" ++ quoted (codes "7")) ≡ Some (Text (codes "7"))
  label_digits : name_before (codes "7:") ≡ Some (Number 7)
  label_bare : name_before (codes "a:") ≡ Some (Text (codes "a"))
  label_string : name_before (quoted (codes "q") ++ codes ":") ≡ Some (Text (codes "q"))
  label_beyond : name_before (codes "4294967296:") ≡ None
  -- a name may begin with a sign
  label_sign : name_before (codes "-1:") ≡ Some (Text (codes "-1"))

names : Names
names = record { bare = refl; string = refl; same = refl; escaped = refl; empty = refl; digits = refl; padded = refl; greatest = refl; beyond = refl; quoted_digits = refl; label_digits = refl; label_bare = refl; label_string = refl; label_beyond = refl; label_sign = refl }

-- ---- what a text reads as

abbrev read_items : List Lexeme → Option (List (Item WrittenFunction))
read_items ts = read_whole (module_form [] (length ts)) ts

abbrev reading : List ℕ → Option (List (Item WrittenFunction))
reading s = read_items (tokens_of s)

abbrev is_read : List ℕ → Bool
is_read s = is_some (reading s)

-- ---- how things without a name are numbered: the names of the parameters, then of each block and of its results

abbrev result_names : List InstTree → List Name
result_names [] = []
result_names (i ∷ more) = elim i.result [ None ↦ result_names more | Some n ↦ n ∷ result_names more ]

abbrev block_names : List BlockTree → List Name
block_names [] = []
block_names (b ∷ more) = b.name ∷ result_names b.insts ++ block_names more

abbrev function_names : List FunctionTree → List (List Name)
function_names fs = map (λ f. map (λ p. p.name) f.params ++ block_names f.body) fs

abbrev names_in : List ℕ → Option (List (List Name))
names_in s = reading s >>= numbered_module >>= λ items. Some (function_names (filter_map as_function items))

abbrev written_example : WrittenFunction
written_example = record {
  name = Text (codes "f");
  before = [];
  ret = Int 32;
  params = record { ty = Int 32; kept = []; name = Some (Number 0) } ∷ record { ty = Int 1; kept = []; name = Some (Number 1) } ∷ [];
  varargs = false;
  after = [];
  body =
      record { label = None; insts = bare_inst Branch Void (local (Number 1) ∷ []) (Number 3 ∷ Number 4 ∷ []) ∷ [] } ∷
      record { label = Some (Number 3); insts = bare_inst Jump Void [] (Number 4 ∷ []) ∷ [] } ∷
      record {
        label = Some (Number 4);
        insts =
            named_by (bare_inst Phi (Int 32) (local (Number 0) ∷ number 7 ∷ []) (Number 2 ∷ Number 3 ∷ [])) (Some (Number 5)) ∷
            bare_inst (Return (Int 32)) Void (local (Number 5) ∷ []) [] ∷
            [];
      } ∷
      [];
}

abbrev example : List ℕ
example = codes "define i32 @f ( i32 %0 , i1 %1 ) { br i1 %1 , label %3 , label %4 3: br label %4 4: %5 = phi i32 [ %0 , %2 ] , [ 7 , %3 ] ret i32 %5 }"

record Readings : Type 0 where
  whole : reading example ≡ Some (function_item written_example ∷ [])
  -- the entry takes 2
  numbers : names_in example ≡ Some ((Number 0 ∷ Number 1 ∷ Number 2 ∷ Number 3 ∷ Number 4 ∷ Number 5 ∷ []) ∷ [])
  -- a module may have no function
  none : reading [] ≡ Some []
  -- an operation's operands are held at its type, and `true` is 1
  operands : reading (codes "define i1 @f ( ) { %x = icmp slt i32 -1 , true ret i1 false }") ≡ Some (function_item (record {
    name = Text (codes "f");
    before = [];
    ret = Int 1;
    params = [];
    varargs = false;
    after = [];
    body = record {
      label = None;
      insts =
          named_by (bare_inst (Compare Slt (Int 32)) (Int 1) (number 4294967295 ∷ number 1 ∷ []) []) (Some (Text (codes "x"))) ∷
          bare_inst (Return (Int 1)) Void (number 0 ∷ []) [] ∷
          [];
    } ∷ [];
  }) ∷ [])
  -- no block, no terminator, something behind the terminator that is no block
  no_block : reading (codes "define i32 @f ( ) { }") ≡ None
  no_terminator : reading (codes "define i32 @f ( ) { add i32 1 , 2 }") ≡ None
  open_block : reading (codes "define i32 @f ( ) { ret i32 1 a: }") ≡ None
  -- a comma too many, at each place where there may be one
  parameter_comma : reading (codes "define i32 @f ( i32 , ) { ret i32 1 }") ≡ None
  only_comma : reading (codes "define i32 @f ( , ) { ret i32 1 }") ≡ None
  operand_comma : reading (codes "define i32 @f ( ) { add i32 1 , 2 , ret i32 1 }") ≡ None
  entry_comma : reading (codes "define i32 @f ( ) { phi i32 [ 1 , %0 ] , ret i32 1 }") ≡ None
  no_entries : reading (codes "define i32 @f ( ) { phi i32 ret i32 1 }") ≡ None
  -- `br i1` has two targets
  one_target : reading (codes "define i32 @f ( i1 %c ) { br i1 %c , label %a }") ≡ None
  -- three lanes are none of the counts, and a count has no sign
  three_lanes : reading (codes "define void @f ( < 3 x i8 > ) { ret void }") ≡ None
  signed_lanes : reading (codes "define void @f ( < -4 x i8 > ) { ret void }") ≡ None
  other_type : reading (codes "define i24 @f ( ) { ret i24 1 }") ≡ None
  fraction : reading (codes "define i32 @f ( ) { ret i32 1.5 }") ≡ None
  -- a name has at most 32 bits
  great_name : reading (codes "define i32 @f ( ) { ret i32 %4294967296 }") ≡ None
  -- parameters first, then the entry, then the results and blocks in the text's order; `br` and `ret` take none
  in_order : names_in (codes "define i32 @f ( i32 , i32 ) { add i32 %0 , %1 br label %x x: add i32 1 , 2 ret i32 %4 }")
      ≡ Some ((Number 0 ∷ Number 1 ∷ Number 2 ∷ Number 3 ∷ Text (codes "x") ∷ Number 4 ∷ []) ∷ [])
  -- results of `call` of a value take numbers, those of `store` and of `call` of `void` none, though a name may be written
  no_results : names_in (codes "define void @f ( ) { %a = call void @f ( ) store i8 0 , ptr null %7 = store i8 0 , ptr null call i8 @g ( ) switch i8 %8 , label %x [ ] x: unreachable }")
      ≡ Some ((Number 0 ∷ Text (codes "a") ∷ Number 7 ∷ Number 8 ∷ Text (codes "x") ∷ []) ∷ [])
  -- the block behind a terminator needs no label
  unnamed_block : names_in (codes "define i32 @f ( ) { br label %1 ret i32 0 }") ≡ Some ((Number 0 ∷ Number 1 ∷ []) ∷ [])
  -- a written number counts on, a smaller one changes nothing, and each function counts from 0
  written_number : names_in (codes "define i32 @f ( i32 %9 , i32 ) { ret i32 0 } define i32 @g ( i32 %a ) { %3 = add i32 1 , 2 %1 = add i32 1 , 2 add i32 1 , 2 ret i32 0 }")
      ≡ Some ((Number 9 ∷ Number 10 ∷ Number 11 ∷ []) ∷ (Text (codes "a") ∷ Number 0 ∷ Number 3 ∷ Number 1 ∷ Number 4 ∷ []) ∷ [])
  -- a number that is only used changes nothing
  used_number : names_in (codes "define i32 @f ( ) { add i32 %9 , 2 ret i32 0 }") ≡ Some ((Number 0 ∷ Number 1 ∷ []) ∷ [])
  -- the last number may be written, and then there is no next one
  last_number : names_in (codes "define i32 @f ( ) { %4294967295 = add i32 1 , 2 ret i32 0 }") ≡ Some ((Number 0 ∷ Number 4294967295 ∷ []) ∷ [])
  no_next : names_in (codes "define i32 @f ( ) { %4294967295 = add i32 1 , 2 add i32 1 , 2 ret i32 0 }") ≡ None

readings : Readings
unfolding table local_name global_name label width vector_type value_type return_type three_flags inst_memory lane constant_word typed_lane constant_offset value typed_value typed_pair pointer_value index_value target alignment overflowing possibly_exact plain_binary or_operation predicates compared compare select freeze trunc zext sext ptrtoint entry_of_phi phi getelementptr load store argument signature call extractelement insertelement shufflevector branch case_of_switch switch ret inst_attachments operation_words operation terminator_words terminator block kept_piece kept_run metadata_node attachment attachments left_out_words type_words value_words item_words instruction_words excluded_words kept memory_leaf array_begin type_parts parameter dotted_parameters declared_function defined_function target_line attribute_group comdat metadata type_definition initialiser_stops extra_behind behind_type variable_word variable_definition item module_form
readings = record { whole = refl; numbers = refl; none = refl; operands = refl; no_block = refl; no_terminator = refl; open_block = refl; parameter_comma = refl; only_comma = refl; operand_comma = refl; entry_comma = refl; no_entries = refl; one_target = refl; three_lanes = refl; signed_lanes = refl; other_type = refl; fraction = refl; great_name = refl; in_order = refl; no_results = refl; unnamed_block = refl; written_number = refl; used_number = refl; last_number = refl; no_next = refl }

-- ---- instructions

abbrev inst : List ℕ → Option InstTree
inst s = read_whole (operation []) (tokens_of s)

abbrev last_inst : List ℕ → Option InstTree
last_inst s = read_whole (terminator []) (tokens_of s)

abbrev x : OperandTree
x = local (Text (codes "x"))

abbrev y : OperandTree
y = local (Text (codes "y"))

record Values : Type 0 where
  -- a number is held modulo 2^8, from -128 to 255, and `true` is 1
  numbers : inst (codes "add i8 -1 , 200") ≡ Some (bare_inst (Binary Add no_flags) (Int 8) (number 255 ∷ number 200 ∷ []) [])
  least_and_greatest : inst (codes "add i8 -128 , 255") ≡ Some (bare_inst (Binary Add no_flags) (Int 8) (number 128 ∷ number 255 ∷ []) [])
  too_small : inst (codes "add i8 -129 , 1") ≡ Some (if_wide true (bare_inst (Binary Add no_flags) (Int 8) (out_of_range None ∷ number 1 ∷ []) []))
  too_great : inst (codes "add i64 1 , 18446744073709551616") ≡ Some (if_wide true (bare_inst (Binary Add no_flags) (Int 64) (number 1 ∷ out_of_range None ∷ []) []))
  great_lane : inst (codes "freeze < 2 x i8 > < i8 -128 , i8 256 >") ≡ Some (if_wide true (bare_inst Freeze (Vector 2 8) (out_of_range None ∷ []) []))
  great_splat : inst (codes "freeze < 2 x i1 > splat ( i1 -2 )") ≡ Some (if_wide true (bare_inst Freeze (Vector 2 1) (out_of_range None ∷ []) []))
  truths : inst (codes "and i1 true , false") ≡ Some (bare_inst (Binary And no_flags) (Int 1) (number 1 ∷ number 0 ∷ []) [])
  null_pointer : inst (codes "icmp eq ptr %x , null") ≡ Some (bare_inst (Compare Eq Ptr) (Int 1) (x ∷ null ∷ []) [])
  poison_lanes : inst (codes "mul < 2 x i8 > poison , < i8 -1 , i8 poison >") ≡ Some (bare_inst (Binary Mul no_flags) (Vector 2 8) (poison ∷ lanes (Some 255 ∷ None ∷ []) ∷ []) [])
  all_zero : inst (codes "xor < 2 x i16 > zeroinitializer , splat ( i16 5 )") ≡ Some (bare_inst (Binary Xor no_flags) (Vector 2 16) (lanes (Some 0 ∷ Some 0 ∷ []) ∷ lanes (Some 5 ∷ Some 5 ∷ []) ∷ []) [])
  bits : inst (codes "and < 2 x i1 > < i1 true , i1 false > , splat ( i1 poison )") ≡ Some (bare_inst (Binary And no_flags) (Vector 2 1) (lanes (Some 1 ∷ Some 0 ∷ []) ∷ lanes (None ∷ None ∷ []) ∷ []) [])
  -- how many lanes are written isn't looked at
  few_lanes : inst (codes "freeze < 4 x i8 > < i8 7 >") ≡ Some (bare_inst Freeze (Vector 4 8) (lanes (Some 7 ∷ []) ∷ []) [])
  -- zeros and lanes at another type than a vector, lanes of another element type, a lane that is no constant, lanes in a lane
  zero_number : inst (codes "add i32 zeroinitializer , 1") ≡ None
  number_lanes : inst (codes "freeze i8 < i8 7 >") ≡ None
  pointer_splat : inst (codes "freeze ptr splat ( ptr poison )") ≡ None
  other_lanes : inst (codes "freeze < 2 x i8 > < i8 7 , i16 8 >") ≡ None
  other_splat : inst (codes "freeze < 2 x i8 > splat ( i16 8 )") ≡ None
  open_lane : inst (codes "freeze < 2 x i8 > < i8 7 , i8 %x >") ≡ None
  null_lane : inst (codes "freeze < 2 x i8 > < i8 7 , i8 null >") ≡ None
  zero_lane : inst (codes "freeze < 2 x i8 > splat ( < 2 x i8 > zeroinitializer )") ≡ None
  no_lanes : inst (codes "freeze < 2 x i8 > < >") ≡ None
  lane_comma : inst (codes "freeze < 2 x i8 > < i8 7 , >") ≡ None

values : Values
unfolding table local_name global_name label width vector_type value_type return_type three_flags inst_memory lane constant_word typed_lane constant_offset value typed_value typed_pair pointer_value index_value target alignment overflowing possibly_exact plain_binary or_operation predicates compared compare select freeze trunc zext sext ptrtoint entry_of_phi phi getelementptr load store argument signature call extractelement insertelement shufflevector branch case_of_switch switch ret inst_attachments operation_words operation terminator_words terminator block kept_piece kept_run metadata_node attachment attachments left_out_words type_words value_words item_words instruction_words excluded_words kept memory_leaf array_begin type_parts parameter dotted_parameters declared_function defined_function target_line attribute_group comdat metadata type_definition initialiser_stops extra_behind behind_type variable_word variable_definition item module_form
values = record { numbers = refl; least_and_greatest = refl; too_small = refl; too_great = refl; great_lane = refl; great_splat = refl; truths = refl; null_pointer = refl; poison_lanes = refl; all_zero = refl; bits = refl; few_lanes = refl; zero_number = refl; number_lanes = refl; pointer_splat = refl; other_lanes = refl; other_splat = refl; open_lane = refl; null_lane = refl; zero_lane = refl; no_lanes = refl; lane_comma = refl }

record Instructions : Type 0 where
  -- flags in any order, each once at most
  wraps : inst (codes "sub nsw nuw i8 %x , %y") ≡ Some (bare_inst (Binary Sub (wrap_flags (true, true))) (Int 8) (x ∷ y ∷ []) [])
  one_wrap : inst (codes "shl nsw i8 %x , %y") ≡ Some (bare_inst (Binary Shl (wrap_flags (false, true))) (Int 8) (x ∷ y ∷ []) [])
  twice : inst (codes "add nuw nuw i8 %x , %y") ≡ None
  exactly_so : inst (codes "ashr exact i8 %x , %y") ≡ Some (bare_inst (Binary AShr (exact_flag true)) (Int 8) (x ∷ y ∷ []) [])
  inexact : inst (codes "udiv i8 %x , %y") ≡ Some (bare_inst (Binary UDiv no_flags) (Int 8) (x ∷ y ∷ []) [])
  apart_bits : inst (codes "or disjoint i8 %x , %y") ≡ Some (bare_inst (Binary Or (disjoint_flag true)) (Int 8) (x ∷ y ∷ []) [])
  no_wraps : inst (codes "urem nuw i8 %x , %y") ≡ None
  exact_sum : inst (codes "add exact i8 %x , %y") ≡ None
  two_casts : inst (codes "trunc nsw nuw i64 %x to i8") ≡ Some (bare_inst (Trunc (Int 64) true true) (Int 8) (x ∷ []) [])
  -- a comparison of vectors has a bit for each lane
  lanes_compared : inst (codes "icmp slt < 2 x i8 > %x , %y") ≡ Some (bare_inst (Compare Slt (Vector 2 8)) (Vector 2 1) (x ∷ y ∷ []) [])
  other_arm : inst (codes "select i1 %x , i8 %y , i16 7") ≡ Some (bare_inst (Select (Int 1) (Int 16)) (Int 8) (x ∷ y ∷ number 7 ∷ []) [])
  chosen : inst (codes "select < 2 x i1 > %x , < 2 x i8 > %y , < 2 x i8 > poison") ≡ Some (bare_inst (Select (Vector 2 1) (Vector 2 8)) (Vector 2 8) (x ∷ y ∷ poison ∷ []) [])
  fewer_bits : inst (codes "trunc nsw i64 %x to i8") ≡ Some (bare_inst (Trunc (Int 64) false true) (Int 8) (x ∷ []) [])
  more_bits : inst (codes "zext nneg i8 %x to i64") ≡ Some (bare_inst (Zext (Int 8) true) (Int 64) (x ∷ []) [])
  sign_bits : inst (codes "sext < 2 x i8 > %x to < 2 x i32 >") ≡ Some (bare_inst (Sext (Vector 2 8)) (Vector 2 32) (x ∷ []) [])
  address : inst (codes "ptrtoint ptr %x to i64") ≡ Some (bare_inst PtrToInt (Int 64) (x ∷ []) [])
  -- without an alignment it is the natural one; it is held modulo 2^64, and has no sign
  natural_bits : inst (codes "load < 4 x i1 > , ptr %x") ≡ Some (bare_inst (Load 1) (Vector 4 1) (x ∷ []) [])
  late_alignment : inst (codes "load i8 , ptr %x , !a !0 , align 1") ≡ None
  natural : inst (codes "load < 4 x i32 > , ptr %x") ≡ Some (bare_inst (Load 16) (Vector 4 32) (x ∷ []) [])
  aligned_load : inst (codes "load i64 , ptr %x , align 18446744073709551618") ≡ Some (bare_inst (Load (2 ^ 64 - 1)) (Int 64) (x ∷ []) [])
  signed_load : inst (codes "load i64 , ptr %x , align -8") ≡ None
  stored : inst (codes "store i16 7 , ptr %x , !a !0") ≡ Some (with_kept (bare_inst (Store (Int 16) 2) Void (number 7 ∷ x ∷ []) []) (codes "," ∷ codes "!a" ∷ codes "!0" ∷ []))
  stored_so : inst (codes "store i16 7 , ptr %x , align 1 , !a !0 , !b ! { }") ≡ Some (with_kept (bare_inst (Store (Int 16) 1) Void (number 7 ∷ x ∷ []) []) (codes "," ∷ codes "!a" ∷ codes "!0" ∷ codes "," ∷ codes "!b" ∷ codes "!" ∷ codes "{" ∷ codes "}" ∷ []))
  a_lane : inst (codes "extractelement < 4 x i8 > %x , i64 3") ≡ Some (bare_inst (Extract (Vector 4 8) 64) (Int 8) (x ∷ number 3 ∷ []) [])
  another_lane : inst (codes "insertelement < 4 x i8 > %x , i8 5 , i32 %y") ≡ Some (bare_inst (Insert (Int 8) 32) (Vector 4 8) (x ∷ number 5 ∷ y ∷ []) [])
  -- as many lanes as the mask has
  mixed_lanes : inst (codes "shufflevector < 4 x i8 > %x , < 4 x i8 > poison , < 2 x i32 > < i32 3 , i32 poison >")
      ≡ Some (bare_inst (Shuffle (Vector 4 8) (Vector 4 8) (Vector 2 32)) (Vector 2 8) (x ∷ poison ∷ lanes (Some 3 ∷ None ∷ []) ∷ []) [])
  joined_values : inst (codes "phi < 2 x i8 > [ zeroinitializer , %a ] , [ %x , %b ] , !a !0")
      ≡ Some (with_kept (bare_inst Phi (Vector 2 8) (lanes (Some 0 ∷ Some 0 ∷ []) ∷ x ∷ []) (Text (codes "a") ∷ Text (codes "b") ∷ [])) (codes "," ∷ codes "!a" ∷ codes "!0" ∷ []))
  joined_numbers : inst (codes "phi i8 [ zeroinitializer , %a ]") ≡ None
  switched : last_inst (codes "switch i8 %x , label %d [ i8 -1 , label %a i8 2 , label %b ] , !prof !3")
      ≡ Some (with_kept (bare_inst (Switch 8 (255 ∷ 2 ∷ [])) Void (x ∷ []) (Text (codes "d") ∷ Text (codes "a") ∷ Text (codes "b") ∷ [])) (codes "," ∷ codes "!prof" ∷ codes "!3" ∷ []))
  great_case : last_inst (codes "switch i8 %x , label %d [ i8 2 , label %a i8 256 , label %b ]")
      ≡ Some (if_wide true (bare_inst (Switch 8 (2 ∷ 0 ∷ [])) Void (x ∷ []) (Text (codes "d") ∷ Text (codes "a") ∷ Text (codes "b") ∷ [])))
  no_cases : last_inst (codes "switch i8 %x , label %d [ ]") ≡ Some (bare_inst (Switch 8 []) Void (x ∷ []) (Text (codes "d") ∷ []))
  wide_case : last_inst (codes "switch i8 %x , label %d [ i16 2 , label %b ]") ≡ None
  comma_case : last_inst (codes "switch i8 %x , label %d [ i8 1 , label %a , i8 2 , label %b ]") ≡ None
  true_case : last_inst (codes "switch i1 %x , label %d [ i1 true , label %b ]") ≡ None
  never : last_inst (codes "unreachable , !a !0") ≡ Some (with_kept (bare_inst Unreachable Void [] []) (codes "," ∷ codes "!a" ∷ codes "!0" ∷ []))
  no_attachment : last_inst (codes "unreachable , !0") ≡ None

instructions : Instructions
unfolding table local_name global_name label width vector_type value_type return_type three_flags inst_memory lane constant_word typed_lane constant_offset value typed_value typed_pair pointer_value index_value target alignment overflowing possibly_exact plain_binary or_operation predicates compared compare select freeze trunc zext sext ptrtoint entry_of_phi phi getelementptr load store argument signature call extractelement insertelement shufflevector branch case_of_switch switch ret inst_attachments operation_words operation terminator_words terminator block kept_piece kept_run metadata_node attachment attachments left_out_words type_words value_words item_words instruction_words excluded_words kept memory_leaf array_begin type_parts parameter dotted_parameters declared_function defined_function target_line attribute_group comdat metadata type_definition initialiser_stops extra_behind behind_type variable_word variable_definition item module_form
instructions = record { wraps = refl; one_wrap = refl; twice = refl; exactly_so = refl; inexact = refl; apart_bits = refl; no_wraps = refl; exact_sum = refl; two_casts = refl; lanes_compared = refl; other_arm = refl; chosen = refl; fewer_bits = refl; more_bits = refl; sign_bits = refl; address = refl; natural_bits = refl; late_alignment = refl; natural = refl; aligned_load = refl; signed_load = refl; stored = refl; stored_so = refl; a_lane = refl; another_lane = refl; mixed_lanes = refl; joined_values = refl; joined_numbers = refl; switched = refl; great_case = refl; no_cases = refl; wide_case = refl; comma_case = refl; true_case = refl; never = refl; no_attachment = refl }

-- ---- calls

-- what is called by the name f
abbrev called_f : TailKind → KeptTexts → Option Signature → List Actual → KeptTexts → Kind
called_f tail before signature actuals after = Call (record { tail = tail; before = before; signature = signature; name = Text (codes "f"); actuals = actuals; after = after })

record Calls : Type 0 where
  whole : inst (codes "tail call fastcc noundef i32 ( i32 , ... ) @f ( i32 noundef %x , ptr align 8 null ) #0 , !a !0")
      ≡ Some (with_kept (bare_inst (called_f Tail (codes "fastcc" ∷ codes "noundef" ∷ []) (Some (record { params = Int 32 ∷ []; varargs = true }))
      (record { ty = Int 32; kept = codes "noundef" ∷ [] } ∷ record { ty = Ptr; kept = codes "align" ∷ codes "8" ∷ [] } ∷ []) (codes "#0" ∷ [])) (Int 32) (x ∷ null ∷ []) []) (codes "," ∷ codes "!a" ∷ codes "!0" ∷ []))
  bare : inst (codes "call void @f ( )") ≡ Some (bare_inst (called_f Unmarked [] None [] []) Void [] [])
  dots : inst (codes "musttail call void ( ... ) @f ( )") ≡ Some (bare_inst (called_f MustTail [] (Some (record { params = []; varargs = true })) [] []) Void [] [])
  no_types : inst (codes "notail call void ( ) @f ( )") ≡ Some (bare_inst (called_f NoTail [] (Some (record { params = []; varargs = false })) [] []) Void [] [])
  -- a number behind `align` is the run's, and has to stand there, without a sign
  aligned_value : inst (codes "call void @f ( i8 align 4 5 , i8 align ( 4 ) -5 )")
      ≡ Some (bare_inst (called_f Unmarked [] None (record { ty = Int 8; kept = codes "align" ∷ codes "4" ∷ [] } ∷ record { ty = Int 8; kept = codes "align" ∷ codes "(" ∷ codes "4" ∷ codes ")" ∷ [] } ∷ []) []) Void (number 5 ∷ number 251 ∷ []) [])
  signed_value : inst (codes "call void @f ( i8 align -4 )") ≡ None
  bare_align : inst (codes "call void @f ( i8 align %x )") ≡ None
  no_value : inst (codes "call void @f ( i8 align 4 )") ≡ None
  only_comma : inst (codes "call void ( , ... ) @f ( )") ≡ None
  argument_comma : inst (codes "call void @f ( i8 5 , )") ≡ None
  dots_argument : inst (codes "call void @f ( i8 5 , ... )") ≡ None
  local_callee : inst (codes "call void %f ( )") ≡ None
  no_call : inst (codes "tail void @f ( )") ≡ None
  two_words : inst (codes "tail musttail call void @f ( )") ≡ None

calls : Calls
unfolding table local_name global_name label width vector_type value_type return_type three_flags inst_memory lane constant_word typed_lane constant_offset value typed_value typed_pair pointer_value index_value target alignment overflowing possibly_exact plain_binary or_operation predicates compared compare select freeze trunc zext sext ptrtoint entry_of_phi phi getelementptr load store argument signature call extractelement insertelement shufflevector branch case_of_switch switch ret inst_attachments operation_words operation terminator_words terminator block kept_piece kept_run metadata_node attachment attachments left_out_words type_words value_words item_words instruction_words excluded_words kept memory_leaf array_begin type_parts parameter dotted_parameters declared_function defined_function target_line attribute_group comdat metadata type_definition initialiser_stops extra_behind behind_type variable_word variable_definition item module_form
calls = record { whole = refl; bare = refl; dots = refl; no_types = refl; aligned_value = refl; signed_value = refl; bare_align = refl; no_value = refl; only_comma = refl; argument_comma = refl; dots_argument = refl; local_callee = refl; no_call = refl; two_words = refl }

-- ---- items

-- a definition that uses a type defined behind it and one that is nowhere, and a struct of none; a variable that uses another
abbrev types : List ℕ
types = codes "@v = internal constant [ 3 x %w ] zeroinitializer , align 4 %a = type { i8 , %b , %u } %b = type < { %t , [ 0 x i64 ] } > %c = type opaque %d = type { }"

abbrev type_names : List ℕ → Option (List TypeNameTree)
type_names s = reading s >>= numbered_module >>= λ items. Some (collected items).type_names

record Items : Type 0 where
  -- variables, comdats, declarations and metadata
  several : reading (codes "$v = comdat any @v = linkonce_odr global i32 0 , comdat , align 4 declare !note !0 void @g ( ) define void @h ( ) !note !0 { ret void } !0 = ! { }")
      ≡ Some (
      comdat_line (codes "$v" ∷ codes "=" ∷ codes "comdat" ∷ codes "any" ∷ []) ∷
      variable_item (record { name = Text (codes "v"); before = codes "linkonce_odr" ∷ []; writable = true; ty = scalar (Int 32) ∷ []; after = codes "0" ∷ codes "," ∷ codes "comdat" ∷ codes "," ∷ codes "align" ∷ codes "4" ∷ [] }) ∷
      function_item (record { name = Text (codes "g"); before = codes "!note" ∷ codes "!0" ∷ []; ret = Void; params = []; varargs = false; after = []; body = [] }) ∷
      function_item (record {
        name = Text (codes "h");
        before = [];
        ret = Void;
        params = [];
        varargs = false;
        after = codes "!note" ∷ codes "!0" ∷ [];
        body = record { label = None; insts = bare_inst ReturnVoid Void [] [] ∷ [] } ∷ [];
      }) ∷
      metadata_line (codes "!0" ∷ codes "=" ∷ codes "!" ∷ codes "{" ∷ codes "}" ∷ []) ∷
      [])
  -- definitions in their order
  named : type_names types
      ≡ Some (
      record { name = Text (codes "a"); ty = defined (opening false ∷ scalar (Int 8) ∷ called (Text (codes "b")) ∷ called (Text (codes "u")) ∷ closing ∷ []) } ∷
      record { name = Text (codes "b"); ty = defined (opening true ∷ called (Text (codes "t")) ∷ array 0 ∷ scalar (Int 64) ∷ closing ∷ []) } ∷
      record { name = Text (codes "c"); ty = opaque } ∷
      record { name = Text (codes "d"); ty = defined (opening false ∷ closing ∷ []) } ∷
      [])
  -- dots behind parameters, alone, and behind a comma alone; two sections
  dots_alone : names_in (codes "declare void @f ( ... )") ≡ Some ([] ∷ [])
  dots_behind : names_in (codes "declare void @f ( i8 noundef , ... ) #0") ≡ Some ((Number 0 ∷ []) ∷ [])
  dots_comma : reading (codes "declare void @f ( , ... )") ≡ None
  dots_defined : reading (codes "define void @f ( ... ) { ret void }") ≡ None
  two_sections : reading (codes "@v = global i8 0 , section \"s\" , section \"s\"") ≡ None
  one_section : is_read (codes "@v = global i8 0 , section \"s\" , align 4") ≡ true
  signed_kept : reading (codes "declare void @f ( ptr align -8 )") ≡ None
  unsigned_kept : is_read (codes "declare void @f ( ptr align 8 cc 10 dereferenceable ( 8 ) \"a\" = \"b\" #0 )") ≡ true
  -- an initialiser ends where an item begins
  two_variables : is_read (codes "@a = global i32 0 @b = global i32 1 !n = ! { } %t = type i8 $k = comdat any declare void @f ( )") ≡ true
  signed_alignment : reading (codes "@v = global i8 0 , align -4") ≡ None
  -- an array of 2^64 elements, one with a sign, and a vector of arrays
  great_array : reading (codes "%a = type [ 18446744073709551616 x i8 ]") ≡ None
  signed_array : reading (codes "%a = type [ -1 x i8 ]") ≡ None
  vector_of_arrays : reading (codes "%a = type < 2 x [ 2 x i8 ] >") ≡ None
  -- a word that begins a value is not kept, and a bracket is to be closed
  excluded : reading (codes "define true void @f ( ) { ret void }") ≡ None
  unclosed : reading (codes "declare void @f ( ) memory ( read") ≡ None

items : Items
unfolding table local_name global_name label width vector_type value_type return_type three_flags inst_memory lane constant_word typed_lane constant_offset value typed_value typed_pair pointer_value index_value target alignment overflowing possibly_exact plain_binary or_operation predicates compared compare select freeze trunc zext sext ptrtoint entry_of_phi phi getelementptr load store argument signature call extractelement insertelement shufflevector branch case_of_switch switch ret inst_attachments operation_words operation terminator_words terminator block kept_piece kept_run metadata_node attachment attachments left_out_words type_words value_words item_words instruction_words excluded_words kept memory_leaf array_begin type_parts parameter dotted_parameters declared_function defined_function target_line attribute_group comdat metadata type_definition initialiser_stops extra_behind behind_type variable_word variable_definition item module_form
items = record { several = refl; named = refl; dots_alone = refl; dots_behind = refl; dots_comma = refl; dots_defined = refl; two_sections = refl; one_section = refl; signed_kept = refl; unsigned_kept = refl; two_variables = refl; signed_alignment = refl; great_array = refl; signed_array = refl; vector_of_arrays = refl; excluded = refl; unclosed = refl }

-- ---- the order of what is collected

abbrev collected_of : List ℕ → Option ModuleTree
collected_of s = reading s >>= numbered_module >>= λ items. Some (collected items)

abbrev mixed : List ℕ
mixed = codes "!1 = ! { } define void @f ( ) { ret void } $k = comdat any @v = global i8 0 attributes #0 = { } declare void @g ( ) target triple = \"t\" @w = global i8 1 !0 = ! { }"

abbrev kept_lines : (ModuleTree → List (List (List ℕ))) → Option (List (List (List ℕ)))
kept_lines part = collected_of mixed >>= λ m. Some (map (λ xs. take 2 xs) (part m))

record Orders : Type 0 where
  head : kept_lines (λ m. m.head) ≡ Some ((codes "target" ∷ codes "triple" ∷ []) ∷ (codes "$k" ∷ codes "=" ∷ []) ∷ [])
  tail : kept_lines (λ m. m.tail) ≡ Some ((codes "attributes" ∷ codes "#0" ∷ []) ∷ (codes "!1" ∷ codes "=" ∷ []) ∷ (codes "!0" ∷ codes "=" ∷ []) ∷ [])
  symbols : (collected_of mixed >>= λ m. Some (map (λ s. s.name) m.symbols)) ≡ Some (Text (codes "v") ∷ Text (codes "w") ∷ Text (codes "f") ∷ Text (codes "g") ∷ [])
  functions : (collected_of mixed >>= λ m. Some (map (λ f. f.name) m.functions)) ≡ Some (Text (codes "f") ∷ Text (codes "g") ∷ [])

orders : Orders
unfolding table local_name global_name label width vector_type value_type return_type three_flags inst_memory lane constant_word typed_lane constant_offset value typed_value typed_pair pointer_value index_value target alignment overflowing possibly_exact plain_binary or_operation predicates compared compare select freeze trunc zext sext ptrtoint entry_of_phi phi getelementptr load store argument signature call extractelement insertelement shufflevector branch case_of_switch switch ret inst_attachments operation_words operation terminator_words terminator block kept_piece kept_run metadata_node attachment attachments left_out_words type_words value_words item_words instruction_words excluded_words kept memory_leaf array_begin type_parts parameter dotted_parameters declared_function defined_function target_line attribute_group comdat metadata type_definition initialiser_stops extra_behind behind_type variable_word variable_definition item module_form
orders = record { head = refl; tail = refl; symbols = refl; functions = refl }

-- ---- symbols and what stands behind them

-- the operands of the first instruction of a module's first function
abbrev first_args : List (Item FunctionTree) → Option (List OperandTree)
first_args items = slice_get (filter_map as_function items) 0 >>= λ f. slice_get f.body 0 >>= λ b. slice_get b.insts 0 >>= λ i. Some i.args

-- a function that compares a pointer with null, behind some types
abbrev compares : (types pointer : List ℕ) → List Lexeme
compares types pointer = tokens_of (types ++ codes " define void @f ( ) { icmp eq ptr null , " ++ pointer ++ codes " ret void }")

-- the operands of the comparison, where the types are those that are defined
abbrev constant : (types pointer : List ℕ) → Option (List OperandTree)
constant types pointer =
    reading types >>= λ items. read_whole (module_form (definitions_in items) (length (compares types pointer))) (compares types pointer) >>= numbered_module >>= first_args

-- so many bytes behind @v
abbrev behind_v : ℕ → Option (List OperandTree)
behind_v n = Some (null ∷ global (Text (codes "v")) n ∷ [])

abbrev structs : List ℕ
structs = codes "%s = type { i8 , i32 , [ 4 x i16 ] } %p = type < { i8 , %s } > %n = type %m %m = type { i8 , %s } %c = type { %c } %o = type opaque"

record Constants : Type 0 where
  bare : constant [] (codes "@v") ≡ behind_v 0
  -- whole types, a member, an element of it
  member : constant structs (codes "getelementptr inbounds ( %s , ptr @v , i64 1 , i32 2 , i64 3 )") ≡ behind_v 30
  packed : constant structs (codes "getelementptr ( %p , ptr @v , i64 0 , i32 1 , i32 1 )") ≡ behind_v 5
  named_twice : constant structs (codes "getelementptr nuw inbounds nusw ( %n , ptr @v , i32 2 , i32 1 )") ≡ behind_v 44
  -- indexes are signed
  before : constant [] (codes "getelementptr ( i32 , ptr @v , i64 -1 )") ≡ behind_v (2 ^ 64 - 4)
  small_before : constant [] (codes "getelementptr ( i16 , ptr @v , i8 255 )") ≡ behind_v (2 ^ 64 - 2)
  great_index : constant [] (codes "getelementptr ( i16 , ptr @v , i64 1 , i8 256 )") ≡ None
  great_first : constant [] (codes "getelementptr ( i16 , ptr @v , i8 256 )") ≡ Some (null ∷ out_of_range (Some (Text (codes "v"))) ∷ [])
  around : constant [] (codes "getelementptr ( [ 8 x i8 ] , ptr @v , i64 1 , i64 -8 )") ≡ behind_v 0
  beyond : constant [] (codes "getelementptr ( [ 8 x i8 ] , ptr @v , i64 0 , i64 9 )") ≡ behind_v 9
  -- 2^60 + 1 times 16, and an array of none, whose elements are too large to step over
  no_type : constant [] (codes "getelementptr ( other , ptr @v , i64 0 )") ≡ None
  great_step : constant [] (codes "getelementptr ( < 4 x i32 > , ptr @v , i64 1152921504606846977 )") ≡ behind_v 16
  none_of_great : constant [] (codes "getelementptr ( [ 0 x [ 18446744073709551615 x i64 ] ] , ptr @v , i64 5 )") ≡ behind_v 0
  into_great : constant [] (codes "getelementptr ( [ 0 x [ 18446744073709551615 x i64 ] ] , ptr @v , i64 0 , i64 0 )") ≡ None
  great : constant [] (codes "getelementptr ( [ 2305843009213693952 x i8 ] , ptr @v , i64 0 )") ≡ None
  almost_great : constant [] (codes "getelementptr ( [ 2305843009213693951 x i8 ] , ptr @v , i64 8 )") ≡ behind_v (2 ^ 64 - 8)
  -- no member, nothing to lead into, no size, no index
  no_member : constant structs (codes "getelementptr ( %s , ptr @v , i64 0 , i32 3 )") ≡ None
  negative_bit : constant [] (codes "getelementptr ( { i8 , i32 } , ptr @v , i64 0 , i1 1 )") ≡ None
  backwards : constant [] (codes "getelementptr ( [ 2 x i32 ] , ptr @v , i64 0 , i1 1 )") ≡ behind_v (2 ^ 64 - 4)
  padded : constant [] (codes "getelementptr ( { i8 , < { i8 , i64 } > , i32 } , ptr @v , i64 1 , i32 2 )") ≡ behind_v 28
  few_bits : constant [] (codes "getelementptr ( { i8 , < 16 x i1 > , i8 } , ptr @v , i64 1 , i32 2 )") ≡ behind_v 10
  none_aligned : constant [] (codes "getelementptr ( { i8 , [ 0 x i64 ] } , ptr @v , i64 0 , i32 1 , i64 -1 )") ≡ behind_v 0
  first_counts : constant (codes "%s = type i8 %s = type i64") (codes "getelementptr ( %s , ptr @v , i64 1 )") ≡ behind_v 1
  first_opaque : constant (codes "%s = type opaque %s = type i64") (codes "getelementptr ( %s , ptr @v , i64 1 )") ≡ None
  chain : constant (codes "%a = type %b %c = type i32 %b = type { i8 , %c }") (codes "getelementptr ( %a , ptr @v , i64 1 , i32 1 )") ≡ behind_v 12
  circle : constant (codes "%a = type %b %b = type %a") (codes "getelementptr ( %a , ptr @v , i64 1 )") ≡ None
  part_of_itself : constant (codes "%r = type { i8 , [ 0 x %r ] }") (codes "getelementptr ( %r , ptr @v , i64 1 )") ≡ None
  negative_member : constant structs (codes "getelementptr ( %s , ptr @v , i64 0 , i32 -1 )") ≡ None
  into_number : constant structs (codes "getelementptr ( %s , ptr @v , i64 0 , i32 0 , i64 0 )") ≡ None
  into_lanes : constant [] (codes "getelementptr ( < 2 x i8 > , ptr @v , i64 0 , i64 1 )") ≡ None
  itself : constant structs (codes "getelementptr ( %c , ptr @v , i64 0 )") ≡ None
  unknown_type : constant structs (codes "getelementptr ( %o , ptr @v , i64 0 )") ≡ None
  missing_struct : constant structs (codes "getelementptr ( { i8 , %q } , ptr @v , i64 0 )") ≡ None
  no_index : constant [] (codes "getelementptr ( i8 , ptr @v )") ≡ None
  local_index : constant [] (codes "getelementptr ( i8 , ptr @v , i64 %x )") ≡ None
  -- a pointer behind another, whose type is written by its nodes
  stepped_from : inst (codes "getelementptr nusw inbounds [ 4 x { i8 , %t } ] , ptr %x , i64 0 , i32 %y , !a !0")
      ≡ Some (with_kept (bare_inst (Offset (array 4 ∷ opening false ∷ scalar (Int 8) ∷ called (Text (codes "t")) ∷ closing ∷ []) (64 ∷ 32 ∷ []) true false true) Ptr (x ∷ number 0 ∷ y ∷ []) []) (codes "," ∷ codes "!a" ∷ codes "!0" ∷ []))
  packed_from : inst (codes "getelementptr < { i8 } > , ptr %x , i64 0") ≡ Some (bare_inst (Offset (opening true ∷ scalar (Int 8) ∷ closing ∷ []) (64 ∷ []) false false false) Ptr (x ∷ number 0 ∷ []) [])
  lanes_from : inst (codes "getelementptr < 2 x i8 > , ptr %x , i64 0") ≡ Some (bare_inst (Offset (scalar (Vector 2 8) ∷ []) (64 ∷ []) false false false) Ptr (x ∷ number 0 ∷ []) [])
  no_steps : inst (codes "getelementptr i8 , ptr %x") ≡ None
  flag_twice : inst (codes "getelementptr nuw nuw i8 , ptr %x , i64 0") ≡ None
  void_from : inst (codes "getelementptr void , ptr %x , i64 0") ≡ None
  unclosed_type : inst (codes "getelementptr [ 4 x i8 , ptr %x , i64 0") ≡ None

constants : Constants
unfolding table local_name global_name label width vector_type value_type return_type three_flags inst_memory lane constant_word typed_lane constant_offset value typed_value typed_pair pointer_value index_value target alignment overflowing possibly_exact plain_binary or_operation predicates compared compare select freeze trunc zext sext ptrtoint entry_of_phi phi getelementptr load store argument signature call extractelement insertelement shufflevector branch case_of_switch switch ret inst_attachments operation_words operation terminator_words terminator block kept_piece kept_run metadata_node attachment attachments left_out_words type_words value_words item_words instruction_words excluded_words kept memory_leaf array_begin type_parts parameter dotted_parameters declared_function defined_function target_line attribute_group comdat metadata type_definition initialiser_stops extra_behind behind_type variable_word variable_definition item module_form
constants = record { bare = refl; member = refl; packed = refl; named_twice = refl; before = refl; small_before = refl; great_index = refl; great_first = refl; around = refl; beyond = refl; no_type = refl; great_step = refl; none_of_great = refl; into_great = refl; great = refl; almost_great = refl; no_member = refl; negative_bit = refl; backwards = refl; padded = refl; few_bits = refl; none_aligned = refl; first_counts = refl; first_opaque = refl; chain = refl; circle = refl; part_of_itself = refl; negative_member = refl; into_number = refl; into_lanes = refl; itself = refl; unknown_type = refl; missing_struct = refl; no_index = refl; local_index = refl; stepped_from = refl; packed_from = refl; lanes_from = refl; no_steps = refl; flag_twice = refl; void_from = refl; unclosed_type = refl }

-- a constant whose type is defined behind it: the items that are read with these definitions have these definitions
abbrev later_text : List Lexeme
later_text = tokens_of (codes "define void @f ( ) { icmp eq ptr null , getelementptr ( %s , ptr @v , i64 1 ) ret void } %s = type i64")

abbrev later_definitions : Definitions
later_definitions = (Text (codes "s"), Some (scalar (Int 64) ∷ [])) ∷ []

abbrev later_items : Option (List (Item WrittenFunction))
later_items = read_whole (module_form later_definitions (length later_text)) later_text

record Later : Type 0 where
  themselves : (later_items >>= λ items. Some (definitions_in items)) ≡ Some later_definitions
  eight_bytes : (later_items >>= numbered_module >>= first_args) ≡ behind_v 8

later : Later
unfolding table local_name global_name label width vector_type value_type return_type three_flags inst_memory lane constant_word typed_lane constant_offset value typed_value typed_pair pointer_value index_value target alignment overflowing possibly_exact plain_binary or_operation predicates compared compare select freeze trunc zext sext ptrtoint entry_of_phi phi getelementptr load store argument signature call extractelement insertelement shufflevector branch case_of_switch switch ret inst_attachments operation_words operation terminator_words terminator block kept_piece kept_run metadata_node attachment attachments left_out_words type_words value_words item_words instruction_words excluded_words kept memory_leaf array_begin type_parts parameter dotted_parameters declared_function defined_function target_line attribute_group comdat metadata type_definition initialiser_stops extra_behind behind_type variable_word variable_definition item module_form
later = record { themselves = refl; eight_bytes = refl }

-- ---- sizes

abbrev scalar_layout : ℕ → Layout
scalar_layout n = record { size = n; align = n }

record SizesOf : Type 0 where
  bits : value_size (Vector 4 1) ≡ 1
  lanes : value_size (Vector 4 32) ≡ 16
  -- { i8, i32, i16 }, the same packed, none, and { i8, <4 x i1>, i64 }
  gaps : struct_layout false (scalar_layout 1 ∷ scalar_layout 4 ∷ scalar_layout 2 ∷ []) ≡ record { size = 12; align = 4 }
  packed : struct_layout true (scalar_layout 1 ∷ scalar_layout 4 ∷ scalar_layout 2 ∷ []) ≡ record { size = 7; align = 1 }
  none : struct_layout false [] ≡ record { size = 0; align = 1 }
  bytes : struct_layout false (scalar_layout 1 ∷ scalar_layout 1 ∷ scalar_layout 8 ∷ []) ≡ record { size = 16; align = 8 }
  -- { i8, [0 x i64] }
  behind_nothing : struct_layout false (scalar_layout 1 ∷ record { size = 0; align = 8 } ∷ []) ≡ record { size = 8; align = 8 }

sizesOf : SizesOf
sizesOf = record { bits = refl; lanes = refl; gaps = refl; packed = refl; none = refl; bytes = refl; behind_nothing = refl }
