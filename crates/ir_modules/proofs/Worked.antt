-- The example is a module, and what lacks a part is none.
use Rattle.std.proofs.Common.{◌≡◌, ◌<◌, ◌^◌, ℕ, zero, suc, Bool, true, List, [], ◌∷◌, length, map, Some, refl, sym, subst, inl, inr, arith}
use Rattle.std.specs.Prelude.{slice_index_or}
use Rattle.std.specs.List.{AllByRecursion}
use Rattle.text_forms.specs.Form.{Form, Spells}
use Rattle.text_forms.specs.Reading.{decides}
use Rattle.text_forms.specs.Nested.{joined}
use Rattle.text_forms.specs.Kept.{kept_piece, kept_run, metadata_node, attachment, attachments, kept_behind_comma}
use Rattle.text_forms.specs.LeftOut.{left_out_words}
use Rattle.text_forms.proofs.Exact.{read_spells}
use Rattle.ir_types.specs.declared.name.Name.{Name}
use Rattle.ir_types.specs.declared.name.Name.TheVariants.{Text, Number}
use Rattle.ir_types.specs.declared.inst.BinOp.TheVariants.{Add, SMax}
use Rattle.ir_types.specs.declared.module.Module.{Module}
use Rattle.ir_types.specs.declared.inst.Ty.TheVariants.{Int}
use Rattle.ir_types.specs.TypeForms.{type_words}
use Rattle.ir_types.specs.Words.{value_words, item_words, instruction_words, operation_words, terminator_words, excluded_words, kept}
use Rattle.ir_types.specs.InstForms.{inst_attachments}
use Rattle.ir_types.specs.Denotes.{inst_in, function_in, tables_of, tree_of, Denotes}
use Rattle.ir_types.specs.Tree.{KeptTexts, FunctionTree, function_item}
use Rattle.ir_shape.specs.Shape.{IsType, IsKept, IsReadInst, IsFunctionOf, HasShape}
use Rattle.ir_shape.specs.Modules.{IsModule}
use Rattle.ir_shape.proofs.Placing.{shaped_functions}
use Rattle.ir_modules.specs.Examples.{example, three_names, counted_by, gives_third, of_insts, named_twice, name_lacking, without_end, greatest_as_word}

-- ---- nothing is kept

no_run : Spells kept [] []
unfolding kept_piece kept_run metadata_node attachment attachments left_out_words type_words value_words item_words instruction_words operation_words terminator_words excluded_words kept
no_run = read_spells kept refl [] [] refl

run_kept : IsKept kept []
run_kept = record { spelled = no_run; tokens = tt }

no_run_and_attachments : Spells (joined kept attachments) [] []
unfolding kept_piece kept_run metadata_node attachment attachments left_out_words type_words value_words item_words instruction_words operation_words terminator_words excluded_words kept
no_run_and_attachments = read_spells (joined kept attachments) refl [] [] refl

no_attachments : Spells inst_attachments [] []
unfolding metadata_node attachment attachments inst_attachments
no_attachments = read_spells inst_attachments refl [] [] refl

attachments_kept : IsKept inst_attachments []
attachments_kept = record { spelled = no_attachments; tokens = tt }

-- ---- the example

apart : (i j : ℕ) (d : Name) → i < j → j < 3 → slice_index_or three_names i d ≡ slice_index_or three_names j d → ⊥
apart zero (suc zero) d lt le e = absurd (cc)
apart zero (suc (suc zero)) d lt le e = absurd (cc)
apart (suc zero) (suc (suc zero)) d lt le e = absurd (cc)
apart i j d lt le e = absurd (omega arith)

denotes : Denotes example (tree_of example)
denotes = record {
  says = refl;
  tables = (record { distinct = apart; small = omega arith }, tt);
  types = tt;
  extents = record { as_many = refl; each = λ i t x e f. absurd (cc) };
  type_names = refl;
  symbols = refl;
  bare = (tt, tt);
  functions = refl;
}

abbrev the_function : FunctionTree
the_function = function_in (tables_of example) (of_insts three_names (counted_by Add ∷ gives_third ∷ []))

is_i32 : IsType (Int 32)
is_i32 = inr (inr (inr (inl refl)))

counted_known : IsReadInst (inst_in (tables_of example) three_names (counted_by Add))
counted_known = record {
  body = record { args = ((is_i32, omega arith), ((is_i32, omega arith), tt)); labels = tt; count = refl; result = is_i32; parts = refl };
  result = omega arith;
  attachments = attachments_kept;
}

return_known : IsReadInst (inst_in (tables_of example) three_names gives_third)
return_known = record {
  body = record { args = ((is_i32, omega arith), tt); labels = tt; count = refl; result = refl; parts = tt };
  result = tt;
  attachments = attachments_kept;
}

function_known : IsFunctionOf IsReadInst the_function
function_known = record {
  name = tt;
  before = run_kept;
  ret = is_i32;
  params = (record { ty = is_i32; kept_texts = run_kept; name = omega arith }, tt);
  fixed = λ e. absurd (cc);
  after = record { spelled = no_run_and_attachments; tokens = tt };
  blocks = (record { name = omega arith; insts = (counted_known, (return_known, tt)); ending = (λ h. h, tt) }, tt);
}

shape : HasShape (tree_of example)
shape = record { items = function_item the_function ∷ []; known = (function_known, tt); says = refl }

pub one : IsModule example
one = record { denotes = denotes; shape = shape }

pub example_is : (m : Module) → m ≡ example → IsModule m
example_is m e = subst IsModule (sym e) one

-- ---- what lacks a part

pub tables_lack : IsModule named_twice → ⊥
tables_lack h = h.denotes.tables.0.distinct 2 3 (Number 0) (omega arith) (omega arith) refl

-- what is known of the one function
abbrev known_of : (m : Module) → IsModule m → AllByRecursion (IsFunctionOf IsReadInst) (tree_of m).functions
known_of m h = shaped_functions (tree_of m) h.shape

pub names_lack : IsModule name_lacking → ⊥
names_lack h = let lt : 2 ^ 32 < 2 ^ 32 = (known_of name_lacking h).0.blocks.0.insts.0.result in absurd (omega (arith, lt))

pub ending_lacks : IsModule without_end → ⊥
ending_lacks h = (known_of without_end h).0.blocks.0.ending

pub operators_lack : IsModule greatest_as_word → ⊥
operators_lack h = (known_of greatest_as_word h).0.blocks.0.insts.0.body.parts
