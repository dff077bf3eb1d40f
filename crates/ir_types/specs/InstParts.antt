-- The grammar of parts of instructions, where names of types are defined so.
use Rattle.std.specs.Prelude.{ℕ, Bool, true, false, is_some, List, [], ◌∷◌, codes, ◌==◌, Option, Some, None, if◌then◌else◌}
use Rattle.text_forms.specs.declared.TokenKind.TheVariants.{Number, Dots, Comma}
use Rattle.text_forms.specs.Form.{Form, one, pair, either, mapped, made, optional}
use Rattle.text_forms.specs.Reading.{◌>>=◌}
use Rattle.text_forms.specs.Gives.{mark}
use Rattle.text_forms.specs.Combined.{behind, after_mark, marked, commas}
use Rattle.ir_types.specs.declared.name.Name.{Name}
use Rattle.ir_types.specs.declared.inst.Ty.{Ty}
use Rattle.ir_types.specs.declared.inst.Ty.TheVariants.{Int, Ptr}
use Rattle.ir_types.specs.Written.{number_of, at_most_64_bits}
use Rattle.ir_types.specs.Sizes.{value_size}
use Rattle.ir_types.specs.Offsets.{Definitions}
use Rattle.ir_types.specs.Tree.{OperandTree}
use Rattle.ir_types.specs.TypeForms.{local_name, width, value_type}
use Rattle.ir_types.specs.FlagForms.{or_else}
use Rattle.ir_types.specs.ValueForms.{WrittenValue, value, operand_at}

-- a value and its type
abbrev pub TypedOperand : Type 0
TypedOperand = Ty × OperandTree

-- a value with its type
abbrev pub with_type : Definitions → Ty × WrittenValue → Option TypedOperand
with_type defs (t, v) = operand_at defs t v >>= λ a. Some (t, a)

-- T V
unfoldable pub typed_value : Definitions → Form TypedOperand
typed_value defs = made (with_type defs) (pair value_type value)

-- , T V
abbrev pub comma_typed : Definitions → Form TypedOperand
comma_typed defs = after_mark Comma (typed_value defs)

-- V, V
abbrev pub two_values : Form (WrittenValue × WrittenValue)
two_values = pair value (after_mark Comma value)

-- two values with the type of both
abbrev pub both_at : Definitions → Ty × (WrittenValue × WrittenValue) → Option (Ty × (OperandTree × OperandTree))
both_at ds (t, (v, w)) = operand_at ds t v >>= λ a. operand_at ds t w >>= λ b. Some (t, (a, b))

-- T V, V
unfoldable pub typed_pair : Definitions → Form (Ty × (OperandTree × OperandTree))
typed_pair defs = made (both_at defs) (pair value_type two_values)

-- ptr V
unfoldable pub pointer_value : Definitions → Form OperandTree
pointer_value defs = made (operand_at defs Ptr) (behind (codes "ptr") value)

-- a value with the width of its type
abbrev pub with_width : Definitions → ℕ × WrittenValue → Option (ℕ × OperandTree)
with_width defs (w, v) = operand_at defs (Int w) v >>= λ a. Some (w, a)

-- iN V
unfoldable pub index_value : Definitions → Form (ℕ × OperandTree)
index_value defs = made (with_width defs) (pair width value)

-- to T
abbrev pub to_type : Form Ty
to_type = behind (codes "to") value_type

-- label %name
unfoldable pub target : Form Name
target = behind (codes "label") local_name

-- the alignment that is written so: digits without a sign, for a number of at most 64 bits
abbrev pub alignment_of : List ℕ → Option ℕ
alignment_of [] = None
alignment_of (c ∷ ds) = if c == 45 then None else Some (at_most_64_bits (number_of (c ∷ ds)))

-- [, align n], where the word stands behind the comma
unfoldable pub alignment : Form (Option ℕ)
alignment = optional (marked Comma (behind (codes "align") (made alignment_of (one Number))))

-- the alignment of an access at a type: the natural one where none is written
abbrev pub align_or : Ty → Option ℕ → ℕ
align_or t None = value_size t
align_or t (Some n) = n

-- elements, and whether dots stand behind them
abbrev pub dotted : {A : Type 0} → List A × Option (Unit {0}) → List A × Bool
dotted (xs, dots) = (xs, is_some dots)

-- `...`, or elements parted by commas [, ...], or nothing
abbrev pub dotted_list : {A : Type 0} → Form A → Form (List A × Bool)
dotted_list f = mapped (or_else ([], false)) (optional (either (mapped (λ _. ([], true)) (mark Dots)) (mapped dotted (pair (commas f) (optional (marked Comma (mark Dots)))))))
