-- Operands are read part after part.
use Rattle.std.specs.Prelude.{ℕ, List, codes, map, Option, Some, None, if◌then◌else◌}
use Rattle.std.specs.List.{list_all}
use Rattle.text_forms.specs.declared.TokenKind.TheVariants.{Word, Comma}
use Rattle.text_forms.specs.Form.{Lexeme, exactly, made}
use Rattle.text_forms.specs.Reading.{◌>>=◌, read}
use Rattle.text_forms.specs.Gives.{mark}
use Rattle.ir_types.specs.declared.inst.Ty.{Ty}
use Rattle.ir_types.specs.declared.inst.Ty.TheVariants.{Int, Ptr}
use Rattle.ir_types.specs.Offsets.{Definitions}
use Rattle.ir_types.specs.Tree.{OperandTree}
use Rattle.ir_types.specs.TypeForms.{width, value_type}
use Rattle.ir_types.specs.ValueForms.{WrittenLane, lane_at, is_int, operand_at, value}

-- lanes at the type of a vector of this width
abbrev pub lanes_of_width : ℕ → List (Ty × WrittenLane) → Option (List (Option ℕ))
lanes_of_width w xs = if list_all (λ x. is_int w x.0) xs then Some (map (λ x. lane_at w x.1) xs) else None

-- a value at a type, where names of types are defined so
abbrev pub value_read : Definitions → Ty → List Lexeme → Option (OperandTree × List Lexeme)
value_read defs t ts = read (made (operand_at defs t) value) ts

-- T V
abbrev pub typed_value_read : Definitions → List Lexeme → Option ((Ty × OperandTree) × List Lexeme)
typed_value_read defs ts = read value_type ts >>= λ t. value_read defs t.0 t.1 >>= λ a. Some ((t.0, a.0), a.1)

-- T V, V
abbrev pub typed_pair_read : Definitions → List Lexeme → Option ((Ty × (OperandTree × OperandTree)) × List Lexeme)
typed_pair_read defs ts =
    read value_type ts >>= λ t.
    value_read defs t.0 t.1 >>= λ a.
    read (mark Comma) a.1 >>= λ c.
    value_read defs t.0 c.1 >>= λ b.
    Some ((t.0, (a.0, b.0)), b.1)

-- ptr V
abbrev pub pointer_read : Definitions → List Lexeme → Option (OperandTree × List Lexeme)
pointer_read defs ts = read (exactly Word (codes "ptr")) ts >>= λ w. value_read defs Ptr w.1

-- iN V
abbrev pub index_read : Definitions → List Lexeme → Option ((ℕ × OperandTree) × List Lexeme)
index_read defs ts = read width ts >>= λ w. value_read defs (Int w.0) w.1 >>= λ a. Some ((w.0, a.0), a.1)
