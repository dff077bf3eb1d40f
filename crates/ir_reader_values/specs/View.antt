-- What the code keeps of what it has read, as values of the grammar.
use Rattle.std.specs.Prelude.{◌≡◌, ◌≤◌, ℕ, List, [], ◌∷◌, map, Option, Some, None, true, false, MatchOption, All}
use Rattle.text_forms.specs.declared.cursor.Cursor.{Cursor}
use Rattle.text_forms.specs.Reading.{read, opens}
use Rattle.text_forms.specs.Gives.{left}
use Rattle.ir_types.specs.declared.name.Name.{Name}
use Rattle.ir_types.specs.declared.inst.Ty.{Ty}
use Rattle.ir_types.specs.declared.inst.Operand.{Operand}
use Rattle.ir_types.specs.TypeNodes.{names_used}
use Rattle.ir_types.specs.Tree.{OperandTree, lanes, global, out_of_range}
use Rattle.ir_types.specs.ValueForms.{WrittenLane, lane_digits, lane_true, lane_false, lane_poison, WrittenValue, named, digits, yes, no, null_word, poison_word, zeros, splat, lane_list, symbol, stepped, constant_word}
use Rattle.ir_reader_types.specs.Uses.{Uses}
use Rattle.ir_reader_values.specs.declared.constant.WrittenIndex.{WrittenIndex}
use Rattle.ir_reader_values.specs.declared.lanes.Lane.{Lane}
use Rattle.ir_reader_values.specs.declared.lanes.Lane.TheVariants as lane
use Rattle.ir_reader_values.specs.declared.scope.Scope.{Scope}
use Rattle.ir_reader_values.specs.declared.value.Written.{Written}
use Rattle.ir_reader_values.specs.declared.value.Written.TheVariants as written
use Rattle.ir_reader_values.specs.Seen.{nodes_seen, symbol_seen, name_seen, operand_seen, OperandsUse}

-- a constant lane as it is written
abbrev pub lane_in : Lane → WrittenLane
lane_in (lane.Digits s) = lane_digits s.now
lane_in lane.Yes = lane_true
lane_in lane.No = lane_false
lane_in lane.Poison = lane_poison

-- a lane with its type
abbrev pub typed_lane_in : Ty × Lane → Ty × WrittenLane
typed_lane_in x = (x.0, lane_in x.1)

-- lanes with their types
abbrev pub lanes_in : List (Ty × Lane) → List (Ty × WrittenLane)
lanes_in xs = map typed_lane_in xs

-- an index as it is written
abbrev pub index_in : WrittenIndex → ℕ × List ℕ
index_in i = (i.width, i.digits.now)

-- a value as it is written
abbrev pub written_in : Scope → Written → WrittenValue
written_in s (written.Named i) = named (name_seen s i)
written_in s (written.Digits d) = digits d.now
written_in s written.Yes = yes
written_in s written.No = no
written_in s written.Null = null_word
written_in s written.Poison = poison_word
written_in s written.Zeros = zeros
written_in s (written.Splat t l) = splat (t, lane_in l)
written_in s (written.Lanes xs) = lane_list (lanes_in xs)
written_in s (written.Symbol i) = symbol (symbol_seen s i)
written_in s (written.Stepped id i xs) = stepped (nodes_seen s id, (symbol_seen s i, map index_in xs))

-- the width of an index is from 1 to 64
abbrev pub HasWidth : WrittenIndex → Type 0
HasWidth i = (1 ≤ i.width) × (i.width ≤ 64)

-- the widths of indexes are
abbrev pub AreIndexed : Written → Type 0
AreIndexed (written.Stepped id i xs) = All HasWidth xs
AreIndexed w = Unit {0}

-- lanes as an operand, none where one is out of range
abbrev pub lanes_held : Option (List (Option ℕ)) → OperandTree
lanes_held (Some xs) = lanes xs
lanes_held None = out_of_range None

-- an operand behind its type or its width
abbrev pub typed_in : {T : Type 0} → Scope → T × Operand → T × OperandTree
typed_in s x = (x.0, operand_seen s x.1)

-- two operands behind their type
abbrev pub pair_in : Scope → Ty × (Operand × Operand) → Ty × (OperandTree × OperandTree)
pair_in s x = (x.0, (operand_seen s x.1.0, operand_seen s x.1.1))

-- three operands, each behind its type
abbrev pub three_in : Scope → (Ty × Operand) × ((Ty × Operand) × (Ty × Operand)) → (Ty × OperandTree) × ((Ty × OperandTree) × (Ty × OperandTree))
three_in s x = (typed_in s x.0, (typed_in s x.1.0, typed_in s x.1.1))

-- the names of types that a written value uses
abbrev pub types_written : WrittenValue → List Name
types_written (stepped s) = names_used s.0
types_written w = []

-- its symbol, as an operand
abbrev pub symbol_written : WrittenValue → List OperandTree
symbol_written (symbol n) = global n 0 ∷ []
symbol_written (stepped s) = global s.1.0 0 ∷ []
symbol_written w = []

-- the new tables have what a written value uses
abbrev pub WrittenUses : Scope → WrittenValue → Scope → Type 0
WrittenUses old w new = Uses old.tables (types_written w) (symbol_written w) new.tables

-- a word is read, in every scope the same value, or no such word stands there
abbrev pub IsWordRead : Option (Written × Cursor) → Cursor → Type 0
IsWordRead r tokens = MatchOption r (opens constant_word (left tokens) ≡ false) (λ x. (opens constant_word (left tokens) ≡ true) × (((scope : Scope) → read constant_word (left tokens) ≡ Some (written_in scope x.0, left x.1)) × AreIndexed x.0))

-- the new tables have what two operands behind their type use
abbrev pub PairAdds : Scope → Ty × (Operand × Operand) → Scope → Type 0
PairAdds old x new = OperandsUse old (operand_seen new x.1.0 ∷ operand_seen new x.1.1 ∷ []) new

-- they have what three operands do, each behind its type
abbrev pub ThreeAdd : Scope → (Ty × Operand) × ((Ty × Operand) × (Ty × Operand)) → Scope → Type 0
ThreeAdd old x new = OperandsUse old (operand_seen new x.0.1 ∷ operand_seen new x.1.0.1 ∷ operand_seen new x.1.1.1 ∷ []) new
