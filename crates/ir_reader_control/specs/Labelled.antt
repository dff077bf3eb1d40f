-- The entries of a phi and the cases of a switch, whose labels are a list of their own.
use Rattle.std.specs.Prelude.{ℕ, ◌==◌, Bool, false, not, ◌||◌, List, [], ◌∷◌, ◌++◌, map, Option, Some, None, if◌then◌else◌}
use Rattle.std.specs.List.{list_any}
use Rattle.text_forms.specs.declared.TokenKind.TheVariants.{Comma, LeftBracket, RightBracket}
use Rattle.text_forms.specs.Form.{Lexeme, Form, pair, many}
use Rattle.text_forms.specs.Reading.{◌>>=◌, read}
use Rattle.text_forms.specs.Walk.{completed}
use Rattle.text_forms.specs.Gives.{mark}
use Rattle.ir_types.specs.declared.name.Name.{Name}
use Rattle.ir_types.specs.declared.name.ValueId.{ValueId}
use Rattle.ir_types.specs.declared.inst.Ty.{Ty}
use Rattle.ir_types.specs.declared.inst.Ty.TheVariants.{Void}
use Rattle.ir_types.specs.Kinds as kinds
use Rattle.ir_types.specs.declared.inst.Operand.{Operand}
use Rattle.ir_types.specs.Offsets.{Definitions}
use Rattle.ir_types.specs.Tree.{OperandTree, InstTree}
use Rattle.ir_types.specs.Written.{number_at}
use Rattle.text_forms.specs.Combined.{after_mark, commas}
use Rattle.ir_types.specs.TypeForms.{value_type, local_name}
use Rattle.ir_types.specs.ValueForms.{WrittenValue, operand_at, index_fits}
use Rattle.ir_types.specs.InstParts.{index_value, target}
use Rattle.ir_types.specs.InstForms.{if_wide, bare_inst, entry_of_phi, case_of_switch}
use Rattle.ir_reader_values.specs.declared.scope.Scope.{Scope}
use Rattle.ir_reader_values.specs.Seen.{name_seen, operand_seen}
use Rattle.ir_reader_values.specs.View.{typed_in}
use Rattle.ir_reader_values.specs.Operands.{value_read}
use Rattle.ir_reader_values.specs.Split.{split_each, gathered}

-- labels, by their names
abbrev pub labels_in : Scope → List ValueId → List Name
labels_in s ls = map (name_seen s) ls

-- an entry of a phi: its operand at a type, and its label
abbrev pub entry_at : Definitions → Ty → WrittenValue × Name → Option (OperandTree × Name)
entry_at defs t e = operand_at defs t e.0 >>= λ a. Some (a, e.1)

-- an operand and a label
abbrev pub entry_in : Scope → Operand × ValueId → OperandTree × Name
entry_in s e = (operand_seen s e.0, name_seen s e.1)

-- operands and labels
abbrev pub entries_in : Scope → List Operand × List ValueId → List OperandTree × List Name
entries_in s es = (map (operand_seen s) es.0, labels_in s es.1)

-- [ V, %name ] at a type
abbrev pub entry_read : Definitions → Ty → List Lexeme → Option ((OperandTree × Name) × List Lexeme)
entry_read defs t ts =
    read (mark LeftBracket) ts >>= λ o.
    value_read defs t o.1 >>= λ a.
    read (after_mark Comma local_name) a.1 >>= λ n.
    read (mark RightBracket) n.1 >>= λ e.
    Some ((a.0, n.0), e.1)

-- T [ V, %name ], ..
abbrev pub phi_read : Definitions → List Lexeme → Option (InstTree × List Lexeme)
phi_read defs ts =
    read value_type ts >>= λ t.
    completed (split_each (entry_at defs t.0)) (read (commas entry_of_phi) t.1) >>= λ q.
    Some (bare_inst kinds.Phi t.0 q.0.0 q.0.1, q.1)

-- a case of a switch, where its width is this: its number, and whether that is out of range, and its label
abbrev pub case_at : ℕ → (ℕ × List ℕ) × Name → Option ((ℕ × Bool) × Name)
case_at w c = if c.0.0 == w then Some ((number_at w c.0.1, not (index_fits c.0)), c.1) else None

-- a number, whether it is out of range, and a label
abbrev pub case_in : Scope → (ℕ × Bool) × ValueId → (ℕ × Bool) × Name
case_in s c = (c.0, name_seen s c.1)

-- numbers, whether one of them is out of range, and labels
abbrev pub cases_in : Scope → (List ℕ × Bool) × List ValueId → (List ℕ × Bool) × List Name
cases_in s cs = (cs.0, labels_in s cs.1)

-- the same of cases, behind those of others
abbrev pub cases_behind : List ℕ → Bool → List Name → List (ℕ × Bool) × List Name → (List ℕ × Bool) × List Name
cases_behind numbers wide labels cs = ((numbers ++ map (λ n. n.0) cs.0, wide || list_any (λ n. n.1) cs.0), labels ++ cs.1)

-- the cases, behind the labels before them
abbrev pub cases_read : ℕ → List Name → List Lexeme → Option (((List ℕ × Bool) × List Name) × List Lexeme)
cases_read w labels ts = gathered (cases_behind [] false labels) (completed (split_each (case_at w)) (read (many case_of_switch) ts))

-- iN V, label %name
abbrev pub switch_head : Definitions → Form ((ℕ × OperandTree) × Name)
switch_head defs = pair (index_value defs) (after_mark Comma target)

-- the value with its width, and the label of the default
abbrev pub head_in : Scope → (ℕ × Operand) × ValueId → (ℕ × OperandTree) × Name
head_in s x = (typed_in s x.0, name_seen s x.1)

-- iN V, label %name [ iN number, label %name .. ]
abbrev pub switch_read : Definitions → List Lexeme → Option (InstTree × List Lexeme)
switch_read defs ts =
    read (switch_head defs) ts >>= λ h.
    read (mark LeftBracket) h.1 >>= λ o.
    cases_read h.0.0.0 (h.0.1 ∷ []) o.1 >>= λ c.
    read (mark RightBracket) c.1 >>= λ e.
    Some (if_wide c.0.0.1 (bare_inst (kinds.Switch h.0.0.0 c.0.0.0) Void (h.0.0.1 ∷ []) c.0.1), e.1)
