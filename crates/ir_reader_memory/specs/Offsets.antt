-- `getelementptr` is read part after part.
use Rattle.std.specs.Prelude.{ℕ, List, [], ◌∷◌, map, Option, Some}
use Rattle.text_forms.specs.declared.TokenKind.TheVariants.{Comma}
use Rattle.text_forms.specs.Form.{Lexeme, Form}
use Rattle.text_forms.specs.Reading.{◌>>=◌, read}
use Rattle.text_forms.specs.Walk.{completed}
use Rattle.ir_types.specs.declared.inst.Operand.{Operand}
use Rattle.ir_types.specs.declared.inst.Ty.TheVariants.{Ptr}
use Rattle.ir_types.specs.Kinds.{Offset}
use Rattle.ir_types.specs.Offsets.{Definitions}
use Rattle.ir_types.specs.Tree.{OperandTree, InstTree}
use Rattle.text_forms.specs.Combined.{after_mark, marked, some}
use Rattle.ir_types.specs.TypeForms.{inst_memory}
use Rattle.ir_types.specs.FlagForms.{three_flags}
use Rattle.ir_types.specs.InstParts.{pointer_value, index_value}
use Rattle.ir_types.specs.InstForms.{bare_inst}
use Rattle.ir_reader_values.specs.declared.scope.Scope.{Scope}
use Rattle.ir_reader_values.specs.Seen.{operand_seen}
use Rattle.ir_reader_values.specs.Split.{as_two, split_each, behind_both}

-- , iN V, where the index stands behind the comma
abbrev pub next_index : Definitions → Form (ℕ × OperandTree)
next_index defs = marked Comma (index_value defs)

-- the widths of the indexes, and the operands: the pointer and the indexes
abbrev pub steps_in : Scope → List ℕ × List Operand → List ℕ × List OperandTree
steps_in s x = (x.0, map (operand_seen s) x.1)

-- , iN V, .. behind operands
abbrev pub indexes_read : Definitions → List OperandTree → List Lexeme → Option ((List ℕ × List OperandTree) × List Lexeme)
indexes_read defs before ts = behind_both [] before (completed (split_each as_two) (read (some (next_index defs)) ts))

-- , ptr V, iN V, ..
abbrev pub steps_read : Definitions → List Lexeme → Option ((List ℕ × List OperandTree) × List Lexeme)
steps_read defs ts = read (after_mark Comma (pointer_value defs)) ts >>= λ p. indexes_read defs (p.0 ∷ []) p.1

-- [inbounds] [nuw] [nusw] M, ptr V, iN V, ..
abbrev pub getelementptr_read : Definitions → List Lexeme → Option (InstTree × List Lexeme)
getelementptr_read defs ts =
    read three_flags ts >>= λ f.
    read inst_memory f.1 >>= λ m.
    steps_read defs m.1 >>= λ s.
    Some (bare_inst (Offset m.0 s.0.0 f.0.0 f.0.1.0 f.0.1.1) Ptr s.0.1 [], s.1)
