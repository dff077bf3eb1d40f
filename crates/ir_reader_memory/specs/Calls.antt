-- A call is read part after part.
use Rattle.std.specs.Prelude.{Bool, is_some, List, [], map, Option, Some}
use Rattle.text_forms.specs.declared.TokenKind.TheVariants.{Comma, Dots, LeftParen, RightParen}
use Rattle.text_forms.specs.Form.{Lexeme, Form, mapped, optional}
use Rattle.text_forms.specs.Reading.{◌>>=◌, read}
use Rattle.text_forms.specs.Walk.{completed}
use Rattle.text_forms.specs.Gives.{mark}
use Rattle.ir_types.specs.declared.inst.Operand.{Operand}
use Rattle.ir_types.specs.declared.call.Actual.{Actual}
use Rattle.ir_types.specs.declared.call.TailKind.{TailKind}
use Rattle.ir_types.specs.Kinds.{Call}
use Rattle.ir_types.specs.Offsets.{Definitions}
use Rattle.ir_types.specs.Tree.{OperandTree, InstTree}
use Rattle.text_forms.specs.Combined.{marked, commas, list}
use Rattle.ir_types.specs.TypeForms.{value_type, return_type, global_name}
use Rattle.ir_types.specs.Words.{kept}
use Rattle.ir_types.specs.InstForms.{bare_inst, signature, argument}
use Rattle.ir_reader_values.specs.declared.scope.Scope.{Scope}
use Rattle.ir_reader_values.specs.Seen.{operand_seen}
use Rattle.ir_reader_values.specs.Operands.{value_read}
use Rattle.ir_reader_values.specs.Between.{between_read}
use Rattle.ir_reader_values.specs.Split.{split_each}
use Rattle.ir_reader_values.specs.Split.{as_two}

-- whether a comma and dots stand there
abbrev pub comma_dots : Form Bool
comma_dots = mapped is_some (optional (marked Comma (mark Dots)))

-- an argument, and its operand
abbrev pub actual_in : Scope → Actual × Operand → Actual × OperandTree
actual_in s x = (x.0, operand_seen s x.1)

-- arguments, and their operands
abbrev pub actuals_in : Scope → List Actual × List Operand → List Actual × List OperandTree
actuals_in s x = (x.0, map (operand_seen s) x.1)

-- T K V
abbrev pub argument_read : Definitions → List Lexeme → Option ((Actual × OperandTree) × List Lexeme)
argument_read defs ts =
    read value_type ts >>= λ t.
    read kept t.1 >>= λ k.
    value_read defs t.0 k.1 >>= λ a.
    Some ((record { ty = t.0; kept = k.0 }, a.0), a.1)

-- T K V, ..
abbrev pub some_arguments_read : Definitions → List Lexeme → Option ((List Actual × List OperandTree) × List Lexeme)
some_arguments_read defs ts = completed (split_each as_two) (read (commas (argument defs)) ts)

-- ( T K V, .. )
abbrev pub arguments_read : Definitions → List Lexeme → Option ((List Actual × List OperandTree) × List Lexeme)
arguments_read defs ts = between_read LeftParen RightParen (split_each as_two) (read (list (argument defs))) ts

-- K R [( T, .. [, ...] )] @name ( T K V, .. ) K
abbrev pub call_read : Definitions → TailKind → List Lexeme → Option (InstTree × List Lexeme)
call_read defs tail ts =
    read kept ts >>= λ b.
    read return_type b.1 >>= λ t.
    read (optional signature) t.1 >>= λ s.
    read global_name s.1 >>= λ n.
    arguments_read defs n.1 >>= λ p.
    read kept p.1 >>= λ a.
    Some (bare_inst (Call (record { tail = tail; before = b.0; signature = s.0; name = n.0; actuals = p.0.0; after = a.0 })) t.0 p.0.1 [], a.1)
