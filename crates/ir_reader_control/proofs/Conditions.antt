-- A branch with a condition is read behind the condition's type.
use Rattle.std.proofs.Common.{◌≡◌, List, [], ◌∷◌, Option, Some, None, refl, ◌∙◌}
use Rattle.std.specs.Prelude.{codes}
use Rattle.text_forms.specs.declared.TokenKind.TheVariants.{Word, Comma}
use Rattle.text_forms.specs.Form.{Lexeme, Form, pair, exactly}
use Rattle.text_forms.specs.Reading.{◌>>=◌, read}
use Rattle.text_forms.specs.Walk.{completed}
use Rattle.ir_types.specs.declared.name.Name.{Name}
use Rattle.ir_types.specs.declared.inst.Ty.TheVariants.{Int, Void}
use Rattle.ir_types.specs.Kinds.{Branch}
use Rattle.ir_types.specs.Offsets.{Definitions}
use Rattle.ir_types.specs.Tree.{OperandTree, InstTree}
use Rattle.text_forms.specs.Combined.{after_mark}
use Rattle.ir_types.specs.ValueForms.{operand_at, value}
use Rattle.ir_types.specs.InstParts.{target}
use Rattle.ir_types.specs.InstForms.{bare_inst, branch_tree, branch}
use Rattle.ir_reader_control.specs.Conditions.{conditional_read}
use Rattle.ir_reader_values.specs.Operands.{value_read}
use Rattle.ir_reader_values.proofs.Chains.{alike, chained}
use Rattle.ir_reader_values.proofs.Operands.{behind_apart}

abbrev two_targets : Form (Name × Name)
two_targets = pair (after_mark Comma target) (after_mark Comma target)

abbrev branch_of : OperandTree → Name × Name → Option InstTree
branch_of a x = Some (bare_inst Branch Void (a ∷ []) (x.0 ∷ x.1 ∷ []))

labels_behind : (a : OperandTree) (ts : List Lexeme) → completed (branch_of a) (read two_targets ts) ≡ (read (after_mark Comma target) ts >>= λ t. read (after_mark Comma target) t.1 >>= λ o. Some (bare_inst Branch Void (a ∷ []) (t.0 ∷ o.0 ∷ []), o.1))
labels_behind a ts = by (read (after_mark Comma target) ts)
  where
    each : (t : Name) (o : Option (Name × List Lexeme)) → completed (branch_of a) (o >>= λ y. Some ((t, y.0), y.1)) ≡ (o >>= λ o. Some (bare_inst Branch Void (a ∷ []) (t ∷ o.0 ∷ []), o.1))
    each t None = refl
    each t (Some y) = refl

    by : (o : Option (Name × List Lexeme)) → completed (branch_of a) (o >>= λ x. read (after_mark Comma target) x.1 >>= λ y. Some ((x.0, y.0), y.1)) ≡ (o >>= λ t. read (after_mark Comma target) t.1 >>= λ o. Some (bare_inst Branch Void (a ∷ []) (t.0 ∷ o.0 ∷ []), o.1))
    by None = refl
    by (Some x) = each x.0 (read (after_mark Comma target) x.1)

abbrev i1 : Lexeme
i1 = record { kind = Word; text = codes "i1" }

-- a branch whose first token is `i1` is read part after part
pub conditional_is : (defs : Definitions) (ts : List Lexeme) → read (branch defs) (i1 ∷ ts) ≡ conditional_read defs ts
unfolding branch target
conditional_is defs ts =
    behind_apart (branch_tree defs) (exactly Word (codes "i1")) (pair value two_targets) (i1 ∷ ts)
    ∙ chained (operand_at defs (Int 1)) branch_of value two_targets ts
    ∙ alike (completed (operand_at defs (Int 1)) (read value ts)) _ _ (λ a. labels_behind a.0 a.1)

-- a branch, of what its parts are read as
pub conditional_reads : (defs : Definitions) (a : OperandTree) (t o : Name) (ts at_then at_other rest : List Lexeme) → value_read defs (Int 1) ts ≡ Some (a, at_then) → read (after_mark Comma target) at_then ≡ Some (t, at_other)
    → read (after_mark Comma target) at_other ≡ Some (o, rest) → conditional_read defs ts ≡ Some (bare_inst Branch Void (a ∷ []) (t ∷ o ∷ []), rest)
conditional_reads defs a t o ts at_then at_other rest value then other = rw value (rw then (rw other refl))
