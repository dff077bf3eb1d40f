use Rattle.std.proofs.Common.{[], ◌∷◌, None, Some, sym, subst}
use Rattle.ir_types.specs.declared.inst.Operand.{Operand}
use Rattle.ir_check_paths.specs.Finding.{IsLocalIn, FindsOfArgs}
use Rattle.ir_check_paths.proofs.FindsLemmas.{one_other, one_there, one_lacking, other_of}
use Rattle.ir_check_paths.proofs.uses.of_arg.Goals as goal

pub returns-then-branch-clause-finds : goal.returns-then-branch-clause-finds
returns-then-branch-clause-finds c =
    subst (λ (a : Operand). FindsOfArgs c.args.function.now c.args.number c.args.before (a ∷ []) None) (sym c.in-Local.is) (one_there _ _ _ _ (rw c.if-branch.true at c.in_ok-is_available-in-Local.ensures.answer))

pub returns-else-branch-clause-finds : goal.returns-else-branch-clause-finds
returns-else-branch-clause-finds c =
    subst (λ (a : Operand). FindsOfArgs c.args.function.now c.args.number c.args.before (a ∷ []) (Some c.in-Local.name)) (sym c.in-Local.is) (one_lacking _ _ _ _ (subst (IsLocalIn c.args.function.now.names) c.in-Local.is c.requires.placed) (rw c.if-branch.false at c.in_ok-is_available-in-Local.ensures.answer))

pub returns-in_default : goal.returns-in_default
returns-in_default c = record { passed = c.requires.passed; finds = one_other c.args.function.now c.args.number c.args.before c.args.arg.now (other_of c.args.arg.now c.in_default.not-Local) }
