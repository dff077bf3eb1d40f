use Rattle.std.proofs.Common.{◌∷◌, ℕ, List, map, replicate, sym, ap, ◌∙◌}
use Rattle.std.proofs.lemmas.List.{length-map}
use Rattle.ir_types.specs.declared.call.Actual.{Actual}
use Rattle.ir_types.specs.declared.inst.InstKind.{InstKind}
use Rattle.ir_types.specs.declared.inst.Ty.TheVariants.{Int, Ptr}
use Rattle.ir_rules.specs.Operands.{fit}
use Rattle.ir_rules.specs.Mismatch.{operands_fit}
use Rattle.ir_check_fits.specs.Sites.{around_at, locals_at, operand_at, kind_at}
use Rattle.ir_check_fits.proofs.fitting.operands_fit.Goals as goal

pub returns-in-Phi : goal.returns-in-Phi
returns-in-Phi c =
    let s = c.args.x.now in
    let args = map (operand_at s) c.args.args.now in
    c.fit_all.ensures
    ∙ ap (λ (n : ℕ). fit (locals_at s) (replicate n c.args.ty) args) (sym (length-map c.args.args.now (operand_at s)))
    ∙ ap (λ (k : InstKind). operands_fit (around_at s) (kind_at s k) c.args.ty args) (sym c.in-Phi.is)

pub returns-in-Offset : goal.returns-in-Offset
returns-in-Offset c =
    let s = c.args.x.now in
    let args = map (operand_at s) c.args.args.now in
    c.offset_fits.ensures
    ∙ ap (λ (ws : List ℕ). fit (locals_at s) (Ptr ∷ map Int ws) args) c.as_slice.ensures
    ∙ ap (λ (k : InstKind). operands_fit (around_at s) (kind_at s k) c.args.ty args) (sym c.in-Offset.is)

pub returns-in-Call : goal.returns-in-Call
returns-in-Call c =
    let s = c.args.x.now in
    let args = map (operand_at s) c.args.args.now in
    c.fit-in-Call.ensures
    ∙ ap (λ (xs : List Actual). fit (locals_at s) (map (λ (a : Actual). a.ty) xs) args) c.as_slice-in-Call.ensures
    ∙ ap (λ (k : InstKind). operands_fit (around_at s) (kind_at s k) c.args.ty args) (sym c.in-Call.is)
