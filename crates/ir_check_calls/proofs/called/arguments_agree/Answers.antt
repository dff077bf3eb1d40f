use Rattle.std.proofs.Common.{take, length, sym, ap, ◌∙◌, if◌then◌else◌}
use Rattle.ir_rules.specs.Callees.{same_types}
use Rattle.ir_check_calls.specs.Heads.{types_of, types_of_actuals}
use Rattle.ir_check_calls.proofs.called.arguments_agree.Goals as goal

pub returns-then-function : goal.returns-then-function
returns-then-function c =
    let f = c.args.function.now in
    let actuals = c.args.actuals.now in
    c.same_types.ensures
    ∙ ap (λ xs. same_types (types_of_actuals xs) (types_of c.as_slice-params.result.now)) c.at_most.ensures
    ∙ ap (λ ps. same_types (types_of_actuals (take (length ps) actuals)) (types_of ps)) c.as_slice-params.ensures
    ∙ ap (λ b. same_types (types_of_actuals (if b then take (length f.params) actuals else actuals)) (types_of f.params)) (sym c.if-function.true)

pub returns-else-function : goal.returns-else-function
returns-else-function c =
    let f = c.args.function.now in
    let actuals = c.args.actuals.now in
    c.same_types-else-function.ensures
    ∙ ap (λ ps. same_types (types_of_actuals actuals) (types_of ps)) c.as_slice-params.ensures
    ∙ ap (λ b. same_types (types_of_actuals (if b then take (length f.params) actuals else actuals)) (types_of f.params)) (sym c.if-function.false)
