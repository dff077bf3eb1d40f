use Rattle.std.proofs.Common.{◌≡◌, ◌∷◌, map, ◌∙◌, rules}
use Rattle.ir_types.specs.declared.call.Actual.{Actual}
use Rattle.ir_types.specs.Denotes.{operand_in}
use Rattle.ir_check_fits.proofs.Accesses.{store_behind}
use Rattle.ir_check_fits.proofs.calls.store_fits.Goals as goal

pub returns : goal.returns
returns c = λ t names ty.
    let actuals : c.args.actuals.now ≡ c.in-Some.stored.now ∷ c.in-Some.actuals_behind.now = search rules in
    let args : c.args.args.now ≡ c.in-Some-split_first.field-0-0.now ∷ c.in-Some-split_first.behind.now = search rules in
    rw (actuals, args)
    (c.load_fits.ensures t names
    ∙ store_behind ty c.in-Some.stored.now.ty (map (λ (a : Actual). a.ty) c.in-Some.actuals_behind.now) (operand_in t names c.in-Some-split_first.field-0-0.now) (map (operand_in t names) c.in-Some-split_first.behind.now))
