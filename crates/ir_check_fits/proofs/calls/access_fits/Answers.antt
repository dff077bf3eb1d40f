use Rattle.std.proofs.Common.{map, Some, sym, ap, ◌∙◌}
use Rattle.ir_types.specs.declared.call.Actual.{Actual}
use Rattle.ir_types.specs.Denotes.{operand_in}
use Rattle.ir_check_fits.specs.declared.masked.Masked.{Masked}
use Rattle.ir_check_fits.proofs.Accesses.{load_right, store_right}
use Rattle.ir_check_fits.proofs.calls.access_fits.Goals as goal

pub returns-in-Load : goal.returns-in-Load
returns-in-Load c = λ t names meant e.
    let types = map (λ (a : Actual). a.ty) c.args.actuals.now in
    let args = map (operand_in t names) c.args.args.now in
    c.load_fits.ensures t names ∙ load_right meant c.args.ty types args (sym e ∙ c.in-Some.is ∙ ap (λ (m : Masked). Some m) c.in-Load.is)

pub returns-in-Store : goal.returns-in-Store
returns-in-Store c = λ t names meant e.
    let types = map (λ (a : Actual). a.ty) c.args.actuals.now in
    let args = map (operand_in t names) c.args.args.now in
    c.store_fits.ensures t names c.args.ty ∙ store_right meant c.args.ty types args (sym e ∙ c.in-Some.is ∙ ap (λ (m : Masked). Some m) c.in-Store.is)
