use Rattle.std.proofs.Common.{rules}
use Rattle.ir_sizes.specs.Prepared.{AreSteps}
use Rattle.ir_check_fits.proofs.Defined.{module_definitions}
use Rattle.ir_check_fits.proofs.Led.{module_prepared}
use Rattle.ir_check_fits.proofs.steps.TypeSteps.new.Goals as goal

pub invariant_of-result : goal.invariant_of-result
invariant_of-result c =
    let m = c.args.whole.now in
    let steps : AreSteps m.types m.type_names m.extents c.in_ok-steps.steps = search rules in
    record { prepared = module_prepared m c.requires c.in_ok-steps.steps steps; definitions = module_definitions m c.requires }
