use Rattle.std.proofs.Common.{◌∙◌}
use Rattle.ir_check_fits.proofs.Named.{place_given}
use Rattle.ir_check_fits.proofs.around.Around.new.Goals as goal

pub invariant_of-result : goal.invariant_of-result
invariant_of-result c = λ i p lt.
    c.in_ok-roles.ensures.roles i p lt
    ∙ place_given (record { whole = c.args.types.now; part = c.args.function.now }) c.in_ok-roles.ensures.table c.requires i p lt
