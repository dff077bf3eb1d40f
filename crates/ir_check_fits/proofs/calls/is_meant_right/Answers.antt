use Rattle.std.proofs.Common.{List, map, ap, ◌∙◌}
use Rattle.ir_types.specs.declared.call.Actual.{Actual}
use Rattle.ir_types.specs.Denotes.{operand_in}
use Rattle.ir_intrinsics.specs.Intrinsics.{meant_by}
use Rattle.ir_rules.specs.Mismatch.{is_meant_right}
use Rattle.ir_check_fits.proofs.calls.is_meant_right.Goals as goal

pub returns : goal.returns
returns c = λ t names.
    let callee = c.args.callee.now in
    let args = map (operand_in t names) c.args.args.now in
    c.access_fits.ensures t names (meant_by callee.name) c.access_of.ensures
    ∙ ap (λ (xs : List Actual). is_meant_right (meant_by callee.name) c.args.ty (map (λ (a : Actual). a.ty) xs) args) c.as_slice.ensures
