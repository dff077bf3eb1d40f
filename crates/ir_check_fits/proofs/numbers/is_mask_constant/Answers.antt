use Rattle.std.proofs.Common.{arith}
use Rattle.std.proofs.lemmas.Grind.{common_steps}
use Rattle.ir_check_fits.proofs.numbers.is_mask_constant.Goals as goal

pub returns-in-Some-split_first : goal.returns-in-Some-split_first
returns-in-Some-split_first c = λ t names.
    let all = c.are_constant.ensures t names in
    grind (arith, common_steps)
