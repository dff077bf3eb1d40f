use Rattle.std.proofs.Common.{arith}
use Rattle.std.proofs.lemmas.Grind.{common_steps}
use Rattle.ir_check_fits.proofs.numbers.are_constant.Goals as goal

pub returns-then-not-is_constant : goal.returns-then-not-is_constant
returns-then-not-is_constant c = λ t names.
    let before = c.more.invariant t names in
    let this = c.is_constant.ensures t names in
    grind (arith, common_steps)

pub more-preserved : goal.more-preserved
more-preserved c = λ t names.
    let before = c.more.invariant t names in
    let this = c.is_constant.ensures t names in
    grind (arith, common_steps)

pub returns : goal.returns
returns c = λ t names. let before = c.more.invariant t names in grind (arith, common_steps)
