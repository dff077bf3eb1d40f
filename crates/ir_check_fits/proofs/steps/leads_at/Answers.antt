use Rattle.std.proofs.Common.{arith}
use Rattle.std.proofs.lemmas.Grind.{common_steps}
use Rattle.ir_check_fits.proofs.steps.leads_at.Goals as goal

pub returns-in_default-split_first : goal.returns-in_default-split_first
returns-in_default-split_first c = λ t names. let before = c.more.invariant t names in grind (arith, common_steps)

pub returns-in_default-part_at : goal.returns-in_default-part_at
returns-in_default-part_at c = λ t names.
    let before = c.more.invariant t names in
    let step = c.in_default-part_at.ensures t names in
    grind (arith, common_steps)

pub more-preserved : goal.more-preserved
more-preserved c = λ t names.
    let before = c.more.invariant t names in
    let step = c.in-Some-part_at.ensures t names in
    grind (arith, common_steps)

pub returns : goal.returns
returns c = λ t names. let before = c.more.invariant t names in grind (arith, common_steps)
