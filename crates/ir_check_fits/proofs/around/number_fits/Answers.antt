use Rattle.std.proofs.Common.{◌≤◌, ◌^◌, arith}
use Rattle.std.proofs.Math.Pow.{pow_mono}
use Rattle.std.proofs.lemmas.Grind.{common_steps}
use Rattle.ir_check_fits.proofs.around.number_fits.Goals as goal

pub returns-then-width-ge64 : goal.returns-then-width-ge64
returns-then-width-ge64 c =
    let wide : 64 ≤ c.args.width = grind arith in
    let more : 2 ^ 64 ≤ 2 ^ c.args.width = pow_mono wide in
    grind (arith, common_steps)
