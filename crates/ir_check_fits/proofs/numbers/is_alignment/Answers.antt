use Rattle.std.proofs.Common.{◌≡◌, ◌^◌, rules}
use Rattle.ir_check_fits.proofs.Powers.{power_among}
use Rattle.ir_check_fits.proofs.numbers.is_alignment.Goals as goal

pub returns-then-number-shift : goal.returns-then-number-shift
returns-then-number-shift c =
    let same : c.args.number ≡ 2 ^ c.loop-shift.shift = search rules in
    power_among c.args.number c.loop-shift.shift 33 c.loop-shift-test.true same
