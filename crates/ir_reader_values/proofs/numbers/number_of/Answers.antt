use Rattle.std.proofs.Common.{◌≡◌, ◌+◌, ◌*◌, ◌-◌, ◌%◌, ◌^◌, ℕ, List, ◌∷◌, drop, get_or, sym, ap, ◌∙◌, arith, add-one}
use Rattle.std.proofs.Math.Seq.{drop-cons}
use Rattle.ir_types.specs.Written.{number_from}
use Rattle.ir_reader_values.proofs.Modulo.{same_from}
use Rattle.ir_reader_values.proofs.numbers.number_of.Goals as goal

pub loop-digit-preserved : goal.loop-digit-preserved
loop-digit-preserved c =
    let n = c.loop-digit.number in
    let i = c.loop-digit.digit-index in
    let ds = c.args.digits.now in
    let d = get_or ds i 0 in
    let step : (n * 10 % 2 ^ 64 + c.from.result) % 2 ^ 64 % 2 ^ 64 ≡ (n * 10 + (d - 48)) % 2 ^ 64 = omega arith in
    let rest : drop i ds ≡ d ∷ drop (i + 1) ds = rw add-one (drop-cons ds i 0 c.loop-digit-test.true) in
    same_from ((n * 10 % 2 ^ 64 + c.from.result) % 2 ^ 64) (n * 10 + (d - 48)) (drop (i + 1) ds) step
    ∙ sym (ap (λ (l : List ℕ). number_from n l % 2 ^ 64) rest)
    ∙ c.loop-digit.invariant
