use Rattle.std.proofs.Common.{sym, ap, ◌∙◌, ◌%◌, ◌^◌, ◌-◌, ◌≡◌, ◌∷◌, refl, arith}
use Rattle.ir_types.specs.Written.{number_at, number_of, negated}
use Rattle.ir_reader_values.proofs.Modulo.{low_bits_of_minus}
use Rattle.ir_reader_values.proofs.numbers.number_at.Goals as goal

pub returns-then-first-eq45 : goal.returns-then-first-eq45
returns-then-first-eq45 c =
    let n = number_of c.in-Some.digits.now in
    let w = c.args.width in
    let text : c.args.text.now ≡ c.in-Some.first.now ∷ c.in-Some.digits.now = c.in-Some.ensures.cases.0 in
    let minus : c.wrapping_neg.result ≡ (2 ^ 64 - n % 2 ^ 64) % 2 ^ 64 = omega arith in
    let whole : number_at w c.args.text.now ≡ negated w n = rw (text, c.if-first-eq45.true) refl in
    c.low_bits.ensures ∙ ap (λ x. x % 2 ^ w) minus ∙ low_bits_of_minus n w c.requires ∙ sym whole
