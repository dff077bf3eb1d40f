-- Digits have no sign.
use Rattle.std.proofs.Common.{◌≡◌, ℕ, true, false, eqb, List, ◌∷◌, arith}
use Rattle.std.proofs.lemmas.Bool.{and_parts}
use Rattle.std.proofs.lemmas.Bool.Decides.{nat_tests}
use Rattle.text_forms.specs.Lexical.{is_digit}
use Rattle.text_lex.specs.Names.{is_digits}

-- digits begin with no sign
pub no_sign : (d : ℕ) (ds : List ℕ) → is_digits (d ∷ ds) ≡ true → eqb d 45 ≡ false
no_sign d ds h =
    let a = and_parts (is_digit d) _ h in
    let e = a.0 in grind (arith, nat_tests)
