-- Worked examples of what is left out.
use Rattle.std.proofs.Common.{◌≡◌, true, false, [], ◌∷◌, codes, refl}
use Rattle.text_forms.specs.declared.TokenKind.TheVariants.{Word, Metadata}
use Rattle.text_forms.specs.LeftOut.{left_out_words, widths, is_left_out, parts_of}

record LeftOuts : Type 0 where
  double : is_left_out Word (codes "double") ≡ true
  three : is_left_out Word (codes "i3") ≡ true
  padded : is_left_out Word (codes "i064") ≡ true
  thirty_two : is_left_out Word (codes "i32") ≡ false
  no_digit : is_left_out Word (codes "i32x") ≡ false
  letter : is_left_out Word (codes "i") ≡ false
  debug : is_left_out Metadata (codes "!DILocation") ≡ true
  other : is_left_out Metadata (codes "!D") ≡ false
  parts : parts_of (codes "e-p:64-") ≡ codes "e" ∷ codes "p:64" ∷ [] ∷ []

leftOuts : LeftOuts
unfolding left_out_words widths
leftOuts = record { double = refl; three = refl; padded = refl; thirty_two = refl; no_digit = refl; letter = refl; debug = refl; other = refl; parts = refl }
