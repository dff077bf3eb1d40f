-- What is printed of a name is that name.
use Rattle.std.proofs.Common.{◌≡◌, ◌<◌, ◌^◌, ℕ, true, false, eqb, List, [], ◌∷◌, Some, refl, ◌∙◌, append_assoc, arith, inl, inr}
use Rattle.std.specs.Prelude.{nat_lt, decimal}
use Rattle.std.proofs.lemmas.Bool.{and_parts, eqb-true}
use Rattle.std.proofs.lemmas.Bool.Decides.{nat_tests}
use Rattle.text_forms.specs.declared.TokenKind.TheVariants.{Local, Global, Label}
use Rattle.text_forms.specs.Lexical.{kind_of, is_digit, begins_name}
use Rattle.text_lex.specs.Names.{is_plain_name, is_digits}
use Rattle.text_forms.proofs.Begins.{test}
use Rattle.text_lex.proofs.Decimals.{decimal_digits, number_of-decimal}
use Rattle.text_lex.proofs.Printed.{local_named, local_quoted, local_numbered, global_named, global_quoted, global_numbered, label_named, label_quoted, label_numbered}
use Rattle.ir_types.specs.declared.name.Name.{Name}
use Rattle.ir_types.specs.declared.name.Name.TheVariants.{Text, Number}
use Rattle.ir_types.specs.Written.{number_of, numbered_name, name_of, name_behind, name_before}
use Rattle.ir_shape.specs.Shape.{IsName}
use Rattle.ir_printer_types.specs.Texts.{escaped, quoted, name_text}
use Rattle.ir_printer_types.specs.Pieces.{local_token, global_token, label_token}
use Rattle.ir_printer_types.proofs.Escapes.{unescaped-escaped, is_quotable-escaped, without_last-append}

-- ---- a name is read as it was printed

numbered_again : (n : ℕ) → n < 2 ^ 32 → numbered_name n ≡ Some (Number n)
numbered_again n lt = let t : nat_lt n (2 ^ 32) ≡ true = grind (arith, nat_tests) in rw t refl

digit_no_name : (c : ℕ) → is_digit c ≡ true → begins_name c ≡ false
digit_no_name c h = grind (arith, nat_tests)

digits_named : (ds : List ℕ) → is_digits ds ≡ true → name_of ds ≡ numbered_name (number_of ds)
digits_named [] h = absurd cc
digits_named (d ∷ ds) h =
    let a = and_parts (is_digit d) _ h in
    let q : eqb d 34 ≡ false = let e = a.0 in grind (arith, nat_tests) in
    rw (q, a.0) refl

name_no_quote : (c : ℕ) → begins_name c ≡ true → eqb c 34 ≡ false
name_no_quote c h = elim (test (eqb c 34)) [
  | inr n ↦ n
  | inl y ↦ absurd (let e = eqb-true c 34 y in let f : begins_name 34 ≡ true = rw e at h in cc)
]

name_no_digit : (c : ℕ) → begins_name c ≡ true → is_digit c ≡ false
name_no_digit c h = elim (test (is_digit c)) [
  | inr n ↦ n
  | inl y ↦ absurd (let n = digit_no_name c y in cc)
]

plain_named : (s : List ℕ) → is_plain_name s ≡ true → name_of s ≡ Some (Text s)
plain_named [] h = absurd cc
plain_named (c ∷ cs) h =
    let a = and_parts (begins_name c) _ h in
    rw (name_no_quote c a.0, name_no_digit c a.0) refl

quoted_named : (s : List ℕ) → name_of (quoted s) ≡ Some (Text s)
quoted_named s = rw (without_last-append (escaped s) 34, unescaped-escaped s) refl

pub name_again : (n : Name) → IsName n → name_of (name_text n) ≡ Some n
unfolding name_text
name_again (Number n) h = digits_named (decimal n) (decimal_digits n (omega arith)) ∙ rw (number_of-decimal n (omega arith)) (numbered_again n h)
name_again (Text s) h = elim (test (is_plain_name s)) [
  | inl y ↦ rw y (plain_named s y)
  | inr n ↦ rw n (quoted_named s)
]

-- behind the sign of a local's token its name is read again
pub local_again : (n : Name) → IsName n → name_behind (local_token n).text ≡ Some n
local_again n h = name_again n h

-- and of a symbol's
pub global_again : (n : Name) → IsName n → name_behind (global_token n).text ≡ Some n
global_again n h = name_again n h

-- and before that of a label's
pub label_again : (n : Name) → IsName n → name_before (label_token n).text ≡ Some n
label_again n h = rw (without_last-append (name_text n) 58) (name_again n h)

-- ---- its text is a token

-- the text of a local's token is one token
pub local_kind : (n : Name) → IsName n → kind_of (local_token n).text ≡ Some Local
unfolding name_text
local_kind (Number n) h = local_numbered (decimal n) (decimal_digits n (omega arith))
local_kind (Text s) h = elim (test (is_plain_name s)) [
  | inl y ↦ rw y (local_named s y)
  | inr n ↦ rw n (local_quoted (escaped s) (is_quotable-escaped s))
]

-- and that of a symbol's
pub global_kind : (n : Name) → IsName n → kind_of (global_token n).text ≡ Some Global
unfolding name_text
global_kind (Number n) h = global_numbered (decimal n) (decimal_digits n (omega arith))
global_kind (Text s) h = elim (test (is_plain_name s)) [
  | inl y ↦ rw y (global_named s y)
  | inr n ↦ rw n (global_quoted (escaped s) (is_quotable-escaped s))
]

-- and that of a label's
pub label_kind : (n : Name) → IsName n → kind_of (label_token n).text ≡ Some Label
unfolding name_text
label_kind (Number n) h = label_numbered (decimal n) (decimal_digits n (omega arith))
label_kind (Text s) h = elim (test (is_plain_name s)) [
  | inl y ↦ rw y (label_named s y)
  | inr n ↦ rw (n, append_assoc (escaped s) (34 ∷ []) (58 ∷ [])) (label_quoted (escaped s) (is_quotable-escaped s))
]
