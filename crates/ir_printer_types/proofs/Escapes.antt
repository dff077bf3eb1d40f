-- What stands between quotes is read as the text that it was printed for.
use Rattle.std.proofs.Common.{◌≡◌, ◌<◌, ◌+◌, ◌*◌, ◌/◌, ◌%◌, ℕ, Bool, true, false, not, ◌&&◌, eqb, List, [], ◌∷◌, ◌++◌, refl, ap, arith, inl, inr}
use Rattle.std.proofs.lemmas.Bool.{and_parts, eqb-true}
use Rattle.std.proofs.lemmas.Bool.Decides.{nat_tests}
use Rattle.text_forms.specs.Lexical.{is_hex}
use Rattle.text_lex.specs.Names.{is_quotable}
use Rattle.text_lex.proofs.Ranges.{below_all}
use Rattle.text_forms.proofs.Begins.{test, or_false}
use Rattle.ir_types.specs.Written.{hex_value, escape, unescaped_behind, unescaped, without_last}
use Rattle.ir_printer_types.specs.Texts.{hex_digit, is_escaped, escaped_byte, escaped}

-- a digit is one of a string's bytes that stands for its number
is_faithful : ℕ → Bool
is_faithful d = is_hex (hex_digit d) && (eqb (hex_value (hex_digit d)) d && (not (eqb (hex_digit d) 92) && not (eqb (hex_digit d) 34)))

record Faithful (d : ℕ) : Type 0 where
  hex : is_hex (hex_digit d) ≡ true
  value : hex_value (hex_digit d) ≡ d
  no_backslash : eqb (hex_digit d) 92 ≡ false
  no_quote : not (eqb (hex_digit d) 34) ≡ true

faithful : (d : ℕ) → d < 16 → Faithful d
unfolding is_faithful
faithful d lt =
    let h = below_all 16 is_faithful d refl lt in
    let a = and_parts _ _ h in
    let b = and_parts _ _ a.1 in
    let c = and_parts _ _ b.1 in
    record { hex = a.0; value = eqb-true _ _ b.0; no_backslash = not_is _ c.0; no_quote = c.1 }
  where
    not_is : (b : Bool) → not b ≡ true → b ≡ false
    not_is true e = absurd cc
    not_is false e = refl

-- what is escaped is a byte
small : (c : ℕ) → is_escaped c ≡ true → c < 256
small c h = grind (arith, nat_tests)

escape_read : (h l : ℕ) (rest : List ℕ) → is_hex h ≡ true → is_hex l ≡ true → eqb h 92 ≡ false → escape (h ∷ l ∷ rest) ≡ (16 * hex_value h + hex_value l, 2)
escape_read h l rest e f n = rw (n, e, f) refl

unescaped_byte : (c : ℕ) (rest more : List ℕ) → unescaped_behind 0 rest ≡ more → unescaped_behind 0 (escaped_byte c ++ rest) ≡ c ∷ more
unescaped_byte c rest more e = elim (test (is_escaped c)) [
  | inl y ↦
      let lt = small c y in
      let h = faithful (c / 16) (omega arith) in
      let l = faithful (c % 16) (omega arith) in
      let r = escape_read (hex_digit (c / 16)) (hex_digit (c % 16)) rest h.hex l.hex h.no_backslash in
      let v : 16 * (c / 16) + c % 16 ≡ c = omega arith in
      rw (y, r, h.value, l.value, v, e) refl
  | inr n ↦
      let a = or_false (eqb c 34) _ n in
      let b = or_false (eqb c 92) _ a.1 in
      rw (n, b.0, e) refl
]

-- what is escaped is got back
pub unescaped-escaped : (s : List ℕ) → unescaped (escaped s) ≡ s
unescaped-escaped [] = refl
unescaped-escaped (c ∷ cs) = unescaped_byte c (escaped cs) cs (unescaped-escaped cs)

quotable_byte : (c : ℕ) (rest : List ℕ) → is_quotable rest ≡ true → is_quotable (escaped_byte c ++ rest) ≡ true
quotable_byte c rest e = elim (test (is_escaped c)) [
  | inl y ↦
      let lt = small c y in
      let h = faithful (c / 16) (omega arith) in
      let l = faithful (c % 16) (omega arith) in
      rw (y, h.no_quote, l.no_quote, e) refl
  | inr n ↦
      let a = or_false (eqb c 34) _ n in
      rw (n, a.0, e) refl
]

-- what is escaped can stand between quotes
pub is_quotable-escaped : (s : List ℕ) → is_quotable (escaped s) ≡ true
is_quotable-escaped [] = refl
is_quotable-escaped (c ∷ cs) = quotable_byte c (escaped cs) (is_quotable-escaped cs)

-- without the last byte stands what was before it
pub without_last-append : (s : List ℕ) (c : ℕ) → without_last (s ++ c ∷ []) ≡ s
without_last-append [] c = refl
without_last-append (d ∷ []) c = refl
without_last-append (d ∷ e ∷ s) c = ap (λ (w : List ℕ). d ∷ w) (without_last-append (e ∷ s) c)
