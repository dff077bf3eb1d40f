-- What the bytes of names and numbers stand for.
use Rattle.std.specs.Prelude.{ℕ, ◌-◌, ◌%◌, ◌^◌, ◌==◌, nat_lt, nat_le, Bool, true, List, [], ◌∷◌, Option, Some, None, if◌then◌else◌}
use Rattle.ir_types.specs.declared.name.Name.{Name}
use Rattle.ir_types.specs.declared.name.Name.TheVariants.{Text, Number}
use Rattle.text_forms.specs.Lexical.{is_digit}
pub use Rattle.text_forms.specs.Numbers.{number_from, number_of}
pub use Rattle.text_forms.specs.Strings.{hex_value, escape, byte_at, unescaped_behind, unescaped, without_last}

-- ---- numbers

-- minus n, modulo 2^w
abbrev pub negated : ℕ → ℕ → ℕ
negated w n = (2 ^ w - n % 2 ^ w) % 2 ^ w

-- the number that a token of a number stands for, `-` and digits too, modulo 2^w
abbrev pub number_at : ℕ → List ℕ → ℕ
number_at w [] = 0
number_at w (c ∷ ds) = if c == 45 then negated w (number_of ds) else number_of (c ∷ ds) % 2 ^ w

-- whether a token of a number, `-` and digits too, stands for a number of w bits: one from -2^(w-1) to 2^w - 1
abbrev pub fits_width : ℕ → List ℕ → Bool
fits_width w [] = true
fits_width w (c ∷ ds) = if c == 45 then nat_le (number_of ds) (2 ^ (w - 1)) else nat_lt (number_of (c ∷ ds)) (2 ^ w)

-- a number, or 2^64 - 1 where that is less
abbrev pub at_most_64_bits : ℕ → ℕ
at_most_64_bits n = if nat_lt n (2 ^ 64) then n else 2 ^ 64 - 1

-- ---- names

-- a number as a name has 32 bits
abbrev pub numbered_name : ℕ → Option Name
numbered_name n = if nat_lt n (2 ^ 32) then Some (Number n) else None

-- the name that is written so: a string with its quotes, digits, or the name itself
abbrev pub name_of : List ℕ → Option Name
name_of [] = None
name_of (c ∷ cs) = if c == 34 then Some (Text (unescaped (without_last cs))) else (if is_digit c then numbered_name (number_of (c ∷ cs)) else Some (Text (c ∷ cs)))

-- the name behind a `%` or `@`
abbrev pub name_behind : List ℕ → Option Name
name_behind [] = None
name_behind (c ∷ cs) = name_of cs

-- the name before the colon of a label
abbrev pub name_before : List ℕ → Option Name
name_before cs = name_of (without_last cs)
