-- The bytes of names and of numbers.
use Rattle.std.specs.Prelude.{ℕ, ◌+◌, ◌-◌, ◌/◌, ◌%◌, ◌^◌, Bool, ◌&&◌, ◌||◌, ◌==◌, nat_lt, List, [], ◌∷◌, ◌++◌, decimal, if◌then◌else◌}
use Rattle.text_lex.specs.Names.{is_plain_name}
use Rattle.ir_types.specs.declared.name.Name.{Name}
use Rattle.ir_types.specs.declared.name.Name.TheVariants.{Text, Number}

-- the digit of a number below 16
abbrev pub hex_digit : ℕ → ℕ
hex_digit d = if nat_lt d 10 then d + 48 else d + 55

-- quotes, backslashes, and the bytes outside 32 to 126
abbrev pub is_escaped : ℕ → Bool
is_escaped c = (c == 34) || ((c == 92) || (nat_lt c 32 || (nat_lt 126 c && nat_lt c 256)))

-- a byte between quotes: itself, or a backslash and two digits
abbrev pub escaped_byte : ℕ → List ℕ
escaped_byte c = if is_escaped c then 92 ∷ hex_digit (c / 16) ∷ hex_digit (c % 16) ∷ [] else c ∷ []

abbrev pub escaped : List ℕ → List ℕ
escaped [] = []
escaped (c ∷ cs) = escaped_byte c ++ escaped cs

abbrev pub quoted : List ℕ → List ℕ
quoted s = 34 ∷ (escaped s ++ 34 ∷ [])

-- a number in digits, a plain name as it is, and any other text between quotes
unfoldable pub name_text : Name → List ℕ
name_text (Number n) = decimal n
name_text (Text s) = if is_plain_name s then s else quoted s

-- a number of w bits, as the signed one that it stands for
unfoldable pub signed_text : ℕ → ℕ → List ℕ
signed_text w v = if nat_lt v (2 ^ (w - 1)) then decimal v else 45 ∷ decimal (2 ^ w - v)
