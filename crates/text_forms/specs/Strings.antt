-- What the bytes of a string stand for.
use Rattle.std.specs.Prelude.{ℕ, zero, suc, ◌+◌, ◌*◌, ◌-◌, ◌&&◌, ◌==◌, nat_lt, List, [], ◌∷◌, if◌then◌else◌}
use Rattle.text_forms.specs.Lexical.{is_digit, is_hex}

-- the value of a hexadecimal digit
abbrev pub hex_value : ℕ → ℕ
hex_value c = if is_digit c then c - 48 else (if nat_lt c 97 then c - 55 else c - 87)

-- what stands behind a backslash: the byte that both stand for, and how many further bytes belong to it
abbrev pub escape : List ℕ → ℕ × ℕ
escape [] = (92, 0)
escape (b ∷ []) = if b == 92 then (92, 1) else (92, 0)
escape (b ∷ c ∷ cs) = if b == 92 then (92, 1) else (if is_hex b && is_hex c then (16 * hex_value b + hex_value c, 2) else (92, 0))

-- the byte that the front of a string stands for, and how many further bytes belong to it
abbrev pub byte_at : ℕ → List ℕ → ℕ × ℕ
byte_at c cs = if c == 92 then escape cs else (c, 0)

-- behind so many bytes that belong to an escape
abbrev pub unescaped_behind : ℕ → List ℕ → List ℕ
unescaped_behind n [] = []
unescaped_behind zero (c ∷ cs) = (byte_at c cs).0 ∷ unescaped_behind (byte_at c cs).1 cs
unescaped_behind (suc n) (c ∷ cs) = unescaped_behind n cs

-- the bytes that a string stands for: `\\` is a backslash, a backslash and two hexadecimal digits are that byte, and any other backslash
-- stands for itself
abbrev pub unescaped : List ℕ → List ℕ
unescaped s = unescaped_behind 0 s

-- all bytes but the last
abbrev pub without_last : List ℕ → List ℕ
without_last [] = []
without_last (c ∷ []) = []
without_last (c ∷ d ∷ cs) = c ∷ without_last (d ∷ cs)
