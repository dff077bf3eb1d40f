-- The tokens of the code as tokens of a grammar.
use Rattle.std.specs.Prelude.{◌≡◌, ◌-◌, ◌^◌, ℕ, List, [], ◌∷◌, ◌++◌, length, map, min, take, drop}
use Rattle.text_forms.specs.declared.Token.{Token}
use Rattle.text_forms.specs.Form.{Lexeme}

-- a token of a text: its kind, and the bytes from its start to its end
abbrev pub lexeme_in : List ℕ → Token → Lexeme
lexeme_in text t = record { kind = t.kind; text = take (t.end - t.start) (drop t.start text) }

-- all of them
abbrev pub lexemes : List ℕ → List Token → List Lexeme
lexemes text ts = map (lexeme_in text) ts

-- where the next token starts, or the text's end as far as 32 bits can say it
abbrev pub next_place : List ℕ → List Token → ℕ
next_place text [] = min (length text) (2 ^ 32 - 1)
next_place text (t ∷ ts) = t.start

-- a list of which another is a front
pub record Extends {A : Type 0} (front whole : List A) : Type 0 where
  pub more : List A
  pub parts : whole ≡ front ++ more
