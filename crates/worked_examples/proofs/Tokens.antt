-- Texts in which one space stands between any two tokens, and their tokens.
use Rattle.std.proofs.Common.{ℕ, List, [], ◌∷◌, ◌++◌, Option, Some, None, if◌then◌else◌, eqb}
use Rattle.text_forms.specs.declared.TokenKind.{TokenKind}
use Rattle.text_forms.specs.Form.{Lexeme}
use Rattle.text_forms.specs.Lexical.{kind_of}

abbrev token : List ℕ → Option TokenKind → List Lexeme
token w None = []
token w (Some k) = record { kind = k; text = w } ∷ []

-- behind the front w of a token
abbrev tokens_behind : List ℕ → List ℕ → List Lexeme
tokens_behind w [] = token w (kind_of w)
tokens_behind w (c ∷ cs) = if eqb c 32 then token w (kind_of w) ++ tokens_behind [] cs else tokens_behind (w ++ c ∷ []) cs

-- the tokens of a text
abbrev pub tokens_of : List ℕ → List Lexeme
tokens_of s = tokens_behind [] s
