-- What is awaited behind the tokens that a form spells.
use Rattle.std.specs.Prelude.{ℕ, ◌-◌, Bool, true, false, ◌&&◌, ◌==◌, List, [], ◌∷◌, length, take, drop, Option, Some, None, if◌then◌else◌}
use Rattle.text_forms.specs.declared.TokenKind.{TokenKind}
use Rattle.text_forms.specs.Form.{kind_code, step, Lexeme, Form, exactly, one, one_such, ahead, enclosed, up_to, pair, either, mapped, made, optional, many, by_word}
use Rattle.text_forms.specs.Bind.{◌>>=◌}

-- the tokens but for the first and the last
abbrev pub inside : List Lexeme → List Lexeme
inside ts = take (length ts - 2) (drop 1 ts)

-- what is awaited behind the tokens
abbrev pub steps : List TokenKind → List Lexeme → Option (List TokenKind)
steps s [] = Some s
steps s (t ∷ ts) = step s t.kind >>= λ u. steps u ts

-- the same kinds are awaited
abbrev pub same_kinds : List TokenKind → List TokenKind → Bool
same_kinds [] [] = true
same_kinds [] (l ∷ ls) = false
same_kinds (k ∷ ks) [] = false
same_kinds (k ∷ ks) (l ∷ ls) = (kind_code k == kind_code l) && same_kinds ks ls

-- what is awaited, where both say the same
abbrev pub agreed : Option (List TokenKind) → Option (List TokenKind) → Option (List TokenKind)
agreed None o = None
agreed (Some s) None = None
agreed (Some s) (Some u) = if same_kinds s u then Some s else None

-- what is awaited, where each entry says the same
abbrev pub all_agreed : {K : Type 0} → List (List ℕ × K) → (K → Option (List TokenKind)) → Option (List TokenKind) → Option (List TokenKind)
all_agreed [] g o = o
all_agreed (e ∷ es) g o = agreed (g e.1) (all_agreed es g o)

-- what is awaited behind all tokens that the form spells, where it is shown to be the same for all
abbrev pub stack_after : {A : Type 0} → Form A → List TokenKind → Option (List TokenKind)
stack_after (exactly k w) s = step s k
stack_after (one k) s = step s k
stack_after (one_such k p) s = step s k
stack_after (enclosed o c) s = step s o >>= λ u. step u c
stack_after (up_to st) s = Some s
stack_after (ahead k f) s = step s k >>= λ u. stack_after f u
stack_after (pair f g) s = stack_after f s >>= λ u. stack_after g u
stack_after (either f g) s = agreed (stack_after f s) (stack_after g s)
stack_after (mapped h f) s = stack_after f s
stack_after (made h f) s = stack_after f s
stack_after (by_word table f) s = all_agreed table (λ k. stack_after (f k) s) (Some s)
stack_after (optional f) s = agreed (stack_after f s) (Some s)
stack_after (many f) s = agreed (stack_after f s) (Some s)
