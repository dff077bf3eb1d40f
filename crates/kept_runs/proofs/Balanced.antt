-- Keeping a balanced list token by token, with a stack of what is awaited.
use Rattle.std.proofs.Common.{◌≡◌, ℕ, true, false, ◌&&◌, List, [], ◌∷◌, ◌++◌, Option, Some, None, refl, sym, ap, ◌∙◌, append_assoc}
use Rattle.text_forms.specs.declared.TokenKind.{TokenKind}
use Rattle.text_forms.specs.Form.{Lexeme, Stops, is_empty, step, stops_at}
use Rattle.text_forms.specs.Machine.{behind}
use Rattle.text_forms.specs.Reading.{◌>>=◌, ends, read_inside, read_up_to}
use Rattle.kept_runs.specs.Passed.{passed}
use Rattle.kept_runs.specs.Texts.{with_texts}
use Rattle.kept_runs.proofs.Behind.{Reads}

-- a text before the others
abbrev before : List ℕ → Reads (List ℕ) → Reads (List ℕ)
before w r = r >>= λ y. Some (w ∷ y.0, y.1)

one_more : (front : List (List ℕ)) (w : List ℕ) (r : Reads (List ℕ)) → behind front (before w r) ≡ behind (front ++ w ∷ []) r
one_more front w None = refl
one_more front w (Some y) = ap (λ (zs : List _). Some (zs, y.1)) (sym (append_assoc front (w ∷ []) y.0))

-- the token that stands next
abbrev lexeme : TokenKind → List ℕ → Lexeme
lexeme k w = record { kind = k; text = w }

-- ---- up to the token that closes

pub inside_ends : (c : TokenKind) (s : List TokenKind) (front : List (List ℕ)) (k : TokenKind) (w : List ℕ) (ts us : List Lexeme) (whole : Reads (List ℕ)) → ts ≡ lexeme k w ∷ us → ends c s k ≡ true
    → behind front (with_texts (read_inside c s ts)) ≡ whole → whole ≡ Some (front ++ w ∷ [], us)
inside_ends c s front k w ts us whole n e so_far =
    let here : behind front (with_texts (read_inside c s (lexeme k w ∷ us))) ≡ Some (front ++ w ∷ [], us) = rw e refl in
    sym so_far ∙ ap (λ (l : List Lexeme). behind front (with_texts (read_inside c s l))) n ∙ here

token_before : (t : Lexeme) (r : Option (List Lexeme × List Lexeme)) → with_texts (r >>= λ y. Some (t ∷ y.0, y.1)) ≡ before t.text (with_texts r)
token_before t None = refl
token_before t (Some y) = refl

pub inside_next : (c : TokenKind) (s u : List TokenKind) (front : List (List ℕ)) (k : TokenKind) (w : List ℕ) (ts us : List Lexeme) (whole : Reads (List ℕ)) → ts ≡ lexeme k w ∷ us → ends c s k ≡ false → step s k ≡ Some u
    → behind front (with_texts (read_inside c s ts)) ≡ whole → behind (front ++ w ∷ []) (with_texts (read_inside c u us)) ≡ whole
inside_next c s u front k w ts us whole n e d so_far =
    let r = read_inside c u us in
    let here : behind front (with_texts (read_inside c s (lexeme k w ∷ us))) ≡ behind (front ++ w ∷ []) (with_texts r) = rw (e, d) (ap (behind front) (token_before (lexeme k w) r) ∙ one_more front w (with_texts r)) in
    sym here ∙ ap (λ (l : List Lexeme). behind front (with_texts (read_inside c s l))) (sym n) ∙ so_far

-- the same, passed over

pub pass_ends : (c : TokenKind) (s : List TokenKind) (k : TokenKind) (w : List ℕ) (ts us : List Lexeme) (whole : Option (List Lexeme)) → ts ≡ lexeme k w ∷ us → ends c s k ≡ true → passed (read_inside c s ts) ≡ whole → whole ≡ Some us
pass_ends c s k w ts us whole n e so_far =
    let here : passed (read_inside c s (lexeme k w ∷ us)) ≡ Some us = rw e refl in
    sym so_far ∙ ap (λ (l : List Lexeme). passed (read_inside c s l)) n ∙ here

passed_before : (t : Lexeme) (r : Option (List Lexeme × List Lexeme)) → passed (r >>= λ y. Some (t ∷ y.0, y.1)) ≡ passed r
passed_before t None = refl
passed_before t (Some y) = refl

pub pass_next : (c : TokenKind) (s u : List TokenKind) (k : TokenKind) (w : List ℕ) (ts us : List Lexeme) (whole : Option (List Lexeme)) → ts ≡ lexeme k w ∷ us → ends c s k ≡ false → step s k ≡ Some u
    → passed (read_inside c s ts) ≡ whole → passed (read_inside c u us) ≡ whole
pass_next c s u k w ts us whole n e d so_far =
    let r = read_inside c u us in
    let here : passed (read_inside c s (lexeme k w ∷ us)) ≡ passed r = rw (e, d) (passed_before (lexeme k w) r) in
    sym here ∙ ap (λ (l : List Lexeme). passed (read_inside c s l)) (sym n) ∙ so_far

-- ---- up to a stop

pub up_to_next : (st : Stops) (s u : List TokenKind) (front : List (List ℕ)) (k : TokenKind) (w : List ℕ) (ts us : List Lexeme) (whole : Reads (List ℕ)) → ts ≡ lexeme k w ∷ us → (is_empty s && stops_at st ts) ≡ false → step s k ≡ Some u
    → behind front (read_up_to st s ts) ≡ whole → behind (front ++ w ∷ []) (read_up_to st u us) ≡ whole
up_to_next st s u front k w ts us whole n e d so_far =
    let go : (is_empty s && stops_at st (lexeme k w ∷ us)) ≡ false = ap (λ (l : List Lexeme). is_empty s && stops_at st l) (sym n) ∙ e in
    let here : behind front (read_up_to st s (lexeme k w ∷ us)) ≡ behind (front ++ w ∷ []) (read_up_to st u us) = rw (go, d) (one_more front w (read_up_to st u us)) in
    sym here ∙ ap (λ (l : List Lexeme). behind front (read_up_to st s l)) (sym n) ∙ so_far
