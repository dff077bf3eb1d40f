-- Reading a nested type with a stack of what is around, in place of depth.
use Rattle.std.specs.Prelude.{◌≡◌, ℕ, Bool, true, false, List, [], ◌∷◌, ◌++◌, Option, Some, None, Result, Ok, Err}
use Rattle.text_forms.specs.declared.TokenKind.TheVariants.{Comma, RightBracket}
use Rattle.text_forms.specs.declared.Around.{Around}
use Rattle.text_forms.specs.declared.Around.TheVariants.{InArray, InStruct}
use Rattle.text_forms.specs.Form.{Lexeme, Form, pair, either, mapped, optional}
use Rattle.text_forms.specs.Bind.{◌>>=◌}
use Rattle.text_forms.specs.Reading.{read}
use Rattle.text_forms.specs.Nested.{TypeParts, mark, struct_head, struct_end, remainder, memory}

-- a struct has begun: its nodes so far, and what the next type is inside of, where it has not ended at once
abbrev pub begun : {N : Type 0} → Bool → List N → Option (List N) → List N × Option Around
begun p xs None = (xs, Some (InStruct p))
begun p xs (Some ys) = (xs ++ ys, None)

-- the beginning of a type: its nodes, and what the next type is inside of, where the type is not complete
abbrev pub head : {N : Type 0} → TypeParts N → Form (List N × Option Around)
head l =
    either (mapped (λ xs. (xs, None)) l.leaf)
    (either (mapped (λ xs. (xs, Some InArray)) l.array_head)
    (either (mapped (λ x. begun false x.0 x.1) (pair (struct_head l false) (optional (struct_end l false))))
    (mapped (λ x. begun true x.0 x.1) (pair (struct_head l true) (optional (struct_end l true))))))

-- what is behind a type inside of this: nodes, and whether another type
abbrev pub next : {N : Type 0} → TypeParts N → Around → Form (List N × Bool)
next l InArray = mapped (λ _. ([], false)) (mark RightBracket)
next l (InStruct p) = either (mapped (λ _. ([], true)) (mark Comma)) (mapped (λ xs. (xs, false)) (struct_end l p))

-- what is read, behind these nodes
abbrev pub behind : {A : Type 0} → List A → Option (List A × List Lexeme) → Option (List A × List Lexeme)
behind front r = r >>= λ x. Some (front ++ x.0, x.1)

-- one reading, and what is read behind it
abbrev pub then_read : {A : Type 0} → Option (List A × List Lexeme) → (List Lexeme → Option (List A × List Lexeme)) → Option (List A × List Lexeme)
then_read r k = r >>= λ x. behind x.0 (k x.1)

-- what is around is read behind it, the last of the list first
abbrev pub finish : {N : Type 0} → TypeParts N → ℕ → List Around → Option (List N × List Lexeme) → Option (List N × List Lexeme)
finish l d [] r = r
finish l d (w ∷ ws) r = then_read (finish l d ws r) (read (remainder l (memory l d) w))

-- a type is read, or was
abbrev pub pending : {N : Type 0} → TypeParts N → ℕ → Bool → List Lexeme → Option (List N × List Lexeme)
pending l d true ts = read (memory l d) ts
pending l d false ts = Some ([], ts)

-- what the whole gives, from what was read before and what is around
abbrev pub whole : {N : Type 0} → TypeParts N → ℕ → List N → List Around → Bool → List Lexeme → Option (List N × List Lexeme)
whole l d front around wanted ts = behind front (finish l d around (pending l d wanted ts))

-- What a step returned goes on to what the whole gives; with a refusal the whole gives nothing.
abbrev pub Continues : {X Y E : Type 0} → (E → Bool) → (X → Option Y) → Result X E → Option Y → Type 0
Continues is_refusal view (Ok x) r = r ≡ view x
Continues is_refusal view (Err e) r = is_refusal e ≡ true → r ≡ None
