-- A nested type that is no leaf is a balanced list in brackets.
use Rattle.std.proofs.Common.{◌≡◌, ℕ, zero, suc, Bool, true, false, List, [], ◌∷◌, ◌++◌, Some, refl, sym, ap, ◌∙◌, append_assoc, ◌⊎◌, inl, inr}
use Rattle.text_forms.specs.declared.TokenKind.{TokenKind}
use Rattle.text_forms.specs.declared.TokenKind.TheVariants.{LeftBracket, RightBracket, LeftBrace, RightBrace, Less, Greater}
use Rattle.text_forms.specs.declared.Around.TheVariants.{InStruct}
use Rattle.text_forms.specs.Form.{Lexeme, Form, nests, enclosed, either, many, Spells}
use Rattle.text_forms.specs.Balanced.{stack_after}
use Rattle.text_forms.specs.Nested.{TypeParts, comma_then, joined, struct_end, remainder, struct_of, array_of, memory}
use Rattle.text_forms.proofs.Parts.{lexeme}
use Rattle.text_forms.proofs.Balanced.{balanced, steps_nests, steps_through, nests_anywhere, nests_joined, memory_stack}

-- the tokens are a balanced list in these brackets
pub enclosed_is : (o c : TokenKind) (v w : List ℕ) (inner ts : List Lexeme) → ts ≡ lexeme o v ∷ (inner ++ lexeme c w ∷ []) → nests [] inner ≡ true → Spells (enclosed o c) ts ts
enclosed_is o c v w inner ts e n = (v, inner, w, e, n, refl)

braces_nest : (v w : List ℕ) (inner : List Lexeme) → nests [] inner ≡ true → nests [] (lexeme LeftBrace v ∷ (inner ++ lexeme RightBrace w ∷ [])) ≡ true
braces_nest v w inner n =
    let s = RightBrace ∷ [] in
    steps_nests s (inner ++ lexeme RightBrace w ∷ []) (steps_through s s [] inner (lexeme RightBrace w ∷ []) (nests_anywhere s inner n) refl)

-- types as they stand in a struct, and its end
abbrev Members : {N : Type 0} → TypeParts N → Bool → List Lexeme → Type 0
Members {N} l p ts = (inner : List Lexeme) × (e : List Lexeme) × (xs : List N) × (ts ≡ inner ++ e) × (nests [] inner ≡ true) × Spells (struct_end l p) xs e

members : {N : Type 0} (l : TypeParts N) (p : Bool) (m : Form (List N)) → ((s : List TokenKind) → stack_after m s ≡ Some s) → (a : List N) (ts : List Lexeme)
    → Spells (either (struct_end l p) (joined m (remainder l m (InStruct p)))) a ts → Members l p ts
members l p m h a ts (inl s) = ([], ts, a, refl, refl, s)
members l p m h a ts (inr s) =
    let b = s.2 in
    let r = b.4.2 in
    let first = balanced m (h []) s.0.0 b.0 b.3 in
    let others = balanced (many (comma_then m)) (rw (h []) refl) r.3.0 r.0 r.3.2 in
    (b.0 ++ r.0, r.1, b.4.0.1, b.2 ∙ ap (λ (w : List Lexeme). b.0 ++ w) r.2 ∙ sym (append_assoc b.0 r.0 r.1), nests_joined b.0 r.0 first others, r.4)

plain_struct : {N : Type 0} (l : TypeParts N) (m : Form (List N)) → ((s : List TokenKind) → stack_after m s ≡ Some s) → (a : List N) (ts : List Lexeme) → Spells (struct_of l false m) a ts → Spells (enclosed LeftBrace RightBrace) ts ts
plain_struct l m h a ts s =
    let p = s.2 in
    let head = p.3.2 in
    let b = members l false m h s.0.1 p.1 p.4 in
    let end = b.5.2 in
    enclosed_is LeftBrace RightBrace head.0 end.0 b.0 ts
    (p.2 ∙ ap (λ (w : List Lexeme). w ++ p.1) head.2 ∙ ap (λ (w : List Lexeme). lexeme LeftBrace head.0 ∷ w) (b.3 ∙ ap (λ (w : List Lexeme). b.0 ++ w) end.2)) b.4

packed_struct : {N : Type 0} (l : TypeParts N) (m : Form (List N)) → ((s : List TokenKind) → stack_after m s ≡ Some s) → (a : List N) (ts : List Lexeme) → Spells (struct_of l true m) a ts → Spells (enclosed Less Greater) ts ts
packed_struct l m h a ts s =
    let p = s.2 in
    let head = p.3.2 in
    let brace = head.2 in
    let b = members l true m h s.0.1 p.1 p.4 in
    let end = b.5.2 in
    let first = lexeme Less p.3.0.0 in
    let left = lexeme LeftBrace brace.0 in
    let right = lexeme RightBrace end.3.0 in
    let last = lexeme Greater end.4.0 in
    let ends : b.1 ≡ right ∷ last ∷ [] = end.2 ∙ ap (λ (w : List Lexeme). w ++ end.1) end.3.2 ∙ ap (λ (w : List Lexeme). right ∷ w) end.4.2 in
    let begins : p.0 ≡ first ∷ left ∷ [] = head.1 ∙ ap (λ (w : List Lexeme). first ∷ w) brace.2 in
    let inner = b.3 ∙ ap (λ (w : List Lexeme). b.0 ++ w) ends ∙ sym (append_assoc b.0 (right ∷ []) (last ∷ [])) in
    enclosed_is Less Greater p.3.0.0 end.4.0 (left ∷ (b.0 ++ right ∷ [])) ts
    (p.2 ∙ ap (λ (w : List Lexeme). w ++ p.1) begins ∙ ap (λ (w : List Lexeme). first ∷ left ∷ w) inner) (braces_nest brace.0 end.3.0 b.0 b.4)

-- an array begins with a left bracket, behind which what is open is closed
abbrev pub BeginsArray : {N : Type 0} → TypeParts N → Type 0
BeginsArray {N} l = (a : List N) (ts : List Lexeme) → Spells l.array_head a ts → (v : List ℕ) × (more : List Lexeme) × (ts ≡ lexeme LeftBracket v ∷ more) × (nests [] more ≡ true)

array_is : {N : Type 0} (l : TypeParts N) (m : Form (List N)) → BeginsArray l → ((s : List TokenKind) → stack_after m s ≡ Some s) → (a : List N) (ts : List Lexeme) → Spells (array_of l m) a ts → Spells (enclosed LeftBracket RightBracket) ts ts
array_is l m g h a ts s =
    let p = s.2 in
    let head = g s.0.0 p.0 p.3 in
    let q = p.4.2 in
    let end = q.4.2 in
    let first = lexeme LeftBracket head.0 in
    let last = lexeme RightBracket end.0 in
    let inner = q.2 ∙ ap (λ (w : List Lexeme). q.0 ++ w) end.2 in
    enclosed_is LeftBracket RightBracket head.0 end.0 (head.1 ++ q.0) ts
    (p.2 ∙ ap (λ (w : List Lexeme). w ++ p.1) head.2 ∙ ap (λ (w : List Lexeme). first ∷ (head.1 ++ w)) inner ∙ ap (λ (w : List Lexeme). first ∷ w) (sym (append_assoc head.1 q.0 (last ∷ []))))
    (nests_joined head.1 q.0 head.3 (balanced m (h []) p.4.0.0 q.0 q.3))

-- a balanced list in the brackets of an array, of a struct or of a packed one
abbrev pub InBrackets : List Lexeme → Type 0
InBrackets ts = Spells (enclosed LeftBracket RightBracket) ts ts ⊎ (Spells (enclosed LeftBrace RightBrace) ts ts ⊎ Spells (enclosed Less Greater) ts ts)

pub memory_tokens : {N : Type 0} (l : TypeParts N) → stack_after l.leaf [] ≡ Some [] → stack_after l.array_head [] ≡ Some (RightBracket ∷ []) → BeginsArray l → (d : ℕ) (a : List N) (ts : List Lexeme) → Spells (memory l d) a ts → Spells l.leaf a ts ⊎ InBrackets ts
memory_tokens l el ea g zero a ts s = inl s
memory_tokens l el ea g (suc d) a ts (inl s) = inl s
memory_tokens l el ea g (suc d) a ts (inr (inl s)) = inr (inl (array_is l (memory l d) g (memory_stack l el ea d) a ts s))
memory_tokens l el ea g (suc d) a ts (inr (inr (inl s))) = inr (inr (inl (plain_struct l (memory l d) (memory_stack l el ea d) a ts s)))
memory_tokens l el ea g (suc d) a ts (inr (inr (inr s))) = inr (inr (inr (packed_struct l (memory l d) (memory_stack l el ea d) a ts s)))
