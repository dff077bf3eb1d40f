-- What a form says is awaited, is awaited behind all tokens that it spells.
use Rattle.std.proofs.Common.{◌≡◌, ℕ, zero, suc, Bool, true, false, not, ◌&&◌, List, [], ◌∷◌, ◌++◌, Option, Some, None, eqb, refl, sym, ap, ◌∙◌, subst, inl, inr}
use Rattle.std.proofs.lemmas.Bool.{and_parts, and_from}
use Rattle.text_forms.specs.declared.TokenKind.{TokenKind}
use Rattle.text_forms.specs.declared.TokenKind.TheVariants.{Word, RightBracket, RightBrace, Greater}
use Rattle.text_forms.specs.Form.{kind_code, closer, is_closer, closed, opened, step, is_empty, for_some, nests, runs, stops_at, Stops, same_text, Lexeme, Form, exactly, one, one_such, ahead, enclosed, up_to, pair, either, mapped, made, optional, many, by_word, entry, Spells, InOrder, IfThere}
use Rattle.text_forms.specs.Balanced.{steps, same_kinds, agreed, all_agreed, stack_after}
use Rattle.text_forms.specs.Nested.{TypeParts, memory, one_deeper, array_of, struct_of}
use Rattle.text_forms.proofs.Tokens.{same_kind, kind_is}
use Rattle.text_forms.proofs.Begins.{test}
use Rattle.text_forms.proofs.Nests.{held}
use Rattle.text_forms.proofs.Parts.{bind_some, there, some_is, lexeme}

none_there : {A : Type 0} (x : A) (o : Option A) → o ≡ None → o ≡ there x → ⊥
none_there x o n e = cc

-- ---- more is awaited below

deeper_stack : (s u r : List TokenKind) → there s ≡ Some u → there (s ++ r) ≡ Some (u ++ r)
deeper_stack s u r e = ap (λ (w : List TokenKind). Some (w ++ r)) (some_is s u e)

closed_deeper : (s u r : List TokenKind) (k : TokenKind) → closed s k ≡ Some u → closed (s ++ r) k ≡ Some (u ++ r)
closed_deeper [] u r k e = absurd cc
closed_deeper (c ∷ s) u r k e =
    elim (test (eqb (kind_code c) (kind_code k))) [
      | inl i ↦ rw i (deeper_stack s u r (rw i at e))
      | inr i ↦ absurd (none_there u (closed (c ∷ s) k) (rw i refl) e)
    ]

opened_deeper : (s u r : List TokenKind) (k : TokenKind) (o : Option TokenKind) → opened s k o ≡ Some u → opened (s ++ r) k o ≡ Some (u ++ r)
opened_deeper s u r k (Some c) e = deeper_stack (c ∷ s) u r e
opened_deeper s u r k None e =
    elim (test (is_closer k)) [
      | inl i ↦ rw i (closed_deeper s u r k (rw i at e))
      | inr i ↦ rw i (deeper_stack s u r (rw i at e))
    ]

pub step_deeper : (s u r : List TokenKind) (k : TokenKind) → step s k ≡ Some u → step (s ++ r) k ≡ Some (u ++ r)
step_deeper s u r k e = opened_deeper s u r k (closer k) e

pub steps_deeper : (s u r : List TokenKind) (ts : List Lexeme) → steps s ts ≡ Some u → steps (s ++ r) ts ≡ Some (u ++ r)
steps_deeper s u r [] e = deeper_stack s u r e
steps_deeper s u r (t ∷ ts) e =
    let a = bind_some (step s t.kind) (λ v. steps v ts) u e in
    rw (step_deeper s a.0 r t.kind a.1) (steps_deeper a.0 u r ts a.2)

-- ---- tokens one behind the other

pub steps_through : (s u v : List TokenKind) (x y : List Lexeme) → steps s x ≡ Some u → steps u y ≡ Some v → steps s (x ++ y) ≡ Some v
steps_through s u v [] y e d = ap (λ (w : List TokenKind). steps w y) (some_is s u e) ∙ d
steps_through s u v (t ∷ x) y e d =
    let a = bind_some (step s t.kind) (λ w. steps w x) u e in
    rw a.1 (steps_through a.0 u v x y a.2 d)

empty_is : (s : List TokenKind) → is_empty s ≡ true → s ≡ []
empty_is [] e = refl
empty_is (c ∷ s) e = absurd cc

pub nests_steps : (s : List TokenKind) (ts : List Lexeme) → nests s ts ≡ true → steps s ts ≡ Some []
nests_steps s [] e = ap Some (empty_is s e)
nests_steps s (t ∷ ts) e = let a = held (step s t.kind) (λ u. nests u ts) e in rw a.1 (nests_steps a.0 ts a.2)

pub steps_nests : (s : List TokenKind) (ts : List Lexeme) → steps s ts ≡ Some [] → nests s ts ≡ true
steps_nests s [] e = ap is_empty (some_is s [] e)
steps_nests s (t ∷ ts) e = let a = bind_some (step s t.kind) (λ u. steps u ts) [] e in rw a.1 (steps_nests a.0 ts a.2)

-- tokens that nest leave what is awaited
pub nests_anywhere : (s : List TokenKind) (ts : List Lexeme) → nests [] ts ≡ true → steps s ts ≡ Some s
nests_anywhere s ts e = steps_deeper [] [] s ts (nests_steps [] ts e)

pub nests_joined : (x y : List Lexeme) → nests [] x ≡ true → nests [] y ≡ true → nests [] (x ++ y) ≡ true
nests_joined x y e d = steps_nests [] (x ++ y) (steps_through [] [] [] x y (nests_steps [] x e) (nests_steps [] y d))

runs_nest : (st : Stops) (s : List TokenKind) (ts : List Lexeme) → runs st s ts ≡ true → nests s ts ≡ true
runs_nest st s [] e = e
runs_nest st s (t ∷ ts) e =
    let p = and_parts (not (is_empty s && stops_at st (t ∷ ts))) (for_some (step s t.kind) (λ u. runs st u ts)) e in
    let a = held (step s t.kind) (λ u. runs st u ts) p.1 in
    rw a.1 (runs_nest st a.0 ts a.2)

-- ---- where two say the same

same_stack : (s u : List TokenKind) → same_kinds s u ≡ true → s ≡ u
same_stack [] [] e = refl
same_stack [] (l ∷ ls) e = absurd cc
same_stack (k ∷ ks) [] e = absurd cc
same_stack (k ∷ ks) (l ∷ ls) e =
    let p = and_parts (eqb (kind_code k) (kind_code l)) (same_kinds ks ls) e in
    ap (λ (m : TokenKind). m ∷ ks) (same_kind k l p.0) ∙ ap (λ (ms : List TokenKind). l ∷ ms) (same_stack ks ls p.1)

stack_is : (s : List TokenKind) → same_kinds s s ≡ true
stack_is [] = refl
stack_is (k ∷ ks) = and_from _ _ (kind_is k) (stack_is ks)

agreed_some : (o q : Option (List TokenKind)) (u : List TokenKind) → agreed o q ≡ Some u → (o ≡ Some u) × (q ≡ Some u)
agreed_some None q u e = absurd cc
agreed_some (Some s) None u e = absurd cc
agreed_some (Some s) (Some v) u e =
    elim (test (same_kinds s v)) [
      | inl i ↦ let h : there s ≡ Some u = rw i at e in (h, ap Some (sym (same_stack s v i)) ∙ h)
      | inr i ↦ absurd (none_there u (agreed (Some s) (Some v)) (rw i refl) e)
    ]

agreed_from : (o q : Option (List TokenKind)) (u : List TokenKind) → o ≡ Some u → q ≡ Some u → agreed o q ≡ Some u
agreed_from o q u e d = rw (e, d, stack_is u) refl

each_agreed : {K : Type 0} (table : List (List ℕ × K)) (g : K → Option (List TokenKind)) (o : Option (List TokenKind)) (u : List TokenKind) (w : List ℕ) (k : K) → all_agreed table g o ≡ Some u → entry table w ≡ Some k → g k ≡ Some u
each_agreed [] g o u w k e d = absurd cc
each_agreed {K} (f ∷ fs) g o u w k e d =
    let p = agreed_some (g f.1) (all_agreed fs g o) u e in
    elim (test (same_text w f.0)) [ inl i ↦ subst (λ (j : K). g j ≡ Some u) (some_is f.1 k (rw i at d)) p.0 | inr i ↦ each_agreed fs g o u w k p.1 (rw i at d) ]

agreed_deeper : {K : Type 0} (table : List (List ℕ × K)) (g h : K → Option (List TokenKind)) (s u r : List TokenKind) → ((k : K) → g k ≡ Some u → h k ≡ Some (u ++ r)) → all_agreed table g (Some s) ≡ Some u → all_agreed table h (Some (s ++ r)) ≡ Some (u ++ r)
agreed_deeper [] g h s u r i e = deeper_stack s u r e
agreed_deeper (f ∷ fs) g h s u r i e =
    let p = agreed_some (g f.1) (all_agreed fs g (Some s)) u e in
    agreed_from (h f.1) (all_agreed fs h (Some (s ++ r))) (u ++ r) (i f.1 p.0) (agreed_deeper fs g h s u r i p.1)

-- ---- what a form says

-- and it says the same where more is awaited below
pub stack_deeper : {A : Type 0} (f : Form A) (s u r : List TokenKind) → stack_after f s ≡ Some u → stack_after f (s ++ r) ≡ Some (u ++ r)
stack_deeper (exactly k w) s u r e = step_deeper s u r k e
stack_deeper (one k) s u r e = step_deeper s u r k e
stack_deeper (one_such k p) s u r e = step_deeper s u r k e
stack_deeper (enclosed o c) s u r e =
    let a = bind_some (step s o) (λ v. step v c) u e in
    rw (step_deeper s a.0 r o a.1) (step_deeper a.0 u r c a.2)
stack_deeper (up_to st) s u r e = deeper_stack s u r e
stack_deeper (ahead k f) s u r e =
    let a = bind_some (step s k) (λ v. stack_after f v) u e in
    rw (step_deeper s a.0 r k a.1) (stack_deeper f a.0 u r a.2)
stack_deeper (pair f g) s u r e =
    let a = bind_some (stack_after f s) (λ v. stack_after g v) u e in
    rw (stack_deeper f s a.0 r a.1) (stack_deeper g a.0 u r a.2)
stack_deeper (either f g) s u r e =
    let p = agreed_some (stack_after f s) (stack_after g s) u e in
    agreed_from _ _ (u ++ r) (stack_deeper f s u r p.0) (stack_deeper g s u r p.1)
stack_deeper (mapped h f) s u r e = stack_deeper f s u r e
stack_deeper (made h f) s u r e = stack_deeper f s u r e
stack_deeper (by_word table f) s u r e = agreed_deeper table (λ k. stack_after (f k) s) (λ k. stack_after (f k) (s ++ r)) s u r (λ k d. stack_deeper (f k) s u r d) e
stack_deeper (optional f) s u r e =
    let p = agreed_some (stack_after f s) (Some s) u e in
    agreed_from _ _ (u ++ r) (stack_deeper f s u r p.0) (deeper_stack s u r p.1)
stack_deeper (many f) s u r e =
    let p = agreed_some (stack_after f s) (Some s) u e in
    agreed_from _ _ (u ++ r) (stack_deeper f s u r p.0) (deeper_stack s u r p.1)

-- behind all tokens that spell a value this is awaited
abbrev Leads : {A : Type 0} → (A → List Lexeme → Type 0) → List TokenKind → List TokenKind → Type 0
Leads {A} P s u = (a : A) (ts : List Lexeme) → P a ts → steps s ts ≡ Some u

one_leads : (s u : List TokenKind) (k : TokenKind) (w : List ℕ) (ts : List Lexeme) → step s k ≡ Some u → ts ≡ lexeme k w ∷ [] → steps s ts ≡ Some u
one_leads s u k w ts e p = rw (p, e) refl

token_leads : (s v u : List TokenKind) (k : TokenKind) (w : List ℕ) (ts rest : List Lexeme) → step s k ≡ Some v → ts ≡ lexeme k w ∷ rest → steps v rest ≡ Some u → steps s ts ≡ Some u
token_leads s v u k w ts rest e p d = rw (p, e) d

parts_lead : (s v u : List TokenKind) (x y ts : List Lexeme) → ts ≡ x ++ y → steps s x ≡ Some v → steps v y ≡ Some u → steps s ts ≡ Some u
parts_lead s v u x y ts p e d = ap (steps s) p ∙ steps_through s v u x y e d

each_leads : {A : Type 0} (P : A → List Lexeme → Type 0) (s u : List TokenKind) → there s ≡ Some u → Leads P s u → Leads (InOrder P) s u
each_leads P s u e h [] ts p = ap (steps s) p ∙ e
each_leads P s u e h (a ∷ more) ts p =
    parts_lead s u u p.0 p.1 ts p.2 (h a p.0 p.3) (ap (λ (w : List TokenKind). steps w p.1) (sym (some_is s u e)) ∙ each_leads P s u e h more p.1 p.4)

if_leads : {A : Type 0} (P : A → List Lexeme → Type 0) (s u : List TokenKind) → there s ≡ Some u → Leads P s u → Leads (IfThere P) s u
if_leads P s u e h None ts p = ap (steps s) p ∙ e
if_leads P s u e h (Some a) ts p = h a ts p

pub leads : {A : Type 0} (f : Form A) (s u : List TokenKind) → stack_after f s ≡ Some u → Leads (Spells f) s u
leads (exactly k w) s u e a ts p = one_leads s u k w ts e p
leads (one k) s u e a ts p = one_leads s u k a ts e p
leads (one_such k q) s u e a ts p = one_leads s u k a ts e p.0
leads (enclosed o c) s u e a ts p =
    let b = bind_some (step s o) (λ v. step v c) u e in
    token_leads s b.0 u o p.0 ts (p.1 ++ lexeme c p.2 ∷ []) b.1 p.3
    (parts_lead b.0 b.0 u p.1 (lexeme c p.2 ∷ []) (p.1 ++ lexeme c p.2 ∷ []) refl (nests_anywhere b.0 p.1 p.4) (one_leads b.0 u c p.2 (lexeme c p.2 ∷ []) b.2 refl))
leads (up_to st) s u e a ts p = nests_anywhere s ts (runs_nest st [] ts p.0) ∙ e
leads (ahead k f) s u e a ts p =
    let b = bind_some (step s k) (λ v. stack_after f v) u e in
    token_leads s b.0 u k a.0 ts p.0 b.1 p.1 (leads f b.0 u b.2 a.1 p.0 p.2)
leads (pair f g) s u e a ts p =
    let b = bind_some (stack_after f s) (λ v. stack_after g v) u e in
    parts_lead s b.0 u p.0 p.1 ts p.2 (leads f s b.0 b.1 a.0 p.0 p.3) (leads g b.0 u b.2 a.1 p.1 p.4)
leads (either f g) s u e a ts p =
    let b = agreed_some (stack_after f s) (stack_after g s) u e in
    elim p [ inl x ↦ leads f s u b.0 a ts x | inr y ↦ leads g s u b.1 a ts y ]
leads (mapped h f) s u e a ts p = leads f s u e p.0 ts p.2
leads (made h f) s u e a ts p = leads f s u e p.0 ts p.2
leads (by_word table f) s u e a ts p =
    token_leads s s u Word p.0 ts p.2 refl p.3 (leads (f p.1) s u (each_agreed table (λ k. stack_after (f k) s) (Some s) u p.0 p.1 e p.4) a p.2 p.5)
leads (optional f) s u e a ts p = let b = agreed_some (stack_after f s) (Some s) u e in if_leads (Spells f) s u b.1 (leads f s u b.0) a ts p
leads (many f) s u e a ts p = let b = agreed_some (stack_after f s) (Some s) u e in each_leads (Spells f) s u b.1 (leads f s u b.0) a ts p

-- Tokens that spell a value close all that they open, where the form says so.
pub balanced : {A : Type 0} (f : Form A) → stack_after f [] ≡ Some [] → (a : A) (ts : List Lexeme) → Spells f a ts → nests [] ts ≡ true
balanced f e a ts p = steps_nests [] ts (leads f [] [] e a ts p)

-- ---- nested types

struct_stack : {N : Type 0} (l : TypeParts N) (p : Bool) (m : Form (List N)) → ((s : List TokenKind) → stack_after m s ≡ Some s) → stack_after (struct_of l p m) [] ≡ Some []
struct_stack l false m h = let e = h (RightBrace ∷ []) in rw e (rw e refl)
struct_stack l true m h = let e = h (RightBrace ∷ Greater ∷ []) in rw e (rw e refl)

array_stack : {N : Type 0} (l : TypeParts N) (m : Form (List N)) → stack_after l.array_head [] ≡ Some (RightBracket ∷ []) → ((s : List TokenKind) → stack_after m s ≡ Some s) → stack_after (array_of l m) [] ≡ Some []
array_stack l m ea h = rw (ea, h (RightBracket ∷ [])) refl

-- nested types do so at every depth
pub memory_stack : {N : Type 0} (l : TypeParts N) → stack_after l.leaf [] ≡ Some [] → stack_after l.array_head [] ≡ Some (RightBracket ∷ []) → (d : ℕ) (s : List TokenKind) → stack_after (memory l d) s ≡ Some s
memory_stack l el ea zero s = stack_deeper l.leaf [] [] s el
memory_stack l el ea (suc d) s =
    let m = memory l d in
    let h = memory_stack l el ea d in
    let structs = agreed_from (stack_after (struct_of l false m) []) (stack_after (struct_of l true m) []) [] (struct_stack l false m h) (struct_stack l true m h) in
    stack_deeper (one_deeper l m) [] [] s (agreed_from (stack_after l.leaf []) _ [] el (agreed_from (stack_after (array_of l m) []) _ [] (array_stack l m ea h) structs))
