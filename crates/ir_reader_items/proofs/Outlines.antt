-- Passing over a function part after part is skimming it whole.
use Rattle.std.proofs.Common.{◌≡◌, true, List, Option, Some, None, refl, sym, ap, ◌∙◌}
use Rattle.std.specs.Prelude.{is_some}
use Rattle.text_forms.specs.declared.TokenKind.TheVariants.{LeftParen, RightParen, LeftBrace, RightBrace}
use Rattle.text_forms.specs.Form.{Lexeme, Form, enclosed, pair}
use Rattle.text_forms.specs.Reading.{◌>>=◌, read}
use Rattle.text_forms.specs.Walk.{completed}
use Rattle.text_forms.specs.Kept.{attachments}
use Rattle.text_forms.specs.Nested.{joined}
use Rattle.text_forms.proofs.Exact.{some_is}
use Rattle.ir_types.specs.declared.name.Name.{Name}
use Rattle.ir_types.specs.declared.inst.Ty.{Ty}
use Rattle.ir_types.specs.Tree.{KeptTexts}
use Rattle.ir_types.specs.TypeForms.{return_type, global_name}
use Rattle.ir_types.specs.Words.{kept}
use Rattle.ir_types.specs.Skimmed.{Outline, declared_outline, skimmed_declaration, defined_outline, skimmed_definition}
use Rattle.kept_runs.specs.Passed.{passed}
use Rattle.ir_reader_values.proofs.Chains.{alike, first_apart}
use Rattle.ir_reader_items.specs.Sources.{outline_or_none}
use Rattle.ir_reader_items.specs.Passed.{outline_name, signature_passed, definition_passed, declaration_passed}

behind_passed : {A B : Type 0} (r : Option (A × List Lexeme)) (g : List Lexeme → Option B) → (r >>= λ x. g x.1) ≡ (passed r >>= g)
behind_passed None g = refl
behind_passed (Some x) g = refl

only_name : {A : Type 0} (n : Name) (r : Option (A × List Lexeme)) → completed (λ (_ : A). Some n) r ≡ (passed r >>= λ e. Some (n, e))
only_name n None = refl
only_name n (Some x) = refl

abbrev params : Form (List Lexeme)
params = enclosed LeftParen RightParen

abbrev body : Form (List Lexeme)
body = enclosed LeftBrace RightBrace

-- a signature's parts, with what is behind them
signed : {B : Type 0} (ts : List Lexeme) (g : Name × List Lexeme → Option B)
    → (read return_type ts >>= λ t. read global_name t.1 >>= λ n. passed (read params n.1) >>= λ p. g (n.0, p)) ≡ (signature_passed ts >>= g)
signed {B} ts g = by (read return_type ts)
  where
    last : (n : Name) (o : Option (List Lexeme)) → (o >>= λ p. g (n, p)) ≡ ((o >>= λ p. Some (n, p)) >>= g)
    last n None = refl
    last n (Some p) = refl

    name : (o : Option (Name × List Lexeme)) → (o >>= λ n. passed (read params n.1) >>= λ p. g (n.0, p)) ≡ ((o >>= λ n. passed (read params n.1) >>= λ p. Some (n.0, p)) >>= g)
    name None = refl
    name (Some n) = last n.0 (passed (read params n.1))

    by : (o : Option (Ty × List Lexeme)) → (o >>= λ t. read global_name t.1 >>= λ n. passed (read params n.1) >>= λ p. g (n.0, p)) ≡ ((o >>= λ t. read global_name t.1 >>= λ n. passed (read params n.1) >>= λ p. Some (n.0, p)) >>= g)
    by None = refl
    by (Some t) = name (read global_name t.1)

-- the parts of a function that has f behind its parameters: only its name is kept
abbrev Parts : Type 0 → Type 0
Parts B = KeptTexts × (Ty × (Name × (List Lexeme × B)))

named : {B : Type 0} (before : Form KeptTexts) (f : Form B) (ts : List Lexeme)
    → completed (λ (x : Parts B). Some x.1.1.0) (read (pair before (pair return_type (pair global_name (pair params f)))) ts)
    ≡ (read before ts >>= λ b. signature_passed b.1 >>= λ s. passed (read f s.1) >>= λ e. Some (s.0, e))
named {B} before f ts =
    let inner = pair params f in
    let named_inner = pair global_name inner in
    let typed = pair return_type named_inner in
    first_apart (λ (x : Parts B). Some x.1.1.0) before typed ts
    ∙ alike (read before ts) _ _ (λ b.
    first_apart (λ (x : Ty × (Name × (List Lexeme × B))). Some x.1.0) return_type named_inner b.1
    ∙ alike (read return_type b.1) _ _ (λ t.
    first_apart (λ (x : Name × (List Lexeme × B)). Some x.0) global_name inner t.1
    ∙ alike (read global_name t.1) _ _ (λ n.
    first_apart (λ _. Some n.0) params f n.1
    ∙ alike (read params n.1) _ _ (λ p. only_name n.0 (read f p.1))
    ∙ behind_passed (read params n.1) (λ us. passed (read f us) >>= λ e. Some (n.0, e))))
    ∙ signed b.1 (λ s. passed (read f s.1) >>= λ e. Some (s.0, e)))

outline_of_parts : {B : Type 0} (h : Parts B → Outline) (r : Option (Parts B × List Lexeme)) → ((x : Parts B) → (h x).name ≡ x.1.1.0) → outline_name (r >>= λ x. Some (h x.0, x.1)) ≡ completed (λ (x : Parts B). Some x.1.1.0) r
outline_of_parts h None e = refl
outline_of_parts h (Some x) e = ap (λ (n : Name). Some (n, x.1)) (e x.0)

-- the name, with what is behind
abbrev called : Name → List Lexeme → Option (Name × List Lexeme)
called n us = Some (n, us)

-- what stands behind parameters, in two parts
behind_body : {B C : Type 0} (n : Name) (f : Form B) (g : Form C) (ts : List Lexeme) → (passed (read (pair f g) ts) >>= called n) ≡ (read f ts >>= λ a. passed (read g a.1) >>= called n)
behind_body {B} {C} n f g ts = sym (only_name n (read (pair f g) ts)) ∙ first_apart (λ _. Some n) f g ts ∙ alike (read f ts) _ _ (λ a. only_name n (read g a.1))

-- and in one
behind_run : {B : Type 0} (n : Name) (r : Option (B × List Lexeme)) → (passed r >>= called n) ≡ (r >>= λ a. called n a.1)
behind_run n None = refl
behind_run n (Some a) = refl

pub definition_is : (ts : List Lexeme) → outline_name (read skimmed_definition ts) ≡ definition_passed ts
unfolding skimmed_definition
definition_is ts =
    let behind = pair (joined kept attachments) body in
    outline_of_parts defined_outline (read (pair kept (pair return_type (pair global_name (pair params behind)))) ts) (λ x. refl)
    ∙ named kept behind ts
    ∙ alike (read kept ts) _ _ (λ b. alike (signature_passed b.1) _ _ (λ s. behind_body s.0 (joined kept attachments) body s.1))

pub declaration_is : (ts : List Lexeme) → outline_name (read skimmed_declaration ts) ≡ declaration_passed ts
unfolding skimmed_declaration
declaration_is ts =
    outline_of_parts declared_outline (read (pair (joined attachments kept) (pair return_type (pair global_name (pair params kept)))) ts) (λ x. refl)
    ∙ named (joined attachments kept) kept ts
    ∙ alike (read (joined attachments kept) ts) _ _ (λ b. alike (signature_passed b.1) _ _ (λ s. behind_run s.0 (read kept s.1)))

-- ---- what the name says of the outline

abbrev Outlined : Type 0
Outlined = Option (Outline × List Lexeme)

abbrev name_and_rest : Outline × List Lexeme → Name × List Lexeme
name_and_rest x = (x.0.name, x.1)

same_parts : (x : Outline × List Lexeme) (n : Name) (us : List Lexeme) → outline_name (Some x) ≡ Some (n, us) → name_and_rest x ≡ (n, us)
same_parts x n us e = some_is (name_and_rest x) (n, us) e

pub name_stands : (r : Outlined) (n : Name) (us : List Lexeme) → outline_name r ≡ Some (n, us) → is_some r ≡ true
name_stands None n us e = absurd cc
name_stands (Some x) n us e = refl

pub name_is : (r : Outlined) (n : Name) (us : List Lexeme) → outline_name r ≡ Some (n, us) → n ≡ (outline_or_none r).name
name_is None n us e = absurd cc
name_is (Some x) n us e = sym (ap (λ (y : Name × List Lexeme). y.0) (same_parts x n us e))

abbrev read_so : Outline → List Lexeme → Outlined
read_so s us = Some (s, us)

-- what is read is what its outline says
pub outline_again : (r : Outlined) (n : Name) (us : List Lexeme) → outline_name r ≡ Some (n, us) → r ≡ Some (outline_or_none r, us)
outline_again None n us e = absurd cc
outline_again (Some x) n us e = ap (λ (y : Name × List Lexeme). read_so x.0 y.1) (same_parts x n us e)
