-- Reading definitions and variables part after part is reading them whole.
use Rattle.std.proofs.Common.{◌≡◌, ℕ, ◌≤◌, Bool, List, codes, length, Option, Some, None, refl, sym, ap, ◌∙◌, arith}
use Rattle.text_forms.specs.declared.TokenKind.TheVariants.{Local, Global, Equal, Word}
use Rattle.text_forms.specs.Form.{Lexeme, Form, exactly, one, ahead, pair, either, mapped}
use Rattle.text_forms.specs.Gives.{mark}
use Rattle.text_forms.specs.Reading.{◌>>=◌, read}
use Rattle.text_forms.specs.Walk.{completed}
use Rattle.text_forms.proofs.Fronts.{within}
use Rattle.ir_reader_values.proofs.Chains.{alike, first_apart}
use Rattle.ir_types.specs.declared.name.Name.{Name}
use Rattle.ir_types.specs.TypeNodes.{TypeNode}
use Rattle.ir_types.specs.Tree.{KeptTexts, VariableTree, Item, WrittenFunction, type_item, variable_item}
use Rattle.ir_types.specs.Written.{name_behind}
use Rattle.text_forms.specs.Combined.{after_mark, behind}
use Rattle.ir_types.specs.TypeForms.{memory_type}
use Rattle.ir_types.specs.Words.{kept}
use Rattle.ir_types.specs.ItemForms.{variable_word, behind_type, named_type, named_variable, type_definition, variable_definition}
use Rattle.ir_types.specs.Skimmed.{Skimmed, as_it_is}
use Rattle.ir_reader_items.specs.Sources.{type_read}
use Rattle.ir_reader_items.specs.Typed.{defined_read, definition_read, variable_read}
use Rattle.ir_reader_items.proofs.Depths.{type_is, defined_is, opaque_word}

-- the next steps are alike where they are taken
then_same : {A B : Type 0} (o : Option (A × List Lexeme)) (f g : A × List Lexeme → Option B) → ((x : A × List Lexeme) → o ≡ Some x → f x ≡ g x) → (o >>= f) ≡ (o >>= g)
then_same None f g h = refl
then_same (Some x) f g h = h x refl

abbrev beside : {A B : Type 0} → A → Option (B × List Lexeme) → Option ((A × B) × List Lexeme)
beside a o = o >>= λ y. Some ((a, y.0), y.1)

abbrev second : {A B : Type 0} → Option ((A × B) × List Lexeme) → Option (B × List Lexeme)
second o = o >>= λ x. Some (x.0.1, x.1)

-- a part behind another, which is dropped
behind_apart : {A B C : Type 0} (f : B → Option C) (g : Form A) (h : Form B) (ts : List Lexeme) → completed f (read (mapped (λ x. x.1) (pair g h)) ts) ≡ (read g ts >>= λ a. completed f (read h a.1))
behind_apart {A} {B} {C} f g h ts = by (read g ts)
  where
    each : (a : A) (o : Option (B × List Lexeme)) → completed f (second (beside a o)) ≡ completed f o
    each a None = refl
    each a (Some y) = refl

    by : (o : Option (A × List Lexeme)) → completed f (second (o >>= λ x. beside x.0 (read h x.1))) ≡ (o >>= λ a. completed f (read h a.1))
    by None = refl
    by (Some x) = each x.0 (read h x.1)

completed_twice : {A B C R : Type 0} (f : A → Option B) (g : B → Option C) (r : Option (A × R)) → completed g (completed f r) ≡ completed (λ a. f a >>= g) r
completed_twice f g None = refl
completed_twice {A} {B} {C} {R} f g (Some x) = by (f x.0)
  where
    by : (o : Option B) → completed g (o >>= λ b. Some (b, x.1)) ≡ ((o >>= g) >>= λ c. Some (c, x.1))
    by None = refl
    by (Some b) = refl

abbrev SkimmedItem : Type 0
SkimmedItem = Item Skimmed

-- an item, which has no inner parts
abbrev as_skimmed : Item WrittenFunction → Option SkimmedItem
as_skimmed i = Some (as_it_is i)

-- ---- definitions

abbrev Defined : Type 0
Defined = Option (List TypeNode)

-- a definition, where its name is one
abbrev definition_so : List ℕ → Defined → Option SkimmedItem
definition_so t d = named_type (t, d) >>= as_skimmed

abbrev named_so : List ℕ → Option (Defined × List Lexeme) → Option (SkimmedItem × List Lexeme)
named_so t r = r >>= λ d. name_behind t >>= λ n. Some (type_item n d.0, d.1)

abbrev with_rest : List Lexeme → Option SkimmedItem → Option (SkimmedItem × List Lexeme)
with_rest us o = o >>= λ b. Some (b, us)

abbrev type_so : Defined → List Lexeme → Name → Option (SkimmedItem × List Lexeme)
type_so d us n = Some (type_item n d, us)

abbrev written_type : Defined → Name → Option (Item WrittenFunction)
written_type d n = Some (type_item n d)

definition_named : (t : List ℕ) (r : Option (Defined × List Lexeme)) → named_so t r ≡ completed (definition_so t) r
definition_named t None = refl
definition_named t (Some d) = by (name_behind t)
  where
    by : (o : Option Name) → (o >>= type_so d.0 d.1) ≡ with_rest d.1 ((o >>= written_type d.0) >>= as_skimmed)
    by None = refl
    by (Some n) = refl

abbrev defined_form : ℕ → Form Defined
defined_form d = either (mapped Some (memory_type d)) opaque_word

behind_name : (d : ℕ) (t : List ℕ) (ts : List Lexeme) → length ts ≤ d
    → (read (mark Equal) ts >>= λ e. read (exactly Word (codes "type")) e.1 >>= λ w. named_so t (defined_read w.1))
    ≡ completed (definition_so t) (read (after_mark Equal (behind (codes "type") (defined_form d))) ts)
behind_name d t ts le =
    then_same (read (mark Equal) ts) _ _ (λ e e1.
    then_same (read (exactly Word (codes "type")) e.1) _ _ (λ w e2.
    let l1 = within (mark Equal) ts e e1 in
    let l2 = within (exactly Word (codes "type")) e.1 w e2 in
    definition_named t (defined_read w.1) ∙ ap (completed (definition_so t)) (defined_is d w.1 (omega arith)))
    ∙ sym (behind_apart (definition_so t) (exactly Word (codes "type")) (defined_form d) e.1))
    ∙ sym (behind_apart (definition_so t) (mark Equal) (behind (codes "type") (defined_form d)) ts)

pub definition_is : (d : ℕ) (ts : List Lexeme) → length ts ≤ d → definition_read ts ≡ read (mapped as_it_is (type_definition (memory_type d))) ts
unfolding type_definition
definition_is d ts le =
    let inner = after_mark Equal (behind (codes "type") (defined_form d)) in
    then_same (read (one Local) ts) _ _ (λ t e. let l = within (one Local) ts t e in behind_name d t.0 t.1 (omega arith))
    ∙ sym (completed_twice named_type as_skimmed (read (ahead Local inner) ts) ∙ first_apart (λ x. named_type x >>= as_skimmed) (one Local) inner ts)

-- ---- variables

abbrev variable_so : List ℕ → KeptTexts → Bool → List TypeNode → KeptTexts → Option SkimmedItem
variable_so t k w m b = named_variable (t, (k, (w, (m, b)))) >>= as_skimmed

abbrev the_variable : KeptTexts → Bool → List TypeNode → KeptTexts → Name → VariableTree
the_variable k w m b n = record { name = n; before = k; writable = w; ty = m; after = b }

abbrev behind_read : List ℕ → KeptTexts → Bool → List TypeNode → Option (KeptTexts × List Lexeme) → Option (SkimmedItem × List Lexeme)
behind_read t k w m r = r >>= λ b. name_behind t >>= λ n. Some (variable_item (the_variable k w m b.0 n), b.1)

abbrev variable_made : VariableTree → List Lexeme → Option (SkimmedItem × List Lexeme)
variable_made v us = Some (variable_item v, us)

abbrev written_variable : VariableTree → Option (Item WrittenFunction)
written_variable v = Some (variable_item v)

variable_named : (t : List ℕ) (k : KeptTexts) (w : Bool) (m : List TypeNode) (r : Option (KeptTexts × List Lexeme)) → behind_read t k w m r ≡ completed (variable_so t k w m) r
variable_named t k w m None = refl
variable_named t k w m (Some b) = by (name_behind t)
  where
    by : (o : Option Name) → (o >>= λ n. variable_made (the_variable k w m b.0 n) b.1) ≡ with_rest b.1 ((o >>= λ n. written_variable (the_variable k w m b.0 n)) >>= as_skimmed)
    by None = refl
    by (Some n) = refl

abbrev type_behind : List ℕ → KeptTexts → Bool → Option (List TypeNode × List Lexeme) → Option (SkimmedItem × List Lexeme)
type_behind t k w r = r >>= λ m. behind_read t k w m.0 (read behind_type m.1)

behind_word : (d : ℕ) (t : List ℕ) (k : KeptTexts) (w : Bool) (ts : List Lexeme) → length ts ≤ d
    → type_behind t k w (type_read ts) ≡ completed (λ x. named_variable (t, (k, (w, x))) >>= as_skimmed) (read (pair (memory_type d) behind_type) ts)
behind_word d t k w ts le =
    ap (type_behind t k w) (type_is d ts le)
    ∙ alike (read (memory_type d) ts) _ _ (λ m. variable_named t k w m.0 (read behind_type m.1))
    ∙ sym (first_apart (λ x. named_variable (t, (k, (w, x))) >>= as_skimmed) (memory_type d) behind_type ts)

behind_equal : (d : ℕ) (t : List ℕ) (ts : List Lexeme) → length ts ≤ d
    → (read kept ts >>= λ k. read variable_word k.1 >>= λ w. type_behind t k.0 w.0 (type_read w.1))
    ≡ completed (λ x. named_variable (t, x) >>= as_skimmed) (read (pair kept (pair variable_word (pair (memory_type d) behind_type))) ts)
behind_equal d t ts le =
    let inner = pair (memory_type d) behind_type in
    then_same (read kept ts) _ _ (λ k e1.
    then_same (read variable_word k.1) _ _ (λ w e2.
    let l1 = within kept ts k e1 in
    let l2 = within variable_word k.1 w e2 in
    behind_word d t k.0 w.0 w.1 (omega arith))
    ∙ sym (first_apart (λ x. named_variable (t, (k.0, x)) >>= as_skimmed) variable_word inner k.1))
    ∙ sym (first_apart (λ x. named_variable (t, x) >>= as_skimmed) kept (pair variable_word inner) ts)

pub variable_is : (d : ℕ) (ts : List Lexeme) → length ts ≤ d → variable_read ts ≡ read (mapped as_it_is (variable_definition (memory_type d))) ts
unfolding variable_definition
variable_is d ts le =
    let parts = pair kept (pair variable_word (pair (memory_type d) behind_type)) in
    let inner = after_mark Equal parts in
    then_same (read (one Global) ts) _ _ (λ t e1.
    then_same (read (mark Equal) t.1) _ _ (λ e e2.
    let l1 = within (one Global) ts t e1 in
    let l2 = within (mark Equal) t.1 e e2 in
    behind_equal d t.0 e.1 (omega arith))
    ∙ sym (behind_apart (λ x. named_variable (t.0, x) >>= as_skimmed) (mark Equal) parts t.1))
    ∙ sym (completed_twice named_variable as_skimmed (read (ahead Global inner) ts) ∙ first_apart (λ x. named_variable x >>= as_skimmed) (one Global) inner ts)
