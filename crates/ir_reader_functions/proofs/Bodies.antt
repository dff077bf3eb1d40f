-- Reading a function part after part is reading it whole.
use Rattle.std.proofs.Common.{◌≡◌, ℕ, Bool, false, List, [], Option, Some, None, refl, sym, ap, ◌∙◌}
use Rattle.text_forms.specs.declared.TokenKind.TheVariants.{LeftParen, RightParen, LeftBrace, RightBrace}
use Rattle.text_forms.specs.Form.{Lexeme, Form, pair}
use Rattle.text_forms.specs.Reading.{◌>>=◌, read}
use Rattle.text_forms.specs.Walk.{walk, completed}
use Rattle.text_forms.specs.Kept.{attachments}
use Rattle.text_forms.specs.Nested.{joined}
use Rattle.ir_types.specs.declared.name.Name.{Name}
use Rattle.ir_types.specs.declared.inst.Ty.{Ty}
use Rattle.ir_types.specs.Tree.{KeptTexts, ParamTree, BlockTree, FunctionTree, WrittenParam, WrittenBlock}
use Rattle.text_forms.specs.Combined.{list, some, between}
use Rattle.ir_types.specs.TypeForms.{return_type, global_name}
use Rattle.ir_types.specs.Words.{kept}
use Rattle.ir_types.specs.FunctionForms.{parameter, dotted_parameters, block, declared_tree, declared_function, defined_tree, defined_function}
use Rattle.ir_types.specs.Numbered.{numbered_param, numbered_block, numbered_function}
use Rattle.ir_types.specs.Offsets.{Definitions}
use Rattle.ir_reader_values.specs.Between.{between_read}
use Rattle.ir_reader_functions.specs.Functions.{numbered_dotted, declared_read, defined_read}
use Rattle.ir_reader_values.proofs.Chains.{alike, first_apart, chained, then_made, between_is, completed_mapped, completed_alike}

-- ---- declared functions

abbrev dotted_in_parens : Form (List WrittenParam × Bool)
dotted_in_parens = between LeftParen RightParen dotted_parameters

abbrev declared_of : KeptTexts → Ty → Name → (List ParamTree × Bool) × ℕ → KeptTexts → Option FunctionTree
declared_of b t n p a = Some (record { name = n; before = b; ret = t; params = p.0.0; varargs = p.0.1; after = a; body = [] })

abbrev beside_dots : Bool → Option (List ParamTree × ℕ) → Option ((List ParamTree × Bool) × ℕ)
beside_dots d o = o >>= λ y. Some ((y.0, d), y.1)

declared_numbers : (b : KeptTexts) (t : Ty) (n : Name) (x : (List WrittenParam × Bool) × KeptTexts) → numbered_function (declared_tree (b, (t, (n, x)))) ≡ (numbered_dotted 0 x.0 >>= λ p. declared_of b t n p x.1)
declared_numbers b t n x = by (walk numbered_param 0 x.0.0)
  where
    by : (o : Option (List ParamTree × ℕ)) → (o >>= λ y. declared_of b t n ((y.0, x.0.1), y.1) x.1) ≡ (beside_dots x.0.1 o >>= λ p. declared_of b t n p x.1)
    by None = refl
    by (Some y) = refl

behind_declared : (b : KeptTexts) (t : Ty) (n : Name) (ts : List Lexeme)
    → (between_read LeftParen RightParen (numbered_dotted 0) (read dotted_parameters) ts >>= λ p. completed (declared_of b t n p.0) (read kept p.1))
    ≡ completed (λ x. numbered_function (declared_tree (b, (t, (n, x))))) (read (pair dotted_in_parens kept) ts)
behind_declared b t n ts =
    ap (λ (o : Option _). o >>= λ p. completed (declared_of b t n p.0) (read kept p.1)) (between_is LeftParen RightParen (numbered_dotted 0) dotted_parameters ts)
    ∙ sym (completed_alike _ _ (read (pair dotted_in_parens kept) ts) (declared_numbers b t n) ∙ chained (numbered_dotted 0) (declared_of b t n) dotted_in_parens kept ts)

pub declared_is : (ts : List Lexeme) → declared_read ts ≡ completed numbered_function (read declared_function ts)
unfolding declared_function
declared_is ts =
    let inner = pair dotted_in_parens kept in
    let named = pair global_name inner in
    let typed = pair return_type named in
    let front = joined attachments kept in
    alike (read front ts) _ _ (λ b.
    alike (read return_type b.1) _ _ (λ t.
    alike (read global_name t.1) _ _ (λ n. behind_declared b.0 t.0 n.0 n.1)
    ∙ sym (first_apart (λ x. numbered_function (declared_tree (b.0, (t.0, x)))) global_name inner t.1))
    ∙ sym (first_apart (λ x. numbered_function (declared_tree (b.0, x))) return_type named b.1))
    ∙ sym (completed_mapped numbered_function declared_tree (pair front typed) ts ∙ first_apart (λ x. numbered_function (declared_tree x)) front typed ts)

-- ---- defined functions

abbrev in_parens : Form (List WrittenParam)
in_parens = between LeftParen RightParen (list parameter)

abbrev in_braces : Definitions → Form (List WrittenBlock)
in_braces defs = between LeftBrace RightBrace (some (block defs))

abbrev defined_of : KeptTexts → Ty → Name → List ParamTree → KeptTexts → List BlockTree × ℕ → FunctionTree
defined_of b t n ps a k = record { name = n; before = b; ret = t; params = ps; varargs = false; after = a; body = k.0 }

abbrev with_blocks : KeptTexts → Ty → Name → List ParamTree × ℕ → KeptTexts × List WrittenBlock → Option FunctionTree
with_blocks b t n p x = walk numbered_block p.1 x.1 >>= λ k. Some (defined_of b t n p.0 x.0 k)

behind_params : (defs : Definitions) (b : KeptTexts) (t : Ty) (n : Name) (p : List ParamTree × ℕ) (ts : List Lexeme)
    → (read (joined kept attachments) ts >>= λ a. between_read LeftBrace RightBrace (walk numbered_block p.1) (read (some (block defs))) a.1 >>= λ k. Some (defined_of b t n p.0 a.0 k.0, k.1))
    ≡ completed (with_blocks b t n p) (read (pair (joined kept attachments) (in_braces defs)) ts)
behind_params defs b t n p ts =
    alike (read (joined kept attachments) ts) _ _ (λ a.
    ap (λ (o : Option _). o >>= λ k. Some (defined_of b t n p.0 a.0 k.0, k.1)) (between_is LeftBrace RightBrace (walk numbered_block p.1) (some (block defs)) a.1)
    ∙ sym (then_made (walk numbered_block p.1) (defined_of b t n p.0 a.0) (read (in_braces defs) a.1)))
    ∙ sym (first_apart (with_blocks b t n p) (joined kept attachments) (in_braces defs) ts)

behind_defined : (defs : Definitions) (b : KeptTexts) (t : Ty) (n : Name) (ts : List Lexeme)
    → (between_read LeftParen RightParen (walk numbered_param 0) (read (list parameter)) ts >>= λ p. completed (with_blocks b t n p.0) (read (pair (joined kept attachments) (in_braces defs)) p.1))
    ≡ completed (λ x. numbered_function (defined_tree (b, (t, (n, x))))) (read (pair in_parens (pair (joined kept attachments) (in_braces defs))) ts)
behind_defined defs b t n ts =
    ap (λ (o : Option _). o >>= λ p. completed (with_blocks b t n p.0) (read (pair (joined kept attachments) (in_braces defs)) p.1)) (between_is LeftParen RightParen (walk numbered_param 0) (list parameter) ts)
    ∙ sym (chained (walk numbered_param 0) (with_blocks b t n) in_parens (pair (joined kept attachments) (in_braces defs)) ts)

pub defined_is : (defs : Definitions) (ts : List Lexeme) → defined_read defs ts ≡ completed numbered_function (read (defined_function defs) ts)
unfolding defined_function
defined_is defs ts =
    let inner = pair in_parens (pair (joined kept attachments) (in_braces defs)) in
    let named = pair global_name inner in
    let typed = pair return_type named in
    alike (read kept ts) _ _ (λ b.
    alike (read return_type b.1) _ _ (λ t.
    alike (read global_name t.1) _ _ (λ n.
    alike (between_read LeftParen RightParen (walk numbered_param 0) (read (list parameter)) n.1) _ _ (λ p. behind_params defs b.0 t.0 n.0 p.0 p.1)
    ∙ behind_defined defs b.0 t.0 n.0 n.1)
    ∙ sym (first_apart (λ x. numbered_function (defined_tree (b.0, (t.0, x)))) global_name inner t.1))
    ∙ sym (first_apart (λ x. numbered_function (defined_tree (b.0, x))) return_type named b.1))
    ∙ sym (completed_mapped numbered_function defined_tree (pair kept typed) ts ∙ first_apart (λ x. numbered_function (defined_tree x)) kept typed ts)

-- the parts, where each is read
pub defined_found : (defs : Definitions) (b : KeptTexts) (t : Ty) (n : Name) (ps : List ParamTree) (next : ℕ) (a : KeptTexts) (k : List BlockTree × ℕ) (ts us vs ws xs ys zs : List Lexeme)
    → read kept ts ≡ Some (b, us) → read return_type us ≡ Some (t, vs) → read global_name vs ≡ Some (n, ws) → between_read LeftParen RightParen (walk numbered_param 0) (read (list parameter)) ws ≡ Some ((ps, next), xs)
    → read (joined kept attachments) xs ≡ Some (a, ys) → between_read LeftBrace RightBrace (walk numbered_block next) (read (some (block defs))) ys ≡ Some (k, zs) → defined_read defs ts ≡ Some (defined_of b t n ps a k, zs)
defined_found defs b t n ps next a k ts us vs ws xs ys zs before ret name params after body = rw (before, ret, name, params, after, body) refl
