-- Reading a call part after part is reading it whole.
use Rattle.std.proofs.Common.{◌≡◌, Bool, true, false, cond, List, [], map, Option, Some, None, refl, sym, ap, ◌∙◌}
use Rattle.text_forms.specs.declared.TokenKind.TheVariants.{LeftParen, RightParen}
use Rattle.text_forms.specs.Form.{Lexeme, Form, pair, optional}
use Rattle.text_forms.specs.Reading.{◌>>=◌, opens, read}
use Rattle.text_forms.specs.Walk.{completed}
use Rattle.ir_types.specs.declared.name.Name.{Name}
use Rattle.ir_types.specs.declared.inst.Ty.{Ty}
use Rattle.ir_types.specs.declared.call.Actual.{Actual}
use Rattle.ir_types.specs.declared.call.Signature.{Signature}
use Rattle.ir_types.specs.declared.call.TailKind.{TailKind}
use Rattle.ir_types.specs.Kinds.{Call}
use Rattle.ir_types.specs.Offsets.{Definitions}
use Rattle.ir_types.specs.Tree.{KeptTexts, OperandTree, InstTree}
use Rattle.text_forms.specs.Combined.{between, commas, list, or_none}
use Rattle.ir_types.specs.TypeForms.{value_type, vector_type, width, return_type, global_name}
use Rattle.ir_types.specs.ValueForms.{operand_at, value}
use Rattle.ir_types.specs.Words.{kept}
use Rattle.ir_types.specs.InstForms.{actual_at, bare_inst, signature, argument, call_tree, call}
use Rattle.ir_reader_values.specs.Split.{split_each}
use Rattle.ir_reader_values.specs.Split.{as_two}
use Rattle.ir_reader_memory.specs.Calls.{argument_read, arguments_read, call_read}
use Rattle.ir_reader_values.proofs.Chains.{alike, first_apart, then_made, between_is}
use Rattle.ir_reader_memory.proofs.Offsets.{parted}

-- ---- arguments

abbrev actual_of : Ty → KeptTexts → OperandTree → Actual × OperandTree
actual_of t k a = (record { ty = t; kept = k }, a)

-- an argument is read part after part
pub argument_is : (defs : Definitions) (ts : List Lexeme) → read (argument defs) ts ≡ argument_read defs ts
unfolding argument
argument_is defs ts =
    first_apart (actual_at defs) value_type (pair kept value) ts
    ∙ alike (read value_type ts) _ _ (λ t.
    first_apart (λ y. actual_at defs (t.0, y)) kept value t.1
    ∙ alike (read kept t.1) _ _ (λ k. then_made (operand_at defs t.0) (actual_of t.0 k.0) (read value k.1)))

abbrev Arguments : Type 0
Arguments = Option (List (Actual × OperandTree) × List Lexeme)

abbrev some_of : Arguments → Option (Option (List (Actual × OperandTree)) × List Lexeme)
some_of r = r >>= λ x. Some (Some x.0, x.1)

abbrev all_of : Option (Option (List (Actual × OperandTree)) × List Lexeme) → Arguments
all_of r = r >>= λ x. Some (or_none x.0, x.1)

same : (r : Arguments) → all_of (some_of r) ≡ r
same None = refl
same (Some x) = refl

-- where an argument stands next, there are some
pub list_some : (defs : Definitions) (ts : List Lexeme) → opens value_type ts ≡ true → read (list (argument defs)) ts ≡ read (commas (argument defs)) ts
unfolding argument value_type vector_type width
list_some defs ts e = ap (λ (b : Bool). all_of (cond b (some_of (read (commas (argument defs)) ts)) (Some (None, ts)))) e ∙ same (read (commas (argument defs)) ts)

-- and none elsewhere
pub list_none : (defs : Definitions) (ts : List Lexeme) → opens value_type ts ≡ false → read (list (argument defs)) ts ≡ Some ([], ts)
unfolding argument value_type vector_type width
list_none defs ts e = ap (λ (b : Bool). all_of (cond b (some_of (read (commas (argument defs)) ts)) (Some (None, ts)))) e

-- ---- calls

abbrev in_parens : Definitions → Form (List (Actual × OperandTree))
in_parens defs = between LeftParen RightParen (list (argument defs))

module _ (tail : TailKind) (b : KeptTexts) (t : Ty) (s : Option Signature) (n : Name) where
  -- the call, of its arguments and what is kept behind them
  abbrev pub call_of : List Actual × List OperandTree → KeptTexts → InstTree
  call_of p a = bare_inst (Call (record { tail = tail; before = b; signature = s; name = n; actuals = p.0; after = a })) t p.1 []

  abbrev whole : List (Actual × OperandTree) × KeptTexts → Option InstTree
  whole x = Some (call_tree tail (b, (t, (s, (n, x)))))

  abbrev parted_before : List Lexeme → Option (List Actual × List OperandTree) → Option ((List Actual × List OperandTree) × List Lexeme)
  parted_before us o = o >>= λ q. Some (q, us)

  behind_name : (defs : Definitions) (ts : List Lexeme) → completed whole (read (pair (in_parens defs) kept) ts) ≡ (arguments_read defs ts >>= λ p. read kept p.1 >>= λ a. Some (call_of p.0 a.0, a.1))
  behind_name defs ts =
      first_apart whole (in_parens defs) kept ts
      ∙ by (read (in_parens defs) ts)
      ∙ ap (λ (o : Option _). o >>= λ p. read kept p.1 >>= λ a. Some (call_of p.0 a.0, a.1)) (sym (between_is LeftParen RightParen (split_each as_two) (list (argument defs)) ts))
    where
      kept_behind : (x : List (Actual × OperandTree)) (o : Option (KeptTexts × List Lexeme)) → completed (λ a. whole (x, a)) o ≡ (o >>= λ a. Some (call_of (map (λ y. y.0) x, map (λ y. y.1) x) a.0, a.1))
      kept_behind x None = refl
      kept_behind x (Some a) = refl

      by : (r : Option (List (Actual × OperandTree) × List Lexeme)) → (r >>= λ x. completed (λ a. whole (x.0, a)) (read kept x.1)) ≡ (completed (split_each as_two) r >>= λ p. read kept p.1 >>= λ a. Some (call_of p.0 a.0, a.1))
      by None = refl
      by (Some x) =
          kept_behind x.0 (read kept x.1)
          ∙ sym (ap (λ (o : Option (List Actual × List OperandTree)). parted_before x.1 o >>= λ p. read kept p.1 >>= λ a. Some (call_of p.0 a.0, a.1)) (parted x.0))

-- a call is read part after part
pub call_is : (defs : Definitions) (tail : TailKind) (ts : List Lexeme) → read (call defs tail) ts ≡ call_read defs tail ts
unfolding call
call_is defs tail ts =
    let inner = pair (in_parens defs) kept in
    let named = pair global_name inner in
    let signed = pair (optional signature) named in
    let typed = pair return_type signed in
    first_apart (λ x. Some (call_tree tail x)) kept typed ts
    ∙ alike (read kept ts) _ _ (λ b.
    first_apart (λ x. Some (call_tree tail (b.0, x))) return_type signed b.1
    ∙ alike (read return_type b.1) _ _ (λ t.
    first_apart (λ x. Some (call_tree tail (b.0, (t.0, x)))) (optional signature) named t.1
    ∙ alike (read (optional signature) t.1) _ _ (λ s.
    first_apart (λ x. Some (call_tree tail (b.0, (t.0, (s.0, x))))) global_name inner s.1
    ∙ alike (read global_name s.1) _ _ (λ n. behind_name tail b.0 t.0 s.0 n.0 defs n.1))))

-- a call, of what its parts are read as
pub call_reads : (defs : Definitions) (tail : TailKind) (b a : KeptTexts) (t : Ty) (s : Option Signature) (n : Name) (p : List Actual × List OperandTree) (ts at_type at_signature at_name at_arguments behind rest : List Lexeme)
    → read kept ts ≡ Some (b, at_type) → read return_type at_type ≡ Some (t, at_signature) → read (optional signature) at_signature ≡ Some (s, at_name) → read global_name at_name ≡ Some (n, at_arguments)
    → arguments_read defs at_arguments ≡ Some (p, behind) → read kept behind ≡ Some (a, rest)
    → read (call defs tail) ts ≡ Some (call_of tail b t s n p a, rest)
call_reads defs tail b a t s n p ts at_type at_signature at_name at_arguments behind rest before type sign name arguments after =
    call_is defs tail ts ∙ rw before (rw type (rw sign (rw name (rw arguments (rw after refl)))))
