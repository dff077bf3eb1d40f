-- Entries of a phi and cases of a switch, read into two lists.
use Rattle.std.proofs.Common.{◌≡◌, ℕ, Bool, true, false, cond, not, ◌&&◌, ◌||◌, eqb, List, [], ◌∷◌, ◌++◌, map, Option, Some, None, refl, sym, ap, ◌∙◌, append_assoc}
use Rattle.std.specs.List.{list_all, list_any}
use Rattle.std.proofs.lemmas.List.{append-nil}
use Rattle.text_forms.specs.declared.TokenKind.TheVariants.{Comma, LeftBracket, RightBracket}
use Rattle.text_forms.specs.Form.{Lexeme, Form, pair, many}
use Rattle.text_forms.specs.Reading.{◌>>=◌, nullable, read}
use Rattle.text_forms.specs.Walk.{completed}
use Rattle.text_forms.specs.Gives.{mark}
use Rattle.ir_types.specs.declared.name.Name.{Name}
use Rattle.ir_types.specs.declared.inst.Ty.{Ty}
use Rattle.ir_types.specs.declared.inst.Ty.TheVariants.{Void}
use Rattle.ir_types.specs.Kinds as kinds
use Rattle.ir_types.specs.Offsets.{Definitions}
use Rattle.ir_types.specs.Tree.{OperandTree, InstTree}
use Rattle.ir_types.specs.Written.{number_at}
use Rattle.text_forms.specs.Combined.{after_mark, between, commas}
use Rattle.ir_types.specs.TypeForms.{width, value_type, local_name}
use Rattle.ir_types.specs.ValueForms.{WrittenValue, operand_at, index_fits, value}
use Rattle.ir_types.specs.InstParts.{index_value, target}
use Rattle.ir_types.specs.InstForms.{entries_at, cases_at, if_wide, bare_inst, entry_of_phi, phi_tree, phi, case_of_switch, switch_tree, switch}
use Rattle.ir_reader_values.specs.Split.{split_each, gathered}
use Rattle.ir_reader_control.specs.Labelled.{entry_at, entry_read, phi_read, case_at, cases_behind, cases_read, switch_read}
use Rattle.ir_reader_values.proofs.Chains.{alike, first_apart, chained, then_made, completed_alike, between_is}

-- one element, and what the others become
abbrev more_split : {B C : Type 0} → Option (B × C) → Option (List B × List C) → Option (List B × List C)
more_split o r = o >>= λ p. r >>= λ q. Some (p.0 ∷ q.0, p.1 ∷ q.1)

-- ---- entries of a phi

abbrev one_entry : Name → Option OperandTree → Option (OperandTree × Name)
one_entry n o = o >>= λ a. Some (a, n)

abbrev with_labels : List (WrittenValue × Name) → Option (List OperandTree) → Option (List OperandTree × List Name)
with_labels es o = o >>= λ args. Some (args, map (λ e. e.1) es)

entries_split : (defs : Definitions) (t : Ty) (es : List (WrittenValue × Name)) → with_labels es (entries_at defs t es) ≡ split_each (entry_at defs t) es
entries_split defs t [] = refl
entries_split defs t (e ∷ es) = by (operand_at defs t e.0) (entries_split defs t es)
  where
    more : (a : OperandTree) (o : Option (List OperandTree)) → with_labels (e ∷ es) (o >>= λ args. Some (a ∷ args)) ≡ (with_labels es o >>= λ q. Some (a ∷ q.0, e.1 ∷ q.1))
    more a None = refl
    more a (Some args) = refl

    by : (o : Option OperandTree) → with_labels es (entries_at defs t es) ≡ split_each (entry_at defs t) es
        → with_labels (e ∷ es) (o >>= λ a. entries_at defs t es >>= λ args. Some (a ∷ args)) ≡ more_split (one_entry e.1 o) (split_each (entry_at defs t) es)
    by None h = refl
    by (Some a) h = more a (entries_at defs t es) ∙ ap (λ (o : Option (List OperandTree × List Name)). o >>= λ q. Some (a ∷ q.0, e.1 ∷ q.1)) h

abbrev phi_of : Ty → List OperandTree × List Name → InstTree
phi_of t q = bare_inst kinds.Phi t q.0 q.1

entries_made : (defs : Definitions) (t : Ty) (es : List (WrittenValue × Name)) → phi_tree defs (t, es) ≡ (split_each (entry_at defs t) es >>= λ q. Some (phi_of t q))
entries_made defs t es = by (entries_at defs t es) ∙ ap (λ (o : Option (List OperandTree × List Name)). o >>= λ q. Some (phi_of t q)) (entries_split defs t es)
  where
    by : (o : Option (List OperandTree)) → (o >>= λ args. Some (bare_inst kinds.Phi t args (map (λ e. e.1) es))) ≡ (with_labels es o >>= λ q. Some (phi_of t q))
    by None = refl
    by (Some args) = refl

-- a phi is read part after part
pub phi_is : (defs : Definitions) (ts : List Lexeme) → read (phi defs) ts ≡ phi_read defs ts
unfolding phi
phi_is defs ts =
    first_apart (phi_tree defs) value_type (commas entry_of_phi) ts
    ∙ alike (read value_type ts) _ _ (λ t.
    completed_alike _ _ (read (commas entry_of_phi) t.1) (entries_made defs t.0)
    ∙ then_made (split_each (entry_at defs t.0)) (phi_of t.0) (read (commas entry_of_phi) t.1))

abbrev with_label : OperandTree → Name → Option (OperandTree × Name)
with_label a n = Some (a, n)

-- an entry
entry_parts : (defs : Definitions) (t : Ty) (ts : List Lexeme) → completed (entry_at defs t) (read (pair value (after_mark Comma local_name)) ts) ≡ (completed (operand_at defs t) (read value ts) >>= λ a. read (after_mark Comma local_name) a.1 >>= λ n. Some ((a.0, n.0), n.1))
entry_parts defs t ts = chained (operand_at defs t) with_label value (after_mark Comma local_name) ts ∙ alike (completed (operand_at defs t) (read value ts)) _ _ (λ a. each a.0 (read (after_mark Comma local_name) a.1))
  where
    each : (a : OperandTree) (o : Option (Name × List Lexeme)) → completed (with_label a) o ≡ (o >>= λ n. Some ((a, n.0), n.1))
    each a None = refl
    each a (Some n) = refl

abbrev before_bracket : Option ((OperandTree × Name) × List Lexeme) → Option ((OperandTree × Name) × List Lexeme)
before_bracket r = r >>= λ x. read (mark RightBracket) x.1 >>= λ e. Some (x.0, e.1)

-- an entry of a phi is read and completed part after part
pub entry_is : (defs : Definitions) (t : Ty) (ts : List Lexeme) → completed (entry_at defs t) (read entry_of_phi ts) ≡ entry_read defs t ts
unfolding entry_of_phi
entry_is defs t ts =
    sym (between_is LeftBracket RightBracket (entry_at defs t) (pair value (after_mark Comma local_name)) ts)
    ∙ alike (read (mark LeftBracket) ts) _ _ (λ o. ap before_bracket (entry_parts defs t o.1) ∙ both (completed (operand_at defs t) (read value o.1)))
  where
    label : (a : OperandTree) (r : Option (Name × List Lexeme)) → before_bracket (r >>= λ n. Some ((a, n.0), n.1)) ≡ (r >>= λ n. read (mark RightBracket) n.1 >>= λ e. Some ((a, n.0), e.1))
    label a None = refl
    label a (Some n) = refl

    both : (r : Option (OperandTree × List Lexeme)) → before_bracket (r >>= λ a. read (after_mark Comma local_name) a.1 >>= λ n. Some ((a.0, n.0), n.1)) ≡ (r >>= λ a. read (after_mark Comma local_name) a.1 >>= λ n. read (mark RightBracket) n.1 >>= λ e. Some ((a.0, n.0), e.1))
    both None = refl
    both (Some a) = label a.0 (read (after_mark Comma local_name) a.1)

-- ---- cases of a switch

abbrev Cases : Type 0
Cases = List ((ℕ × List ℕ) × Name)

abbrev numbers_if : ℕ → Cases → Bool → Option (List ℕ)
numbers_if w cs b = cond b (Some (map (λ c. number_at w c.0.1) cs)) None

-- whether a case is out of range
abbrev is_wide : (ℕ × List ℕ) × Name → Bool
is_wide c = not (index_fits c.0)

abbrev Gathered : Type 0
Gathered = (List ℕ × Bool) × List Name

abbrev of_cases : Cases → Option (List ℕ) → Option Gathered
of_cases cs o = o >>= λ ns. Some ((ns, list_any is_wide cs), map (λ c. c.1) cs)

-- what is made of them
abbrev all_cases : Option (List (ℕ × Bool) × List Name) → Option Gathered
all_cases o = o >>= λ q. Some (cases_behind [] false [] q)

cases_split : (w : ℕ) (cs : Cases) → of_cases cs (cases_at w cs) ≡ all_cases (split_each (case_at w) cs)
cases_split w [] = refl
cases_split w (c ∷ cs) = by (eqb c.0.0 w) (cases_split w cs)
  where
    consed_case : Option Gathered → Option Gathered
    consed_case o = o >>= λ y. Some ((number_at w c.0.1 ∷ y.0.0, is_wide c || y.0.1), c.1 ∷ y.1)

    more : (b : Bool) → of_cases (c ∷ cs) (numbers_if w (c ∷ cs) b) ≡ consed_case (of_cases cs (numbers_if w cs b))
    more true = refl
    more false = refl

    others : (o : Option (List (ℕ × Bool) × List Name)) → consed_case (all_cases o) ≡ all_cases (more_split (Some ((number_at w c.0.1, is_wide c), c.1)) o)
    others None = refl
    others (Some q) = refl

    by : (b : Bool) → of_cases cs (cases_at w cs) ≡ all_cases (split_each (case_at w) cs)
        → of_cases (c ∷ cs) (numbers_if w (c ∷ cs) (b && list_all (λ d. eqb d.0.0 w) cs)) ≡ all_cases (more_split (cond b (Some ((number_at w c.0.1, is_wide c), c.1)) None) (split_each (case_at w) cs))
    by true h = more (list_all (λ d. eqb d.0.0 w) cs) ∙ ap consed_case h ∙ others (split_each (case_at w) cs)
    by false h = refl

abbrev switch_of : ℕ × OperandTree → Gathered → InstTree
switch_of v q = if_wide q.0.1 (bare_inst (kinds.Switch v.0 q.0.0) Void (v.1 ∷ []) q.1)

-- with the label of the default before the others
abbrev with_default : ℕ × OperandTree → Name → List (ℕ × Bool) × List Name → InstTree
with_default v l q = switch_of v (cases_behind [] false (l ∷ []) q)

cases_made : (v : ℕ × OperandTree) (l : Name) (cs : Cases) → switch_tree (v, (l, cs)) ≡ (split_each (case_at v.0) cs >>= λ q. Some (with_default v l q))
cases_made v l cs = by (cases_at v.0 cs) ∙ ap behind_default (cases_split v.0 cs) ∙ each (split_each (case_at v.0) cs)
  where
    behind_default : Option Gathered → Option InstTree
    behind_default o = o >>= λ y. Some (switch_of v (y.0, l ∷ y.1))

    by : (o : Option (List ℕ)) → (o >>= λ ns. Some (if_wide (list_any is_wide cs) (bare_inst (kinds.Switch v.0 ns) Void (v.1 ∷ []) (l ∷ map (λ c. c.1) cs)))) ≡ behind_default (of_cases cs o)
    by None = refl
    by (Some ns) = refl

    each : (o : Option (List (ℕ × Bool) × List Name)) → behind_default (all_cases o) ≡ (o >>= λ q. Some (with_default v l q))
    each None = refl
    each (Some q) = refl

abbrev Numbers : Type 0
Numbers = Option ((List (ℕ × Bool) × List Name) × List Lexeme)

abbrev made_of : ℕ × OperandTree → Name → Numbers → Option (InstTree × List Lexeme)
made_of v l r = r >>= λ x. Some (with_default v l x.0, x.1)

abbrev in_brackets : Form Cases
in_brackets = between LeftBracket RightBracket (many case_of_switch)

cases_in_brackets : (v : ℕ × OperandTree) (l : Name) (ts : List Lexeme)
    → completed (λ cs. switch_tree (v, (l, cs))) (read in_brackets ts) ≡ (read (mark LeftBracket) ts >>= λ o. cases_read v.0 (l ∷ []) o.1 >>= λ c. read (mark RightBracket) c.1 >>= λ e. Some (switch_of v c.0, e.1))
cases_in_brackets v l ts =
    completed_alike _ _ (read in_brackets ts) (cases_made v l)
    ∙ then_made (split_each (case_at v.0)) (with_default v l) (read in_brackets ts)
    ∙ ap (made_of v l) (sym (between_is LeftBracket RightBracket (split_each (case_at v.0)) (many case_of_switch) ts))
    ∙ by (read (mark LeftBracket) ts)
  where
    close : (q : List (ℕ × Bool) × List Name) (o : Option (Unit {0} × List Lexeme)) → made_of v l (o >>= λ e. Some (q, e.1)) ≡ (o >>= λ e. Some (with_default v l q, e.1))
    close q None = refl
    close q (Some e) = refl

    each : (r : Numbers) → made_of v l (r >>= λ x. read (mark RightBracket) x.1 >>= λ e. Some (x.0, e.1)) ≡ (gathered (cases_behind [] false (l ∷ [])) r >>= λ c. read (mark RightBracket) c.1 >>= λ e. Some (switch_of v c.0, e.1))
    each None = refl
    each (Some x) = close x.0 (read (mark RightBracket) x.1)

    by : (o : Option (Unit {0} × List Lexeme)) → made_of v l (o >>= λ m. completed (split_each (case_at v.0)) (read (many case_of_switch) m.1) >>= λ x. read (mark RightBracket) x.1 >>= λ e. Some (x.0, e.1))
        ≡ (o >>= λ m. cases_read v.0 (l ∷ []) m.1 >>= λ c. read (mark RightBracket) c.1 >>= λ e. Some (switch_of v c.0, e.1))
    by None = refl
    by (Some m) = each (completed (split_each (case_at v.0)) (read (many case_of_switch) m.1))

abbrev head_of : ℕ × OperandTree → Option (Name × List Lexeme) → Option (((ℕ × OperandTree) × Name) × List Lexeme)
head_of v o = o >>= λ l. Some ((v, l.0), l.1)

abbrev behind_head : (ℕ × OperandTree) × Name → List Lexeme → Option (InstTree × List Lexeme)
behind_head h ts = read (mark LeftBracket) ts >>= λ o. cases_read h.0.0 (h.1 ∷ []) o.1 >>= λ c. read (mark RightBracket) c.1 >>= λ e. Some (switch_of h.0 c.0, e.1)

-- a switch is read part after part
pub switch_is : (defs : Definitions) (ts : List Lexeme) → read (switch defs) ts ≡ switch_read defs ts
unfolding switch
switch_is defs ts =
    first_apart switch_tree (index_value defs) (pair (after_mark Comma target) in_brackets) ts
    ∙ alike (read (index_value defs) ts) _ _ (λ v.
    first_apart (λ x. switch_tree (v.0, x)) (after_mark Comma target) in_brackets v.1
    ∙ alike (read (after_mark Comma target) v.1) _ _ (λ l. cases_in_brackets v.0 l.0 l.1))
    ∙ by (read (index_value defs) ts)
  where
    each : (v : ℕ × OperandTree) (o : Option (Name × List Lexeme)) → (o >>= λ l. behind_head (v, l.0) l.1) ≡ (head_of v o >>= λ h. behind_head h.0 h.1)
    each v None = refl
    each v (Some l) = refl

    by : (o : Option ((ℕ × OperandTree) × List Lexeme)) → (o >>= λ v. read (after_mark Comma target) v.1 >>= λ l. behind_head (v.0, l.0) l.1) ≡ ((o >>= λ v. head_of v.0 (read (after_mark Comma target) v.1)) >>= λ h. behind_head h.0 h.1)
    by None = refl
    by (Some v) = each v.0 (read (after_mark Comma target) v.1)

-- a case takes a token
pub case_takes : nullable case_of_switch ≡ false
unfolding case_of_switch width
case_takes = refl

-- one case more behind others
pub one_behind : (ns : List ℕ) (wide : Bool) (ls : List Name) (n : ℕ) (b : Bool) (l : Name) (q : List (ℕ × Bool) × List Name) → cases_behind ns wide ls ((n, b) ∷ q.0, l ∷ q.1) ≡ cases_behind (ns ++ n ∷ []) (wide || b) (ls ++ l ∷ []) q
one_behind ns wide ls n b l q =
    ap (λ (x : List ℕ). ((x, wide || (b || list_any (λ n. n.1) q.0)), ls ++ (l ∷ q.1))) (sym (append_assoc ns (n ∷ []) (map (λ n. n.0) q.0)))
    ∙ ap (λ (x : Bool). (((ns ++ n ∷ []) ++ map (λ n. n.0) q.0, x), ls ++ (l ∷ q.1))) (or_assoc wide b (list_any (λ n. n.1) q.0))
    ∙ ap (λ (x : List Name). (((ns ++ n ∷ []) ++ map (λ n. n.0) q.0, (wide || b) || list_any (λ n. n.1) q.0), x)) (sym (append_assoc ls (l ∷ []) q.1))
  where
    or_assoc : (x y z : Bool) → (x || (y || z)) ≡ ((x || y) || z)
    or_assoc true y z = refl
    or_assoc false y z = refl

-- no case behind them
pub none_behind : (ns : List ℕ) (wide : Bool) (ls : List Name) → cases_behind ns wide ls ([], []) ≡ ((ns, wide), ls)
none_behind ns wide ls =
    ap (λ (x : List ℕ). ((x, wide || false), ls ++ [])) (append-nil ns)
    ∙ ap (λ (x : Bool). ((ns, x), ls ++ [])) (or_false wide)
    ∙ ap (λ (x : List Name). ((ns, wide), x)) (append-nil ls)
  where
    or_false : (x : Bool) → (x || false) ≡ x
    or_false true = refl
    or_false false = refl
