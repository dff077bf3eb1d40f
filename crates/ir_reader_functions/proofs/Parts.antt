-- Reading a block part after part is reading it whole.
use Rattle.std.proofs.Common.{◌≡◌, ℕ, List, [], ◌∷◌, ◌++◌, Option, Some, None, refl, sym, ap, ◌∙◌}
use Rattle.text_forms.specs.Form.{Lexeme, pair, optional, many}
use Rattle.text_forms.specs.Reading.{◌>>=◌, read}
use Rattle.text_forms.specs.Walk.{walk, completed}
use Rattle.ir_types.specs.declared.name.Name.{Name}
use Rattle.ir_types.specs.Offsets.{Definitions}
use Rattle.ir_types.specs.Tree.{InstTree, BlockTree}
use Rattle.ir_types.specs.TypeForms.{label}
use Rattle.ir_types.specs.InstForms.{operation, terminator}
use Rattle.ir_types.specs.FunctionForms.{line, block, block_tree}
use Rattle.ir_types.specs.Numbered.{named, numbered_inst, numbered_block}
use Rattle.ir_reader_functions.specs.Blocks.{block_read}
use Rattle.ir_reader_values.proofs.Chains.{alike, chained, then_made, completed_mapped, completed_alike}

abbrev last_one : {S A B : Type 0} → (S → A → Option (B × S)) → A → Option (List B × S) → Option (List B × S)
last_one step x o = o >>= λ p. step p.1 x >>= λ q. Some (p.0 ++ q.0 ∷ [], q.1)

abbrev before : {S B : Type 0} → B → Option (List B × S) → Option (List B × S)
before b o = o >>= λ q. Some (b ∷ q.0, q.1)

last_before : {S A B : Type 0} (step : S → A → Option (B × S)) (x : A) (b : B) (o : Option (List B × S)) → before b (last_one step x o) ≡ last_one step x (before b o)
last_before step x b None = refl
last_before {S} {A} {B} step x b (Some p) = by (step p.1 x)
  where
    by : (o : Option (B × S)) → before b (o >>= λ q. Some (p.0 ++ q.0 ∷ [], q.1)) ≡ (o >>= λ q. Some ((b ∷ p.0) ++ q.0 ∷ [], q.1))
    by None = refl
    by (Some q) = refl

-- a walk over one element more
pub walk-push : {S A B : Type 0} (step : S → A → Option (B × S)) (s : S) (xs : List A) (x : A) → walk step s (xs ++ x ∷ []) ≡ last_one step x (walk step s xs)
walk-push {S} {A} {B} step s [] x = refl
walk-push {S} {A} {B} step s (a ∷ more) x = by (λ t. walk-push step t more x) (step s a)
  where
    by : ((t : S) → walk step t (more ++ x ∷ []) ≡ last_one step x (walk step t more)) → (o : Option (B × S)) → (o >>= λ p. before p.0 (walk step p.1 (more ++ x ∷ []))) ≡ last_one step x (o >>= λ p. before p.0 (walk step p.1 more))
    by h None = refl
    by h (Some p) = ap (before p.0) (h p.1) ∙ last_before step x p.0 (walk step p.1 more)

-- ---- blocks

abbrev block_of : Name → List InstTree → InstTree × ℕ → BlockTree × ℕ
block_of n is l = (record { name = n; insts = is ++ l.0 ∷ [] }, l.1)

-- the last one's number, behind the others
abbrev with_last : Name → List InstTree × ℕ → InstTree → Option (BlockTree × ℕ)
with_last n i x = numbered_inst i.1 x >>= λ l. Some (block_of n i.0 l)

-- the numbers of the instructions, behind the name
abbrev behind_name : Name × ℕ → List InstTree × InstTree → Option (BlockTree × ℕ)
behind_name n c = walk numbered_inst n.1 (c.0 ++ c.1 ∷ []) >>= λ y. Some (record { name = n.0; insts = y.0 }, y.1)

abbrev named_block : Name → Option (List InstTree × ℕ) → Option (BlockTree × ℕ)
named_block n o = o >>= λ y. Some (record { name = n; insts = y.0 }, y.1)

last_numbers : (n : Name × ℕ) (c : List InstTree × InstTree) → behind_name n c ≡ (walk numbered_inst n.1 c.0 >>= λ i. with_last n.0 i c.1)
last_numbers n c = ap (named_block n.0) (walk-push numbered_inst n.1 c.0 c.1) ∙ by (walk numbered_inst n.1 c.0)
  where
    each : (is : List InstTree) (o : Option (InstTree × ℕ)) → named_block n.0 (o >>= λ q. Some (is ++ q.0 ∷ [], q.1)) ≡ (o >>= λ l. Some (block_of n.0 is l))
    each is None = refl
    each is (Some q) = refl

    by : (o : Option (List InstTree × ℕ)) → named_block n.0 (last_one numbered_inst c.1 o) ≡ (o >>= λ i. with_last n.0 i c.1)
    by None = refl
    by (Some i) = each i.0 (numbered_inst i.1 c.1)

pub block_is : (defs : Definitions) (next : ℕ) (ts : List Lexeme) → block_read defs next ts ≡ completed (numbered_block next) (read (block defs) ts)
unfolding block
block_is defs next ts =
    let insts = many (line (operation defs)) in
    let last = line (terminator defs) in
    alike (completed (named next) (read (optional label) ts)) _ _ (λ n.
    alike (completed (walk numbered_inst n.0.1) (read insts n.1)) _ _ (λ i. sym (then_made (numbered_inst i.0.1) (block_of n.0.0 i.0.0) (read last i.1)))
    ∙ sym (completed_alike (behind_name n.0) _ (read (pair insts last) n.1) (last_numbers n.0) ∙ chained (walk numbered_inst n.0.1) (with_last n.0.0) insts last n.1))
    ∙ sym (completed_mapped (numbered_block next) block_tree (pair (optional label) (pair insts last)) ts ∙ chained (named next) behind_name (optional label) (pair insts last) ts)

-- the parts, where each is read
pub block_found : (defs : Definitions) (next : ℕ) (n : Name × ℕ) (i : List InstTree × ℕ) (l : InstTree × ℕ) (ts us vs ws : List Lexeme)
    → completed (named next) (read (optional label) ts) ≡ Some (n, us) → completed (walk numbered_inst n.1) (read (many (line (operation defs))) us) ≡ Some (i, vs) → completed (numbered_inst i.1) (read (line (terminator defs)) vs) ≡ Some (l, ws)
    → block_read defs next ts ≡ Some (block_of n.0 i.0 l, ws)
block_found defs next n i l ts us vs ws first others last = rw (first, others, last) refl

-- the instructions before the last are not read
pub insts_refused : (defs : Definitions) (next : ℕ) (n : Name × ℕ) (ts us : List Lexeme)
    → completed (named next) (read (optional label) ts) ≡ Some (n, us) → completed (walk numbered_inst n.1) (read (many (line (operation defs))) us) ≡ None → block_read defs next ts ≡ None
insts_refused defs next n ts us first others = rw (first, others) refl

-- the last one is not read
pub last_refused : (defs : Definitions) (next : ℕ) (n : Name × ℕ) (i : List InstTree × ℕ) (ts us vs : List Lexeme)
    → completed (named next) (read (optional label) ts) ≡ Some (n, us) → completed (walk numbered_inst n.1) (read (many (line (operation defs))) us) ≡ Some (i, vs) → completed (numbered_inst i.1) (read (line (terminator defs)) vs) ≡ None
    → block_read defs next ts ≡ None
last_refused defs next n i ts us vs first others last = rw (first, others, last) refl
