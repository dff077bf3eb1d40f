-- Reading `getelementptr` part after part is reading it whole.
use Rattle.std.proofs.Common.{◌≡◌, ℕ, Bool, false, List, [], ◌∷◌, map, Option, Some, None, refl, sym, ap, ◌∙◌}
use Rattle.text_forms.specs.declared.TokenKind.TheVariants.{Comma}
use Rattle.text_forms.specs.Form.{Lexeme, pair}
use Rattle.text_forms.specs.Reading.{◌>>=◌, nullable, read}
use Rattle.text_forms.specs.Walk.{completed}
use Rattle.ir_types.specs.declared.inst.Ty.TheVariants.{Ptr}
use Rattle.ir_types.specs.Kinds.{Offset}
use Rattle.ir_types.specs.Offsets.{Definitions}
use Rattle.ir_types.specs.TypeNodes.{TypeNode}
use Rattle.ir_types.specs.Tree.{OperandTree, InstTree}
use Rattle.text_forms.specs.Combined.{after_mark, some}
use Rattle.ir_types.specs.TypeForms.{inst_memory, width}
use Rattle.ir_types.specs.FlagForms.{three_flags}
use Rattle.ir_types.specs.InstParts.{pointer_value, index_value}
use Rattle.ir_types.specs.InstForms.{bare_inst, offset_tree, getelementptr}
use Rattle.ir_reader_values.specs.Split.{split_each, behind_both}
use Rattle.ir_reader_values.specs.Split.{as_two}
use Rattle.ir_reader_memory.specs.Offsets.{next_index, indexes_read, steps_read, getelementptr_read}
use Rattle.ir_reader_values.proofs.Chains.{alike, first_apart}

-- pairs as two lists
pub parted : {B C : Type 0} (xs : List (B × C)) → split_each as_two xs ≡ Some (map (λ x. x.0) xs, map (λ x. x.1) xs)
parted [] = refl
parted {B} {C} (x ∷ xs) = ap (λ (o : Option (List B × List C)). o >>= λ q. Some (x.0 ∷ q.0, x.1 ∷ q.1)) (parted xs)

abbrev Flags : Type 0
Flags = Bool × (Bool × Bool)

abbrev whole : Flags → List TypeNode → OperandTree → List (ℕ × OperandTree) → Option InstTree
whole f m p is = Some (offset_tree (f, (m, (p, is))))

abbrev offset_of_steps : Flags → List TypeNode → List ℕ × List OperandTree → InstTree
offset_of_steps f m s = bare_inst (Offset m s.0 f.0 f.1.0 f.1.1) Ptr s.1 []

abbrev steps_before : List Lexeme → Option (List ℕ × List OperandTree) → Option ((List ℕ × List OperandTree) × List Lexeme)
steps_before us o = o >>= λ q. Some (q, us)

behind_pointer : (defs : Definitions) (f : Flags) (m : List TypeNode) (p : OperandTree) (ts : List Lexeme)
    → completed (whole f m p) (read (some (next_index defs)) ts) ≡ (indexes_read defs (p ∷ []) ts >>= λ s. Some (offset_of_steps f m s.0, s.1))
behind_pointer defs f m p ts = by (read (some (next_index defs)) ts)
  where
    by : (r : Option (List (ℕ × OperandTree) × List Lexeme)) → completed (whole f m p) r ≡ (behind_both [] (p ∷ []) (completed (split_each as_two) r) >>= λ s. Some (offset_of_steps f m s.0, s.1))
    by None = refl
    by (Some x) = sym (ap (λ (o : Option (List ℕ × List OperandTree)). behind_both [] (p ∷ []) (steps_before x.1 o) >>= λ s. Some (offset_of_steps f m s.0, s.1)) (parted x.0))

-- the steps, behind their pointer
pub steps_behind : (defs : Definitions) (p : OperandTree) (ts us : List Lexeme) → read (after_mark Comma (pointer_value defs)) ts ≡ Some (p, us) → steps_read defs ts ≡ indexes_read defs (p ∷ []) us
steps_behind defs p ts us e = ap (λ (o : Option (OperandTree × List Lexeme)). o >>= λ p. indexes_read defs (p.0 ∷ []) p.1) e

abbrev then_offset : Flags → List TypeNode → Option ((List ℕ × List OperandTree) × List Lexeme) → Option (InstTree × List Lexeme)
then_offset f m r = r >>= λ s. Some (offset_of_steps f m s.0, s.1)

assoc : {A B C : Type 0} (o : Option A) (g : A → Option B) (h : B → Option C) → ((o >>= g) >>= h) ≡ (o >>= λ a. g a >>= h)
assoc None g h = refl
assoc (Some a) g h = refl

-- `getelementptr` is read part after part
pub getelementptr_is : (defs : Definitions) (ts : List Lexeme) → read (getelementptr defs) ts ≡ getelementptr_read defs ts
unfolding getelementptr
getelementptr_is defs ts =
    let pointer = after_mark Comma (pointer_value defs) in
    let steps = pair pointer (some (next_index defs)) in
    first_apart (λ x. Some (offset_tree x)) three_flags (pair inst_memory steps) ts
    ∙ alike (read three_flags ts) _ _ (λ f.
    first_apart (λ x. Some (offset_tree (f.0, x))) inst_memory steps f.1
    ∙ alike (read inst_memory f.1) _ _ (λ m.
    first_apart (λ x. Some (offset_tree (f.0, (m.0, x)))) pointer (some (next_index defs)) m.1
    ∙ alike (read pointer m.1) _ _ (λ p. behind_pointer defs f.0 m.0 p.0 p.1)
    ∙ sym (assoc (read pointer m.1) (λ p. indexes_read defs (p.0 ∷ []) p.1) (λ s. Some (offset_of_steps f.0 m.0 s.0, s.1)))))

-- an index takes a token
pub next_takes : (defs : Definitions) → nullable (next_index defs) ≡ false
unfolding index_value width
next_takes defs = refl
