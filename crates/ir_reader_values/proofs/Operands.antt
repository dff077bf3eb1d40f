-- Reading operands part after part is reading them whole.
use Rattle.std.proofs.Common.{◌≡◌, ◌<◌, ℕ, Bool, false, cond, List, length, get_or, map, codes, Option, Some, None, sym, ap, ◌∙◌}
use Rattle.std.specs.List.{list_all}
use Rattle.std.proofs.lemmas.List.Folds.{list_all-map, list_all_at}
use Rattle.text_forms.specs.declared.TokenKind.TheVariants.{Word, Comma}
use Rattle.text_forms.specs.Form.{Lexeme, Form, exactly, mapped, pair}
use Rattle.text_forms.specs.Reading.{◌>>=◌, read}
use Rattle.text_forms.specs.Gives.{mark}
use Rattle.text_forms.specs.Walk.{completed}
use Rattle.ir_types.specs.declared.inst.Ty.{Ty}
use Rattle.ir_types.specs.declared.inst.Ty.TheVariants.{Int, Ptr}
use Rattle.ir_types.specs.Offsets.{Definitions}
use Rattle.ir_types.specs.Tree.{OperandTree}
use Rattle.text_forms.specs.Combined.{after_mark}
use Rattle.ir_types.specs.TypeForms.{width, value_type}
use Rattle.ir_types.specs.ValueForms.{WrittenValue, lane_at, is_int, operand_at, value}
use Rattle.ir_types.specs.InstParts.{two_values, typed_value, both_at, typed_pair, pointer_value, index_value}
use Rattle.ir_reader_values.specs.declared.lanes.Lane.{Lane}
use Rattle.ir_reader_values.specs.View.{typed_lane_in, lanes_in}
use Rattle.ir_reader_values.specs.Operands.{lanes_of_width, typed_value_read, typed_pair_read, pointer_read, index_read}
use Rattle.ir_reader_values.proofs.Chains.{alike, first_apart, chained, then_made, completed_mapped}

-- one lane is not of the width
pub other_width : (w : ℕ) (xs : List (Ty × Lane)) (i : ℕ) (d : Ty × Lane) → i < length xs → is_int w (get_or xs i d).0 ≡ false → lanes_of_width w (lanes_in xs) ≡ None
other_width w xs i d lt e =
    ap (λ (b : Bool). cond b (Some (map (λ x. lane_at w x.1) (lanes_in xs))) None) (list_all-map (λ x. is_int w x.0) typed_lane_in xs ∙ list_all_at (λ x. is_int w x.0) xs i d lt e)

-- one of those that are made does not hold
pub one_fails : {A B : Type 0} (p : B → Bool) (f : A → B) (xs : List A) (i : ℕ) (d : A) → i < length xs → p (f (get_or xs i d)) ≡ false → list_all p (map f xs) ≡ false
one_fails p f xs i d lt e = list_all-map p f xs ∙ list_all_at (λ x. p (f x)) xs i d lt e

-- what stands behind something that is not kept
pub behind_apart : {A B C : Type 0} (f : B → Option C) (g : Form A) (h : Form B) (ts : List Lexeme) → completed f (read (mapped (λ x. x.1) (pair g h)) ts) ≡ (read g ts >>= λ u. completed f (read h u.1))
behind_apart f g h ts = completed_mapped f (λ x. x.1) (pair g h) ts ∙ first_apart (λ x. f x.1) g h ts

-- the second part is completed by the first
pub by_first : {A B C D : Type 0} (f : A → B → Option C) (m : A → C → D) (g : Form A) (h : Form B) (ts : List Lexeme)
    → completed (λ x. f x.0 x.1 >>= λ c. Some (m x.0 c)) (read (pair g h) ts) ≡ (read g ts >>= λ a. completed (f a.0) (read h a.1) >>= λ c. Some (m a.0 c.0, c.1))
by_first f m g h ts = first_apart (λ x. f x.0 x.1 >>= λ c. Some (m x.0 c)) g h ts ∙ alike (read g ts) _ _ (λ a. then_made (f a.0) (m a.0) (read h a.1))

-- a type and a value are read one after the other
pub typed_value_is : (defs : Definitions) (ts : List Lexeme) → read (typed_value defs) ts ≡ typed_value_read defs ts
unfolding typed_value
typed_value_is defs ts = by_first (operand_at defs) (λ t a. (t, a)) value_type value ts

-- so are a width and a value
pub index_is : (defs : Definitions) (ts : List Lexeme) → read (index_value defs) ts ≡ index_read defs ts
unfolding index_value
index_is defs ts = by_first (λ w. operand_at defs (Int w)) (λ w a. (w, a)) width value ts

-- so are `ptr` and a value
pub pointer_is : (defs : Definitions) (ts : List Lexeme) → read (pointer_value defs) ts ≡ pointer_read defs ts
unfolding pointer_value
pointer_is defs ts = behind_apart (operand_at defs Ptr) (exactly Word (codes "ptr")) value ts

abbrev second_at : Definitions → Ty → OperandTree → WrittenValue → Option (Ty × (OperandTree × OperandTree))
second_at defs t a x = operand_at defs t x >>= λ b. Some (t, (a, b))

-- so are a type and two values
pub typed_pair_is : (defs : Definitions) (ts : List Lexeme) → read (typed_pair defs) ts ≡ typed_pair_read defs ts
unfolding typed_pair
typed_pair_is defs ts =
    first_apart (both_at defs) value_type two_values ts
    ∙ alike (read value_type ts) _ _ (λ t.
    chained (operand_at defs t.0) (second_at defs t.0) value (after_mark Comma value) t.1
    ∙ alike (completed (operand_at defs t.0) (read value t.1)) _ _ (λ a.
    behind_apart (second_at defs t.0 a.0) (mark Comma) value a.1
    ∙ alike (read (mark Comma) a.1) _ _ (λ c. then_made (operand_at defs t.0) (λ b. (t.0, (a.0, b))) (read value c.1))))

-- the same by other definitions that are the same
pub by_definitions : {A : Type 0} (f : Definitions → Form A) (d e : Definitions) (ts : List Lexeme) → e ≡ d → read (f d) ts ≡ read (f e) ts
by_definitions f d e ts same = ap (λ (d : Definitions). read (f d) ts) (sym same)
