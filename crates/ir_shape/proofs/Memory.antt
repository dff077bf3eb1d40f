-- What is known of memory types that tokens spell.
use Rattle.std.proofs.Common.{◌≡◌, ◌<◌, ◌^◌, ℕ, zero, suc, Bool, true, false, cond, eqb, List, [], ◌∷◌, ◌++◌, length, Some, None, append_assoc, refl, sym, subst, arith}
use Rattle.std.specs.Prelude.{nat_lt}
use Rattle.std.specs.List.{AllByRecursion}
use Rattle.std.proofs.lemmas.Bool.Decides.{nat_tests}
use Rattle.std.proofs.lemmas.List.{append-nil}
use Rattle.std.proofs.lemmas.Option.{cond_some}
use Rattle.text_forms.specs.declared.TokenKind.TheVariants.{Word, Number, Comma, LeftBracket, RightBracket, LeftBrace, RightBrace, Less, Greater}
use Rattle.text_forms.specs.declared.Around.TheVariants.{InStruct}
use Rattle.text_forms.specs.Form.{Form, either}
use Rattle.text_forms.specs.Nested.{concat, joined, struct_head, struct_end, remainder, struct_of, array_of, one_deeper}
use Rattle.ir_types.specs.TypeNodes.{TypeNode, array, opening, closing}
use Rattle.ir_types.specs.Written.{number_of}
use Rattle.ir_types.specs.TypeForms.{elements_of, inst_memory, memory_leaf, array_begin, type_parts, memory_type}
use Rattle.ir_shape.specs.Shape.{IsNested, IsMemory}
use Rattle.ir_shape.proofs.Sure.{Sure, one_sure, mark_sure, exactly_sure, pair_sure, either_sure, mapped_sure, made_sure, ahead_sure, many_sure, after_mark_sure}
use Rattle.ir_shape.proofs.Values.{local_sure, type_sure}
use Rattle.ir_shape.proofs.InstMemory.{as_memory_type}

elements_below : (s : List ℕ) (n : ℕ) → cond (nat_lt (number_of s) (2 ^ 64)) (Some (number_of s)) None ≡ Some n → n < 2 ^ 64
elements_below s n e =
    let c = cond_some (nat_lt (number_of s) (2 ^ 64)) (number_of s) n e in
    let lt : number_of s < 2 ^ 64 = let t = c.0 in grind (arith, nat_tests) in
    subst (λ k. k < 2 ^ 64) c.1 lt

unsigned_below : (b : Bool) (s : List ℕ) (n : ℕ) → cond b None (cond (nat_lt (number_of s) (2 ^ 64)) (Some (number_of s)) None) ≡ Some n → n < 2 ^ 64
unsigned_below true s n e = absurd cc
unsigned_below false s n e = elements_below s n e

elements_small : (s : List ℕ) (n : ℕ) → elements_of s ≡ Some n → n < 2 ^ 64
elements_small [] n e = absurd cc
elements_small (c ∷ ds) n e = unsigned_below (eqb c 45) (c ∷ ds) n e

-- one behind the other
joined_known : {P Q R : List TypeNode → Type 0} {f g : Form (List TypeNode)} → ((x y : List TypeNode) → P x → Q y → R (x ++ y)) → Sure f P → Sure g Q → Sure (joined f g) R
joined_known {R = R} known p q = mapped_sure {Q = R} (pair_sure p q) (λ x h. known x.0 x.1 h.0 h.1)

leaf_sure : (d : ℕ) → Sure memory_leaf (IsNested (suc d))
unfolding memory_leaf
leaf_sure d = either_sure (mapped_sure {Q = IsNested (suc d)} type_sure (λ t h. (h, refl))) (mapped_sure {Q = IsNested (suc d)} local_sure (λ n h. (h, refl)))

parts_leaf : (d : ℕ) → Sure type_parts.leaf (IsNested (suc d))
unfolding type_parts
parts_leaf d = leaf_sure d

-- the node of an array
abbrev IsArray : List TypeNode → Type 0
IsArray ns = (n : ℕ) × (ns ≡ array n ∷ []) × (n < 2 ^ 64)

begin_sure : Sure array_begin IsArray
unfolding array_begin
begin_sure = mapped_sure {Q = IsArray} (after_mark_sure LeftBracket (pair_sure (made_sure {Q = λ n. n < 2 ^ 64} (one_sure Number) (λ s n u e. elements_small s n e)) (exactly_sure Word _))) (λ n h. (n.0, refl, h.0))

parts_begin : Sure type_parts.array_head IsArray
unfolding type_parts
parts_begin = begin_sure

abbrev Opens : Bool → List TypeNode → Type 0
Opens p ns = ns ≡ opening p ∷ []

opening_sure : (p : Bool) → Sure (struct_head type_parts p) (Opens p)
unfolding type_parts
opening_sure true = mapped_sure {Q = Opens true} (ahead_sure Less (mark_sure LeftBrace)) (λ x h. refl)
opening_sure false = mapped_sure {Q = Opens false} (mark_sure LeftBrace) (λ x h. refl)

abbrev Closes : List TypeNode → Type 0
Closes ns = ns ≡ closing ∷ []

closing_sure : (p : Bool) → Sure (struct_end type_parts p) Closes
unfolding type_parts
closing_sure true = mapped_sure {Q = Closes} (pair_sure (mark_sure RightBrace) (mark_sure Greater)) (λ x h. refl)
closing_sure false = mapped_sure {Q = Closes} (mark_sure RightBrace) (λ x h. refl)

module _ (m : Form (List TypeNode)) (d : ℕ) (inner : Sure m (IsNested d)) where
  -- some members behind one another, and then with the end of their struct
  abbrev AreMembers : List TypeNode → Type 0
  AreMembers ns = (members : List (List TypeNode)) × (ns ≡ concat members) × AllByRecursion (IsNested d) members

  abbrev AreClosed : List TypeNode → Type 0
  AreClosed ns = (members : List (List TypeNode)) × (ns ≡ concat members ++ closing ∷ []) × AllByRecursion (IsNested d) members

  none_closed : (ns : List TypeNode) → Closes ns → AreClosed ns
  none_closed ns e = ([], e, tt)

  some_closed : (x y : List TypeNode) → AreMembers x → Closes y → AreClosed (x ++ y)
  some_closed x y h e = (h.0, rw (h.1, e) refl, h.2)

  one_more : (x y : List TypeNode) → IsNested d x → AreClosed y → AreClosed (x ++ y)
  one_more x y h g = (x ∷ g.0, rw g.1 (sym (append_assoc x (concat g.0) (closing ∷ []))), (h, g.2))

  in_struct : (p : Bool) (x y : List TypeNode) → Opens p x → AreClosed y → IsNested (suc d) (x ++ y)
  in_struct p x y e h = rw e h

  in_array : (x y : List TypeNode) → IsArray x → IsNested d y → IsNested (suc d) (x ++ y)
  in_array x y a h = rw (a.1) (a.2, h)

  before_bracket : (x y : List TypeNode) → IsNested d x → y ≡ [] → IsNested d (x ++ y)
  before_bracket x y h e = rw (e, append-nil x) h

  members_behind : (p : Bool) → Sure (remainder type_parts m (InStruct p)) AreClosed
  members_behind p =
      joined_known {P = AreMembers} {Q = Closes} {R = AreClosed} some_closed (mapped_sure {Q = AreMembers} (many_sure (mapped_sure {Q = IsNested d} (pair_sure (mark_sure Comma) inner) (λ x h. h.1))) (λ xs h. (xs, refl, h))) (closing_sure p)

  members_sure : (p : Bool) → Sure (either (struct_end type_parts p) (joined m (remainder type_parts m (InStruct p)))) AreClosed
  members_sure p = either_sure (record { known = λ a ts l h. none_closed a ((closing_sure p).known a ts l h) }) (joined_known {P = IsNested d} {Q = AreClosed} {R = AreClosed} one_more inner (members_behind p))

  struct_sure : (p : Bool) → Sure (struct_of type_parts p m) (IsNested (suc d))
  struct_sure p = joined_known {P = Opens p} {Q = AreClosed} {R = IsNested (suc d)} (in_struct p) (opening_sure p) (members_sure p)

  array_sure : Sure (array_of type_parts m) (IsNested (suc d))
  array_sure =
      joined_known {P = IsArray} {Q = IsNested d} {R = IsNested (suc d)} in_array parts_begin
      (joined_known {P = IsNested d} {Q = λ ns. ns ≡ []} {R = IsNested d} before_bracket inner (mapped_sure {Q = λ ns. ns ≡ []} (mark_sure RightBracket) (λ x h. refl)))

  deeper_sure : Sure (one_deeper type_parts m) (IsNested (suc d))
  deeper_sure = either_sure (parts_leaf d) (either_sure array_sure (either_sure (struct_sure false) (struct_sure true)))

memory_sure : (d : ℕ) → Sure (memory_type d) (IsNested (suc d))
memory_sure zero = parts_leaf zero
memory_sure (suc d) = deeper_sure (memory_type d) (suc d) (memory_sure d)

-- what is read as a memory type is one
pub type_is_sure : (d : ℕ) → Sure (memory_type d) IsMemory
type_is_sure d = record { known = λ a ts l h. record { depth = suc d; nested = (memory_sure d).known a ts l h } }

-- in an instruction
pub inst_memory_sure : Sure inst_memory IsMemory
inst_memory_sure = record { known = λ a ts l h. (type_is_sure (length ts)).known a ts l (as_memory_type a ts h) }

-- a memory type has a node
pub has_node : (nodes : List TypeNode) → IsMemory nodes → 0 < length nodes
has_node nodes m = nested_some m.depth nodes m.nested
  where
    nested_some : (d : ℕ) (nodes : List TypeNode) → IsNested d nodes → 0 < length nodes
    nested_some zero nodes h = absurd h
    nested_some (suc d) [] h = absurd h
    nested_some (suc d) (n ∷ nodes) h = omega arith
