-- What is known of names, types and values that tokens spell.
use Rattle.std.proofs.Common.{◌≡◌, ◌%◌, ◌*◌, ◌-◌, ◌<◌, ◌≤◌, ◌^◌, ℕ, zero, suc, List, [], ◌∷◌, length, Option, Some, None, Bool, true, false, cond, eqb, lit<, lit≤, refl, subst, arith, inl, inr}
use Rattle.std.specs.Prelude.{map, codes, find, nat_lt, replicate}
use Rattle.std.specs.List.{AllByRecursion, list_all}
use Rattle.std.proofs.lemmas.Bool.Decides.{nat_tests}
use Rattle.std.proofs.Math.Nat.{mul-le-mul}
use Rattle.std.proofs.lemmas.List.{length-map, length-replicate}
use Rattle.std.proofs.lemmas.Option.{cond_some}
use Rattle.text_forms.specs.declared.TokenKind.TheVariants.{Local, Global, Label, Number, LeftParen, RightParen, Comma, Less, Greater}
use Rattle.text_forms.proofs.Sound.{bind_some}
use Rattle.text_forms.proofs.Exact.{some_is}
use Rattle.ir_types.specs.declared.name.Name.{Name}
use Rattle.ir_types.specs.declared.inst.Ty.{Ty}
use Rattle.ir_types.specs.declared.inst.Ty.TheVariants.{Int, Ptr, Vector, Void}
use Rattle.ir_types.specs.Sizes.{bytes_of, value_size}
use Rattle.ir_types.specs.Offsets.{Definitions, small_size, path_offset, offset_of}
use Rattle.ir_types.specs.TypeNodes.{TypeNode}
use Rattle.ir_types.specs.Written.{number_of, number_at, fits_width, at_most_64_bits}
use Rattle.ir_types.specs.Tree.{OperandTree, local, number, null, poison, lanes, global, out_of_range}
use Rattle.text_forms.specs.Combined.{some}
use Rattle.ir_types.specs.Types.{lane_counts}
use Rattle.ir_types.specs.TypeForms.{local_name, global_name, label, width, lanes_of, vector_type, value_type, return_type}
use Rattle.ir_types.specs.ValueForms.{WrittenLane, lane_digits, lane_true, lane_false, lane_poison, typed_lane, WrittenValue, named, digits, yes, no, null_word, poison_word, zeros, splat, lane_list, symbol, stepped, constant_word, comma_index, constant_offset, value, width_of, lane_at, lane_fits, index_of, index_fits, if_in_range, zeros_at, splat_at, lanes_at, operand_at}
use Rattle.ir_types.specs.InstParts.{typed_value, typed_pair, pointer_value, index_value, target, alignment_of, alignment, align_or}
use Rattle.ir_types.specs.InstForms.{is_out_of_range}
use Rattle.ir_shape.specs.Shape.{IsName, IsOneOf, widths, IsType, IsReturnType, IsBelow, IsLane, IsOperand, IsOperandIn, IsTypedIn}
use Rattle.ir_shape.proofs.Among.{of_each}
use Rattle.ir_shape.proofs.Names.{behind_is, before_is}
use Rattle.ir_shape.proofs.Sure.{Sure, any_sure, one_sure, mark_sure, word_sure, pair_sure, either_sure, mapped_sure, made_sure, IsThere, optional_sure, behind_sure, after_mark_sure, between_sure, marked_sure, commas_sure}

-- ---- names, types and values

-- what is read as a local name is a name
pub local_sure : Sure local_name IsName
unfolding local_name
local_sure = made_sure (one_sure Local) (λ s n u e. behind_is s n e)

-- and as a symbol's
pub global_sure : Sure global_name IsName
unfolding global_name
global_sure = made_sure (one_sure Global) (λ s n u e. behind_is s n e)

-- and as a label
pub label_sure : Sure label IsName
unfolding label
label_sure = made_sure (one_sure Label) (λ s n u e. before_is s n e)

pub width_sure : Sure width (IsOneOf widths)
unfolding width
width_sure = either_sure (word_sure _ 1 (inl refl)) (either_sure (word_sure _ 8 (inr (inl refl))) (either_sure (word_sure _ 16 (inr (inr (inl refl)))) (either_sure (word_sure _ 32 (inr (inr (inr (inl refl))))) (word_sure _ 64 (inr (inr (inr (inr (inl refl)))))))))

one_of_first : (b : Bool) (x : ℕ) (xs : List ℕ) (r : Option ℕ) (n : ℕ) → cond b (Some x) r ≡ Some n → (r ≡ Some n → IsOneOf xs n) → IsOneOf (x ∷ xs) n
one_of_first true x xs r n e later = inl cc
one_of_first false x xs r n e later = inr (later e)

-- what is found in a list is one of it
one_found : (p : ℕ → Bool) (xs : List ℕ) (n : ℕ) → find p xs ≡ Some n → IsOneOf xs n
one_found p [] n e = absurd cc
one_found p (x ∷ xs) n e = one_of_first (p x) x xs (find p xs) n e (one_found p xs n)

without_sign : (b : Bool) (s : List ℕ) (n : ℕ) → cond b None (find (λ m. eqb m (number_of s)) lane_counts) ≡ Some n → IsOneOf lane_counts n
without_sign true s n e = absurd cc
without_sign false s n e = one_found (λ m. eqb m (number_of s)) lane_counts n e

lanes_counted : (s : List ℕ) (n : ℕ) → lanes_of s ≡ Some n → IsOneOf lane_counts n
lanes_counted [] n e = absurd cc
lanes_counted (c ∷ ds) n e = without_sign (eqb c 45) (c ∷ ds) n e

vector_sure : Sure vector_type IsType
unfolding vector_type
vector_sure = made_sure {Q = IsType} (marked_sure Less (mapped_sure {Q = λ x. IsOneOf widths x.1} (pair_sure (pair_sure (one_sure Number) (behind_sure (codes "x") width_sure)) (mark_sure Greater)) (λ x h. h.0.1))) (λ x t h e.
    let b = bind_some (lanes_of x.0) _ t e in
    subst IsType (some_is _ t b.2) (lanes_counted x.0 b.0 b.1, h))

-- what is read as a type of values is one
pub type_sure : Sure value_type IsType
unfolding value_type
type_sure = either_sure (mapped_sure {Q = IsType} width_sure (λ w h. h)) (either_sure (word_sure _ Ptr tt) vector_sure)

return_type_is : (t : Ty) → IsType t → IsReturnType t
return_type_is (Int w) h = h
return_type_is Ptr h = h
return_type_is (Vector n w) h = h
return_type_is Void h = tt

-- and as the type of what is returned
pub return_type_sure : Sure return_type IsReturnType
unfolding return_type
return_type_sure = either_sure (record { known = λ t ts l h. return_type_is t (type_sure.known t ts l h) }) (word_sure _ Void tt)

-- ---- numbers

below : (m n : ℕ) → 0 < m → n % m < m
below m n h = omega arith

either_below : (b : Bool) (m n k : ℕ) → n < m → k < m → cond b n k < m
either_below true m n k h g = h
either_below false m n k h g = g

-- a number of so many bits is below their power of two
pub number_small : (w : ℕ) (s : List ℕ) → 0 < 2 ^ w → IsBelow w (number_at w s)
number_small w [] h = h
number_small w (c ∷ ds) h = either_below (eqb c 45) (2 ^ w) _ _ (below (2 ^ w) _ h) (below (2 ^ w) _ h)

one_below : (w : ℕ) → IsOneOf widths w → IsBelow w 1
one_below w h = of_each (λ n. IsBelow n 1) widths w (lit< tt, (lit< tt, (lit< tt, (lit< tt, (lit< tt, tt))))) h

-- 0 has so many bits
pub none_below : (w : ℕ) → IsOneOf widths w → IsBelow w 0
none_below w h = omega (arith, one_below w h)

one_fits : (t : Ty) → IsType t → IsBelow (width_of t) 1
one_fits (Int w) h = one_below w h
one_fits Ptr h = lit< tt
one_fits (Vector n w) h = lit< tt
one_fits Void h = absurd h

zero_fits : (t : Ty) → IsType t → IsBelow (width_of t) 0
zero_fits t h = omega (arith, one_fits t h)

-- ---- values

-- a value as it is written
abbrev pub IsValue : WrittenValue → Type 0
IsValue (named n) = IsName n
IsValue (lane_list xs) = 0 < length xs
IsValue (symbol n) = IsName n
IsValue (stepped x) = IsName x.1.0
IsValue v = Unit {0}

lane_sure : Sure typed_lane (λ x. Unit {0})
lane_sure = record { known = λ a ts l h. tt }

constant_sure : Sure constant_word IsValue
unfolding constant_word
constant_sure = either_sure (word_sure _ yes tt) (either_sure (word_sure _ no tt) (either_sure (word_sure _ null_word tt) (either_sure (word_sure _ poison_word tt) (word_sure _ zeros tt))))

constant_offset_sure : Sure constant_offset (λ x. IsName x.1.0)
unfolding constant_offset
constant_offset_sure =
    behind_sure (codes "getelementptr") (mapped_sure {Q = λ x. IsName x.1.0} (pair_sure any_sure (between_sure LeftParen RightParen (pair_sure any_sure (pair_sure (after_mark_sure Comma (behind_sure (codes "ptr") global_sure)) (any_sure {f = some comma_index}))))) (λ x h. h.1.1.0))

-- what is read as a value is a written one
pub value_sure : Sure value IsValue
unfolding value
value_sure =
    either_sure (mapped_sure local_sure (λ n h. h))
    (either_sure (mapped_sure (one_sure Number) (λ s u. tt))
    (either_sure constant_sure
    (either_sure (mapped_sure (behind_sure (codes "splat") (between_sure LeftParen RightParen lane_sure)) (λ x u. tt))
    (either_sure (mapped_sure (between_sure Less Greater (commas_sure lane_sure)) (λ xs h. h.0))
    (either_sure (mapped_sure global_sure (λ n h. h)) (mapped_sure constant_offset_sure (λ x h. h)))))))

lane_is : (w : ℕ) (x : WrittenLane) → IsOneOf widths w → IsLane w (lane_at w x)
lane_is w (lane_digits s) h = number_small w s (none_below w h)
lane_is w lane_true h = one_below w h
lane_is w lane_false h = none_below w h
lane_is w lane_poison h = tt

all_same : (w n : ℕ) (x : Option ℕ) → IsLane w x → AllByRecursion (IsLane w) (replicate n x)
all_same w zero x h = tt
all_same w (suc n) x h = (h, all_same w n x h)

some_lanes : (n : ℕ) → IsOneOf lane_counts n → 0 < n
some_lanes n h = of_each (λ m. 0 < m) lane_counts n (lit< tt, (lit< tt, (lit< tt, (lit< tt, (lit< tt, (lit< tt, (lit< tt, (lit< tt, (lit< tt, tt))))))))) h

-- one lane for all
same_lanes : (n w : ℕ) (x : Option ℕ) → IsOneOf lane_counts n → IsLane w x → IsOperand (Vector n w) (lanes (replicate n x))
same_lanes n w x c h = let many = some_lanes n c in (rw (length-replicate n x) many, all_same w n x h)

each_lane : (w : ℕ) (xs : List (Ty × WrittenLane)) → IsOneOf widths w → AllByRecursion (IsLane w) (map (λ x. lane_at w x.1) xs)
each_lane w [] h = tt
each_lane w (x ∷ xs) h = (lane_is w x.1 h, each_lane w xs h)

-- what a value is read as, be its numbers in range or not
abbrev IsRead : Ty → OperandTree → Type 0
IsRead t a = IsOperandIn true t a

-- what is made of a value is an operand
by_some : (t : Ty) (a b : OperandTree) → Some a ≡ Some b → IsRead t a → IsRead t b
by_some t a b e h = subst (IsRead t) (some_is a b e) h

-- where its numbers are in range
in_range : (fits : Bool) (t : Ty) (a : OperandTree) → IsRead t a → IsRead t (if_in_range fits a)
in_range true t a h = h
in_range false t a h = (refl, tt)

zeros_are : (t : Ty) (a : OperandTree) → IsType t → zeros_at t ≡ Some a → IsRead t a
zeros_are (Vector n w) a i e = by_some (Vector n w) _ a e (same_lanes n w (Some 0) i.0 (none_below w i.1))
zeros_are t a i e = absurd cc

splat_is : (t : Ty) (x : Ty × WrittenLane) (a : OperandTree) → IsType t → splat_at t x ≡ Some a → IsRead t a
splat_is (Vector n w) x a i e = subst (IsRead (Vector n w)) (cond_some _ _ a e).1 (in_range (lane_fits w x.1) (Vector n w) (lanes (replicate n (lane_at w x.1))) (same_lanes n w (lane_at w x.1) i.0 (lane_is w x.1 i.1)))
splat_is t x a i e = absurd cc

lanes_are : (t : Ty) (xs : List (Ty × WrittenLane)) (a : OperandTree) → IsType t → 0 < length xs → lanes_at t xs ≡ Some a → IsRead t a
lanes_are (Vector n w) xs a i some e =
    let fits = list_all (λ (x : Ty × WrittenLane). lane_fits w x.1) xs in
    let many = length-map xs (λ (x : Ty × WrittenLane). lane_at w x.1) in
    subst (IsRead (Vector n w)) (cond_some _ _ a e).1 (in_range fits (Vector n w) (lanes (map (λ (x : Ty × WrittenLane). lane_at w x.1) xs)) (rw (many) some, each_lane w xs i.1))
lanes_are t xs a i some e = absurd cc

-- steps lead over a number of bytes of 64 bits
offset_small : (defs : Definitions) (nodes : List TypeNode) (is : List (ℕ × ℕ)) (o : ℕ) → offset_of defs nodes is ≡ Some o → IsBelow 64 o
offset_small defs nodes [] o e = absurd cc
offset_small defs nodes (i ∷ is) o e =
    let s = bind_some (small_size defs nodes) _ o e in
    let p = bind_some (path_offset defs nodes is) _ o s.2 in
    subst (IsBelow 64) (some_is _ o p.2) (below (2 ^ 64) _ (lit< tt))

-- a symbol that is stepped from by numbers that are in range or not
stepped_from : (fits : Bool) (t : Ty) (n : Name) (o : ℕ) → IsName n → IsBelow 64 o → IsRead t (cond fits (global n o) (out_of_range (Some n)))
stepped_from true t n o h lt = (h, lt)
stepped_from false t n o h lt = (refl, h)

stepped_is : (defs : Definitions) (t : Ty) (x : List TypeNode × (Name × List (ℕ × List ℕ))) (a : OperandTree) → IsName x.1.0 → operand_at defs t (stepped x) ≡ Some a → IsRead t a
stepped_is defs t x a h e =
    let o = bind_some (offset_of defs x.0 (map index_of x.1.1)) _ a e in
    by_some t _ a o.2 (stepped_from (list_all index_fits x.1.1) t x.1.0 o.0 h (offset_small defs x.0 (map index_of x.1.1) o.0 o.1))

digits_are : (t : Ty) (s : List ℕ) (a : OperandTree) → IsType t → Some (if_in_range (fits_width (width_of t) s) (number (number_at (width_of t) s))) ≡ Some a → IsRead t a
digits_are t s a i e = by_some t _ a e (in_range (fits_width (width_of t) s) t (number (number_at (width_of t) s)) (number_small (width_of t) s (zero_fits t i)))

-- a written value at a type is an operand of it
pub operand_is : (defs : Definitions) (t : Ty) (v : WrittenValue) (a : OperandTree) → IsType t → IsValue v → operand_at defs t v ≡ Some a → IsOperandIn true t a
operand_is defs t (named n) a i h e = by_some t _ a e h
operand_is defs t (digits s) a i h e = digits_are t s a i e
operand_is defs t yes a i h e = by_some t _ a e (one_fits t i)
operand_is defs t no a i h e = by_some t _ a e (zero_fits t i)
operand_is defs t null_word a i h e = by_some t _ a e tt
operand_is defs t poison_word a i h e = by_some t _ a e tt
operand_is defs t zeros a i h e = zeros_are t a i e
operand_is defs t (splat x) a i h e = splat_is t x a i e
operand_is defs t (lane_list xs) a i h e = lanes_are t xs a i h e
operand_is defs t (symbol n) a i h e = by_some t _ a e (h, lit< tt)
operand_is defs t (stepped x) a i h e = stepped_is defs t x a h e

-- an operand that is out of range makes its instruction wide
pub held_in : (wide : Bool) (t : Ty) (a : OperandTree) → (is_out_of_range a ≡ true → wide ≡ true) → IsOperandIn true t a → IsOperandIn wide t a
held_in wide t (local n) w h = h
held_in wide t (number v) w h = h
held_in wide t null w h = h
held_in wide t poison w h = h
held_in wide t (lanes xs) w h = h
held_in wide t (global n bytes) w h = h
held_in wide t (out_of_range n) w h = (w refl, h.1)

-- ---- parts of instructions

-- what is read as a value with its type is an operand of it
pub typed_sure : (defs : Definitions) → Sure (typed_value defs) (λ x. IsTypedIn true x.0 x.1)
unfolding typed_value
typed_sure defs = made_sure (pair_sure type_sure value_sure) (λ x y h e.
    let a = bind_some (operand_at defs x.0 x.1) _ y e in
    subst (λ (z : Ty × OperandTree). IsTypedIn true z.0 z.1) (some_is _ y a.2) (h.0, operand_is defs x.0 x.1 a.0 h.0 h.1 a.1))

-- and so are two at one type
pub typed_pair_sure : (defs : Definitions) → Sure (typed_pair defs) (λ x. IsTypedIn true x.0 x.1.0 × IsTypedIn true x.0 x.1.1)
unfolding typed_pair
typed_pair_sure defs = made_sure (pair_sure type_sure (pair_sure value_sure (after_mark_sure Comma value_sure))) (λ x y h e.
    let a = bind_some (operand_at defs x.0 x.1.0) _ y e in
    let b = bind_some (operand_at defs x.0 x.1.1) _ y a.2 in
    subst (λ (z : Ty × (OperandTree × OperandTree)). IsTypedIn true z.0 z.1.0 × IsTypedIn true z.0 z.1.1) (some_is _ y b.2) ((h.0, operand_is defs x.0 x.1.0 a.0 h.0 h.1.0 a.1), (h.0, operand_is defs x.0 x.1.1 b.0 h.0 h.1.1 b.1)))

-- and one at a pointer's
pub pointer_sure : (defs : Definitions) → Sure (pointer_value defs) (IsTypedIn true Ptr)
unfolding pointer_value
pointer_sure defs = made_sure (behind_sure (codes "ptr") value_sure) (λ v a h e. (tt, operand_is defs Ptr v a tt h e))

-- and one at an integer's
pub index_sure : (defs : Definitions) → Sure (index_value defs) (λ x. IsTypedIn true (Int x.0) x.1)
unfolding index_value
index_sure defs = made_sure (pair_sure width_sure value_sure) (λ x y h e.
    let a = bind_some (operand_at defs (Int x.0) x.1) _ y e in
    subst (λ (z : ℕ × OperandTree). IsTypedIn true (Int z.0) z.1) (some_is _ y a.2) (h.0, operand_is defs (Int x.0) x.1 a.0 h.0 h.1 a.1))

-- what is read as the label of a branch is a name
pub target_sure : Sure target IsName
unfolding target
target_sure = behind_sure (codes "label") local_sure

-- ---- alignments

saturated : (lt : Bool) (n : ℕ) → nat_lt n (2 ^ 64) ≡ lt → IsBelow 64 (cond lt n (2 ^ 64 - 1))
saturated true n e = grind (arith, nat_tests)
saturated false n e = lit< tt

without_sign_small : (b : Bool) (s : List ℕ) (n : ℕ) → cond b None (Some (at_most_64_bits (number_of s))) ≡ Some n → IsBelow 64 n
without_sign_small true s n e = absurd cc
without_sign_small false s n e = subst (IsBelow 64) (some_is _ n e) (saturated (nat_lt (number_of s) (2 ^ 64)) (number_of s) refl)

alignment_small : (s : List ℕ) (n : ℕ) → alignment_of s ≡ Some n → IsBelow 64 n
alignment_small [] n e = absurd cc
alignment_small (c ∷ ds) n e = without_sign_small (eqb c 45) (c ∷ ds) n e

-- what is read as an alignment has 64 bits
pub alignment_sure : Sure alignment (IsThere (IsBelow 64))
unfolding alignment
alignment_sure = optional_sure (marked_sure Comma (behind_sure (codes "align") (made_sure (one_sure Number) (λ s n u e. alignment_small s n e))))

width_least : (w : ℕ) → IsOneOf widths w → w ≤ 64
width_least w h = of_each (λ n. n ≤ 64) widths w (lit≤ tt, (lit≤ tt, (lit≤ tt, (lit≤ tt, (lit≤ tt, tt))))) h

lanes_least : (n : ℕ) → IsOneOf lane_counts n → n ≤ 512
lanes_least n h = of_each (λ k. k ≤ 512) lane_counts n (lit≤ tt, (lit≤ tt, (lit≤ tt, (lit≤ tt, (lit≤ tt, (lit≤ tt, (lit≤ tt, (lit≤ tt, (lit≤ tt, tt))))))))) h

bytes_small : (bits : ℕ) → bits ≤ 32768 → IsBelow 64 (bytes_of bits)
bytes_small bits h = omega arith

size_small : (t : Ty) → IsType t → IsBelow 64 (value_size t)
size_small (Int w) h = let le = width_least w h in bytes_small w (omega arith)
size_small Ptr h = lit< tt
size_small (Vector n w) h = let most : n * w ≤ 512 * 64 = mul-le-mul (lanes_least n h.0) (width_least w h.1) in bytes_small (n * w) most
size_small Void h = absurd h

-- and so has that which a type gives where none is written
pub align_is : (t : Ty) (o : Option ℕ) → IsType t → IsThere (IsBelow 64) o → IsBelow 64 (align_or t o)
align_is t None i h = size_small t i
align_is t (Some n) i h = h
