-- The pieces that names, types and operands are printed as write them.
use Rattle.std.proofs.Common.{◌≡◌, ◌<◌, ℕ, zero, suc, true, false, cond, eqb, List, [], ◌∷◌, map, Option, Some, None, refl, sym, ap, arith, inl, inr}
use Rattle.std.specs.Prelude.{codes}
use Rattle.std.specs.List.{AllByRecursion, AllZip, list_all}
use Rattle.std.proofs.lemmas.Bool.{eqb-true, eq-eqb}
use Rattle.text_forms.specs.declared.TokenKind.TheVariants as kinds
use Rattle.text_forms.proofs.Begins.{test}
use Rattle.text_lex.specs.Layout.{closed}
use Rattle.ir_types.specs.declared.name.Name.{Name}
use Rattle.ir_types.specs.declared.inst.Ty.{Ty}
use Rattle.ir_types.specs.declared.inst.Ty.TheVariants.{Int, Ptr, Vector}
use Rattle.ir_types.specs.Offsets.{Definitions}
use Rattle.ir_types.specs.Tree.{OperandTree, local, number, null, poison, lanes, global, out_of_range}
use Rattle.ir_types.specs.ValueForms.{WrittenLane, lane_digits, lane_true, lane_false, lane_poison, lane, typed_lane, WrittenValue, named, digits, yes, no, null_word, poison_word, lane_list, symbol, stepped, constant_word, value, width_of, lane_at, lane_fits, is_int, operand_at}
use Rattle.ir_types.specs.InstParts.{typed_value, pointer_value, index_value}
use Rattle.ir_shape.specs.Shape.{IsName, IsOneOf, widths, IsType, IsBelow, IsLane, IsOperand, IsTyped}
use Rattle.ir_printer_types.specs.Texts.{signed_text}
use Rattle.ir_printer_types.specs.Pieces.{word, greater, type_pieces}
use Rattle.ir_printer_types.proofs.Laid.{loose, nothing_behind, mark_laid}
use Rattle.ir_printer_types.proofs.LaidOut.{angle_kinds}
use Rattle.ir_printer_types.proofs.Widths.{width_within, type_within}
use Rattle.ir_printer_types.proofs.Writes.{Writes, both, spaced, left_writes, right_writes, mapped_writes, made_writes, word_writes, behind_writes, between_writes, EachWrites, commas_write}
use Rattle.ir_printer.specs.Print.{number_token, lane_value, lane_pieces, global_pieces, operand_pieces, typed_operand}
use Rattle.ir_printer.proofs.Numbers.{signed_again, signed_fits}
use Rattle.ir_printer.proofs.Words.{value_kinds, local_writes, global_writes, width_writes, type_writes, signed_writes}
use Rattle.ir_printer.proofs.Symbols.{steps_again, written_steps, steps_write}

-- how a value is written at a type
pub record IsWritten (defs : Definitions) (t : Ty) (a : OperandTree) : Type 0 where
  pub typed : IsType t
  pub as_value : WrittenValue
  pub is : operand_at defs t as_value ≡ Some a
  pub writes : Writes closed value as_value (operand_pieces t a)

bit_written : (defs : Definitions) (t : Ty) (v : ℕ) → eqb (width_of t) 1 ≡ true → IsType t → v < 2 → IsWritten defs t (number v)
unfolding value constant_word number_token
bit_written defs t zero e h lt = record { typed = h; as_value = no; is = refl; writes = rw e (right_writes (right_writes (left_writes (right_writes (left_writes (word_writes _ no value_kinds.1)))))) }
bit_written defs t (suc zero) e h lt = record { typed = h; as_value = yes; is = refl; writes = rw e (right_writes (right_writes (left_writes (left_writes (word_writes _ yes value_kinds.0))))) }
bit_written defs t (suc (suc v)) e h lt = absurd (omega arith)

signed_written : (defs : Definitions) (t : Ty) (v : ℕ) → eqb (width_of t) 1 ≡ false → IsType t → IsBelow (width_of t) v → IsWritten defs t (number v)
unfolding value number_token
signed_written defs t v e h lt = let w = type_within t h in record {
  typed = h;
  as_value = digits (signed_text (width_of t) v);
  is = rw (signed_fits (width_of t) v w.0 w.1 lt, signed_again (width_of t) v w.0 w.1 lt) refl;
  writes = rw e (right_writes (left_writes (mapped_writes _ _ refl (signed_writes (width_of t) v w.1 lt))));
}

number_written : (defs : Definitions) (t : Ty) (v : ℕ) → IsType t → IsBelow (width_of t) v → IsWritten defs t (number v)
number_written defs t v i h = elim (test (eqb (width_of t) 1)) [
  | inl y ↦ let l : v < 2 = rw (eqb-true (width_of t) 1 y) at h in bit_written defs t v y i l
  | inr n ↦ signed_written defs t v n i h
]

-- ---- lanes

-- how a lane of so many bits is written
record IsLaneWritten (w : ℕ) (x : Option ℕ) (written : WrittenLane) : Type 0 where
  is : lane_at w written ≡ x
  fits : lane_fits w written ≡ true
  writes : Writes closed lane written (lane_value (Int w) x ∷ [])

written_lane : ℕ → Option ℕ → WrittenLane
written_lane w None = lane_poison
written_lane w (Some v) = cond (eqb w 1) (cond (eqb v 1) lane_true lane_false) (lane_digits (signed_text w v))

bit_lane : (w v : ℕ) → v < 2 → eqb w 1 ≡ true → IsLaneWritten w (Some v) (cond (eqb v 1) lane_true lane_false)
unfolding lane number_token
bit_lane w zero lt e = record { is = refl; fits = refl; writes = rw e (right_writes (right_writes (left_writes (word_writes _ lane_false value_kinds.1)))) }
bit_lane w (suc zero) lt e = record { is = refl; fits = refl; writes = rw e (right_writes (left_writes (word_writes _ lane_true value_kinds.0))) }
bit_lane w (suc (suc v)) lt e = absurd (omega arith)

signed_lane : (w v : ℕ) → IsOneOf widths w → IsBelow w v → eqb w 1 ≡ false → IsLaneWritten w (Some v) (lane_digits (signed_text w v))
unfolding lane number_token
signed_lane w v h lt e = let b = width_within w h in record {
  is = ap (λ (n : ℕ). Some n) (signed_again w v b.0 b.1 lt);
  fits = signed_fits w v b.0 b.1 lt;
  writes = rw e (left_writes (mapped_writes _ _ refl (signed_writes w v b.1 lt)));
}

lane_written : (w : ℕ) → IsOneOf widths w → (x : Option ℕ) → IsLane w x → IsLaneWritten w x (written_lane w x)
unfolding lane written_lane
lane_written w h None g = record { is = refl; fits = refl; writes = right_writes (right_writes (right_writes (word_writes _ lane_poison value_kinds.3))) }
lane_written w h (Some v) g = elim (test (eqb w 1)) [
  | inl y ↦ let l : v < 2 = rw (eqb-true w 1 y) at g in rw y (bit_lane w v l y)
  | inr n ↦ rw n (signed_lane w v h g n)
]

typed_written : ℕ → Option ℕ → Ty × WrittenLane
typed_written w x = (Int w, written_lane w x)

lane_writes : (w : ℕ) → IsOneOf widths w → EachWrites typed_lane (typed_written w) (lane_pieces (Int w)) (IsLane w)
unfolding typed_lane typed_written
lane_writes w h = record { one = λ x g. both (type_writes (Int w) h) (spaced ((lane_written w h x g).writes)) }

lanes_typed : (w : ℕ) (xs : List (Option ℕ)) → list_all (λ x. is_int w x.0) (map (typed_written w) xs) ≡ true
unfolding typed_written
lanes_typed w [] = refl
lanes_typed w (x ∷ xs) = let e : eqb w w ≡ true = eq-eqb w w refl in rw e (lanes_typed w xs)

lanes_fit : (w : ℕ) → IsOneOf widths w → (xs : List (Option ℕ)) → AllByRecursion (IsLane w) xs → list_all (λ (x : Ty × WrittenLane). lane_fits w x.1) (map (typed_written w) xs) ≡ true
unfolding typed_written
lanes_fit w h [] g = refl
lanes_fit w h (x ∷ xs) g = rw ((lane_written w h x g.0).fits, lanes_fit w h xs g.1) refl

lanes_again : (w : ℕ) → IsOneOf widths w → (xs : List (Option ℕ)) → AllByRecursion (IsLane w) xs → map (λ (x : Ty × WrittenLane). lane_at w x.1) (map (typed_written w) xs) ≡ xs
unfolding typed_written
lanes_again w h [] g = refl
lanes_again w h (x ∷ xs) g = rw ((lane_written w h x g.0).is, lanes_again w h xs g.1) refl

lanes_written : (defs : Definitions) (n w : ℕ) (xs : List (Option ℕ)) → IsType (Vector n w) → IsOperand (Vector n w) (lanes xs) → IsWritten defs (Vector n w) (lanes xs)
unfolding value
lanes_written defs n w xs i h = record {
  typed = i;
  as_value = lane_list (map (typed_written w) xs);
  is = rw (lanes_typed w xs, lanes_fit w i.1 xs h.1, lanes_again w i.1 xs h.1) refl;
  writes = right_writes (right_writes (right_writes (right_writes (left_writes (mapped_writes _ _ refl (between_writes kinds.Less kinds.Greater (codes "<") (codes ">") _ (greater ∷ []) angle_kinds.0 refl (mark_laid kinds.Greater (codes ">") refl angle_kinds.1 (loose nothing_behind)) refl (commas_write (lane_writes w i.1) xs h.0 h.1)))))));
}

-- ---- symbols

symbol_written : (defs : Definitions) (t : Ty) (n : Name) (bytes : ℕ) → IsType t → IsName n → IsBelow 64 bytes → IsWritten defs t (global n bytes)
unfolding value global_pieces
symbol_written defs t n bytes i h lt = elim (test (eqb bytes 0)) [
  | inl y ↦ record { typed = i; as_value = symbol n; is = ap (λ (k : ℕ). Some (global n k)) (sym (eqb-true bytes 0 y)); writes = rw y (right_writes (right_writes (right_writes (right_writes (right_writes (left_writes (mapped_writes n _ refl (global_writes n h)))))))) }
  | inr other ↦ record {
    typed = i;
    as_value = stepped (written_steps n bytes);
    is = steps_again defs t n bytes lt;
    writes = rw other (right_writes (right_writes (right_writes (right_writes (right_writes (right_writes (mapped_writes _ _ refl (steps_write n bytes h lt))))))));
  }
]

-- ---- operands

word_written : (defs : Definitions) (t : Ty) (a : OperandTree) (v : WrittenValue) (s : List ℕ) → IsType t → operand_at defs t v ≡ Some a → operand_pieces t a ≡ word s ∷ [] → Writes closed constant_word v (word s ∷ []) → IsWritten defs t a
unfolding value
word_written defs t a v s i e p w = record { typed = i; as_value = v; is = e; writes = rw p (right_writes (right_writes (left_writes w))) }

-- an operand of a type is written by its pieces
pub operand_written : (defs : Definitions) (t : Ty) (a : OperandTree) → IsTyped t a → IsWritten defs t a
unfolding value constant_word
operand_written defs t (local n) h = record { typed = h.0; as_value = named n; is = refl; writes = left_writes (mapped_writes n _ refl (local_writes n h.1)) }
operand_written defs t (number v) h = number_written defs t v h.0 h.1
operand_written defs t null h = word_written defs t null null_word _ h.0 refl refl (right_writes (right_writes (left_writes (word_writes _ null_word value_kinds.2))))
operand_written defs t poison h = word_written defs t poison poison_word _ h.0 refl refl (right_writes (right_writes (right_writes (left_writes (word_writes _ poison_word value_kinds.3)))))
operand_written defs (Vector n w) (lanes xs) h = lanes_written defs n w xs h.0 h.1
operand_written defs t (lanes xs) h = absurd h.1
operand_written defs t (global n bytes) h = symbol_written defs t n bytes h.0 h.1.0 h.1.1
operand_written defs t (out_of_range n) h = absurd h.1

-- ---- operands with their types

-- and so with its type before it
pub typed_writes : {defs : Definitions} {t : Ty} {a : OperandTree} → IsWritten defs t a → Writes closed (typed_value defs) (t, a) (typed_operand t a)
unfolding typed_value
typed_writes {t = t} {a = a} x = made_writes (t, x.as_value) (t, a) (rw (x.is) refl) (both (type_writes t x.typed) (spaced x.writes))

-- and a pointer
pub pointer_writes : {defs : Definitions} {a : OperandTree} → IsWritten defs Ptr a → Writes closed (pointer_value defs) a (typed_operand Ptr a)
unfolding pointer_value type_pieces
pointer_writes {a = a} x = made_writes x.as_value a x.is (behind_writes (codes "ptr") value_kinds.4 (spaced x.writes))

-- and an index
pub index_writes : {defs : Definitions} {w : ℕ} {a : OperandTree} → IsWritten defs (Int w) a → Writes closed (index_value defs) (w, a) (typed_operand (Int w) a)
unfolding index_value type_pieces
index_writes {w = w} {a = a} x = made_writes (w, x.as_value) (w, a) (rw (x.is) refl) (both (width_writes w x.typed) (spaced x.writes))

-- ---- so many operands of these types

-- what holds of no operand holds where there are none
pub by_none : (P : List OperandTree → Type 0) {args : List OperandTree} → AllZip IsTyped [] args → P [] → P args
by_none P {args = []} h p = p
by_none P {args = a ∷ args} h p = absurd h

-- and of one that is written, where there is one
pub by_one : (defs : Definitions) (P : List OperandTree → Type 0) {t : Ty} {args : List OperandTree} → AllZip IsTyped (t ∷ []) args → ((a : OperandTree) → IsWritten defs t a → P (a ∷ [])) → P args
by_one defs P {args = []} h p = absurd h
by_one defs P {t = t} {args = a ∷ []} h p = p a (operand_written defs t a h.0)
by_one defs P {args = a ∷ b ∷ args} h p = absurd h.1

-- and of two
pub by_two : (defs : Definitions) (P : List OperandTree → Type 0) {t u : Ty} {args : List OperandTree} → AllZip IsTyped (t ∷ u ∷ []) args → ((a b : OperandTree) → IsWritten defs t a → IsWritten defs u b → P (a ∷ b ∷ [])) → P args
by_two defs P {args = []} h p = absurd h
by_two defs P {args = a ∷ []} h p = absurd h.1
by_two defs P {t = t} {u = u} {args = a ∷ b ∷ []} h p = p a b (operand_written defs t a h.0) (operand_written defs u b h.1.0)
by_two defs P {args = a ∷ b ∷ c ∷ args} h p = absurd h.1.1

-- and of three
pub by_three : (defs : Definitions) (P : List OperandTree → Type 0) {t u v : Ty} {args : List OperandTree} → AllZip IsTyped (t ∷ u ∷ v ∷ []) args → ((a b c : OperandTree) → IsWritten defs t a → IsWritten defs u b → IsWritten defs v c → P (a ∷ b ∷ c ∷ [])) → P args
by_three defs P {args = []} h p = absurd h
by_three defs P {args = a ∷ []} h p = absurd h.1
by_three defs P {args = a ∷ b ∷ []} h p = absurd h.1.1
by_three defs P {t = t} {u = u} {v = v} {args = a ∷ b ∷ c ∷ []} h p = p a b c (operand_written defs t a h.0) (operand_written defs u b h.1.0) (operand_written defs v c h.1.1.0)
by_three defs P {args = a ∷ b ∷ c ∷ d ∷ args} h p = absurd h.1.1.1
