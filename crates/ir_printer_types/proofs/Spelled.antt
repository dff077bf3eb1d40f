-- The tokens that a name or a type is printed as spell it.
use Rattle.std.proofs.Common.{◌≡◌, ◌<◌, ◌^◌, ◌≤◌, ℕ, true, false, eqb, List, [], ◌∷◌, ◌++◌, Some, lit<, lit≤, refl, sym, ap, ◌∙◌, arith, inl, inr}
use Rattle.std.specs.Prelude.{codes, find, decimal}
use Rattle.std.proofs.lemmas.Bool.{eqb-true, eq-eqb}
use Rattle.std.proofs.lemmas.Fmt.{decimal_digit, decimal_step}
use Rattle.text_forms.specs.declared.TokenKind.TheVariants as kinds
use Rattle.text_forms.proofs.Begins.{test}
use Rattle.text_lex.specs.Names.{is_digits}
use Rattle.text_lex.specs.Layout.{tokens_of}
use Rattle.text_lex.proofs.Decimals.{decimal_digits, number_of-decimal}
use Rattle.ir_types.specs.declared.name.Name.{Name}
use Rattle.ir_types.specs.declared.inst.Ty.{Ty}
use Rattle.ir_types.specs.declared.inst.Ty.TheVariants.{Int, Ptr, Vector, Void}
use Rattle.ir_types.specs.Written.{number_of}
use Rattle.ir_types.specs.Types.{lane_counts}
use Rattle.ir_types.specs.TypeForms.{local_name, global_name, label, width, lanes_of, vector_type, value_type, return_type}
use Rattle.ir_shape.specs.Shape.{IsName, IsOneOf, widths, IsType, IsReturnType}
use Rattle.ir_shape.proofs.Among.{of_each}
use Rattle.ir_printer_types.specs.Pieces.{token, local_token, global_token, label_token, width_word, type_pieces}
use Rattle.ir_printer_types.proofs.Names.{local_again, global_again, label_again}
use Rattle.ir_printer_types.proofs.Numbers.{no_sign}
use Rattle.ir_printer_types.proofs.Says.{Says, pair_says, left_says, right_says, mapped_says, made_says, one_says, mark_says, word_says, behind_says, marked_says}

-- ---- names

-- the token of a local name says it
pub local_says : (n : Name) → IsName n → Says local_name n (local_token n ∷ [])
unfolding local_name
local_says n h = made_says _ n (local_again n h) (one_says kinds.Local _)

-- and that of a symbol's
pub global_says : (n : Name) → IsName n → Says global_name n (global_token n ∷ [])
unfolding global_name
global_says n h = made_says _ n (global_again n h) (one_says kinds.Global _)

-- and that of a label
pub label_says : (n : Name) → IsName n → Says label n (label_token n ∷ [])
unfolding label
label_says n h = made_says _ n (label_again n h) (one_says kinds.Label _)

-- ---- types

-- the digits of the widths
pub decimals : (decimal 1 ≡ codes "1") × (decimal 8 ≡ codes "8") × (decimal 16 ≡ codes "16") × (decimal 32 ≡ codes "32") × (decimal 64 ≡ codes "64")
decimals = (
  decimal_digit 1 (lit< tt),
  decimal_digit 8 (lit< tt),
  decimal_step 16 (lit≤ tt) (lit< tt) ∙ ap (λ (ds : List ℕ). ds ++ 54 ∷ []) (decimal_digit 1 (lit< tt)),
  decimal_step 32 (lit≤ tt) (lit< tt) ∙ ap (λ (ds : List ℕ). ds ++ 50 ∷ []) (decimal_digit 3 (lit< tt)),
  decimal_step 64 (lit≤ tt) (lit< tt) ∙ ap (λ (ds : List ℕ). ds ++ 52 ∷ []) (decimal_digit 6 (lit< tt)),
)

-- the word of a width says it
pub width_says : (w : ℕ) → IsOneOf widths w → Says width w (token kinds.Word (width_word w) ∷ [])
unfolding width width_word
width_says w h = of_each (λ n. Says width n (token kinds.Word (width_word n) ∷ [])) widths w (
  rw (decimals.0) (left_says (word_says _ 1)),
  (
    rw (decimals.1) (right_says (left_says (word_says _ 8))),
    (
      rw (decimals.2) (right_says (right_says (left_says (word_says _ 16)))),
      (
        rw (decimals.3) (right_says (right_says (right_says (left_says (word_says _ 32))))),
        (rw (decimals.4) (right_says (right_says (right_says (right_says (word_says _ 64))))), tt),
      ),
    ),
  ),
) h

-- a number that is one of some is found among them
found_again : (xs : List ℕ) (n : ℕ) → IsOneOf xs n → find (λ m. eqb m n) xs ≡ Some n
found_again [] n h = absurd h
found_again (x ∷ xs) n h = elim (test (eqb x n)) [
  | inl y ↦ rw y (ap Some (eqb-true x n y))
  | inr other ↦ rw other (found_again xs n (later h other))
]
  where
    later : IsOneOf (x ∷ xs) n → eqb x n ≡ false → IsOneOf xs n
    later (inl e) other = absurd (let same = eq-eqb x n (sym e) in cc)
    later (inr g) other = g

-- a vector's lanes are few enough for the digits that are read
pub few_lanes : (n : ℕ) → IsOneOf lane_counts n → n < 10 ^ 64
few_lanes n h = let m : n ≤ 512 = of_each (λ k. k ≤ 512) lane_counts n (lit≤ tt, (lit≤ tt, (lit≤ tt, (lit≤ tt, (lit≤ tt, (lit≤ tt, (lit≤ tt, (lit≤ tt, (lit≤ tt, tt))))))))) h in omega arith

digits_lanes : (ds : List ℕ) → is_digits ds ≡ true → lanes_of ds ≡ find (λ m. eqb m (number_of ds)) lane_counts
digits_lanes [] h = absurd cc
digits_lanes (d ∷ ds) h = rw (no_sign d ds h) refl

lanes_again : (n : ℕ) → IsOneOf lane_counts n → lanes_of (decimal n) ≡ Some n
lanes_again n h =
    digits_lanes (decimal n) (decimal_digits n (few_lanes n h)) ∙ rw (number_of-decimal n (few_lanes n h)) (found_again lane_counts n h)

-- the tokens of a type's pieces say it
pub type_says : (t : Ty) → IsType t → Says value_type t (tokens_of (type_pieces t))
unfolding value_type vector_type type_pieces
type_says (Int w) h = left_says (mapped_says w _ refl (width_says w h))
type_says Ptr h = right_says (left_says (word_says _ Ptr))
type_says (Vector n w) h =
    let lanes = pair_says (token kinds.Number (decimal n) ∷ []) _ (one_says kinds.Number _) (behind_says (codes "x") (width_says w h.1)) in
    right_says (right_says (made_says (decimal n, w) _ (rw (lanes_again n h.0) refl) (marked_says kinds.Less _ (mapped_says ((decimal n, w), tt) _ refl
    (pair_says (token kinds.Number (decimal n) ∷ token kinds.Word (codes "x") ∷ token kinds.Word (width_word w) ∷ []) _ lanes (mark_says kinds.Greater _))))))
type_says Void h = absurd h

-- and of one that is returned
pub return_type_says : (t : Ty) → IsReturnType t → Says return_type t (tokens_of (type_pieces t))
unfolding return_type type_pieces
return_type_says (Int w) h = left_says (type_says (Int w) h)
return_type_says Ptr h = left_says (type_says Ptr h)
return_type_says (Vector n w) h = left_says (type_says (Vector n w) h)
return_type_says Void h = right_says (word_says _ Void)
