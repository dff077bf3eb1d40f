-- Operands that pass the test are equal.
use Rattle.std.proofs.Common.{◌≡◌, ℕ, true, nat_eq, List, [], ◌∷◌, Option, Some, None, refl, sym, ap, ◌∙◌, subst, true≢false}
use Rattle.std.proofs.lemmas.Bool.Decides.{Decides-eqb}
use Rattle.ir_types.specs.Names.{same_name}
use Rattle.ir_types.specs.Tree.{OperandTree, local, number, null, poison, lanes, global}
use Rattle.ir_rules.specs.Edges.{same_lane, same_lanes, same_operand}
use Rattle.ir_graph.proofs.Tables.{same_name-Decides}
use Rattle.ir_check_edges.proofs.Sorted.{both_true}

equal_lane : (x y : Option ℕ) → same_lane x y ≡ true → x ≡ y
equal_lane (Some n) (Some m) e = ap (λ k. Some k) ((Decides-eqb n m).0 e)
equal_lane None None e = refl
equal_lane x y e = absurd (true≢false (sym e))

equal_lanes : (xs ys : List (Option ℕ)) → same_lanes xs ys ≡ true → xs ≡ ys
equal_lanes [] [] e = refl
equal_lanes (x ∷ xs) (y ∷ ys) e =
    let parts = both_true (same_lane x y) (same_lanes xs ys) e in
    ap (λ z. z ∷ xs) (equal_lane x y parts.0) ∙ ap (λ zs. y ∷ zs) (equal_lanes xs ys parts.1)
equal_lanes xs ys e = absurd (true≢false (sym e))

pub equal_operands : (a b : OperandTree) → same_operand a b ≡ true → a ≡ b
equal_operands (local n) (local m) e = ap local ((same_name-Decides n m).0 e)
equal_operands (number n) (number m) e = ap number ((Decides-eqb n m).0 e)
equal_operands null null e = refl
equal_operands poison poison e = refl
equal_operands (lanes xs) (lanes ys) e = ap lanes (equal_lanes xs ys e)
equal_operands (global n o) (global m p) e =
    let parts = both_true (same_name n m) (nat_eq o p) e in
    ap (λ x. global x o) ((same_name-Decides n m).0 parts.0) ∙ ap (global m) ((Decides-eqb o p).0 parts.1)
equal_operands a b e = absurd (true≢false (sym e))

pub same_backwards : (a b : OperandTree) → same_operand a b ≡ true → same_operand b a ≡ true
same_backwards a b e = let is = equal_operands a b e in subst (λ x. same_operand b x ≡ true) (sym is) (subst (λ x. same_operand x b ≡ true) is e)

pub same_onwards : (a b c : OperandTree) → same_operand a b ≡ true → same_operand b c ≡ true → same_operand a c ≡ true
same_onwards a b c e h = subst (λ x. same_operand x c ≡ true) (sym (equal_operands a b e)) h

pub same_itself : (a b : OperandTree) → same_operand a b ≡ true → same_operand b b ≡ true
same_itself a b e = subst (λ x. same_operand x b ≡ true) (equal_operands a b e) e
