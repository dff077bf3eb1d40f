-- What is known of names.
use Rattle.std.proofs.Common.{◌≡◌, ◌<◌, ◌^◌, ℕ, zero, suc, Bool, true, false, eqb, List, [], ◌∷◌, length, Option, Some, cond, subst, arith}
use Rattle.std.specs.Prelude.{nat_lt}
use Rattle.std.proofs.lemmas.Bool.Decides.{nat_tests}
use Rattle.std.proofs.lemmas.Option.{cond_some}
use Rattle.text_forms.specs.Lexical.{is_digit}
use Rattle.ir_types.specs.declared.name.Name.{Name}
use Rattle.ir_types.specs.declared.name.Name.TheVariants.{Text, Number}
use Rattle.ir_types.specs.Names.{name_at}
use Rattle.ir_types.specs.Written.{number_of, numbered_name, name_of, name_behind, name_before, without_last, unescaped}
use Rattle.ir_shape.specs.Shape.{IsName}

-- ---- a name that is read is one

by_test : (b : Bool) (x y : Option Name) (n : Name) → cond b x y ≡ Some n → (x ≡ Some n → IsName n) → (y ≡ Some n → IsName n) → IsName n
by_test true x y n e f g = f e
by_test false x y n e f g = g e

is_text : (s : List ℕ) (n : Name) → Some (Text s) ≡ Some n → IsName n
is_text s (Text t) e = tt
is_text s (Number k) e = absurd cc

is_number : (k : ℕ) (n : Name) → numbered_name k ≡ Some n → IsName n
is_number k n e =
    let c = cond_some (nat_lt k (2 ^ 32)) (Number k) n e in
    let lt : k < 2 ^ 32 = let t = c.0 in grind (arith, nat_tests) in
    subst IsName c.1 lt

pub named_is : (s : List ℕ) (n : Name) → name_of s ≡ Some n → IsName n
named_is [] n e = absurd cc
named_is (c ∷ cs) n e = by_test (eqb c 34) _ _ n e (is_text (unescaped (without_last cs)) n) (λ f. by_test (is_digit c) _ _ n f (is_number (number_of (c ∷ cs)) n) (is_text (c ∷ cs) n))

-- what stands behind a sign is a name
pub behind_is : (s : List ℕ) (n : Name) → name_behind s ≡ Some n → IsName n
behind_is [] n e = absurd cc
behind_is (c ∷ cs) n e = named_is cs n e

-- and what stands before one
pub before_is : (s : List ℕ) (n : Name) → name_before s ≡ Some n → IsName n
before_is s n e = named_is (without_last s) n e

-- ---- a name at a place stands in the table

-- where a name stands, the place is in the list
pub within_names : (ns : List Name) (i : ℕ) → IsName (name_at ns i) → i < length ns
within_names [] i h = absurd (omega arith)
within_names (n ∷ ns) zero h = omega arith
within_names (n ∷ ns) (suc i) h = omega (arith, within_names ns i h)
