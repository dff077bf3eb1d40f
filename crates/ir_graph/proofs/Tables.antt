-- In a table of names, a name stands at one place.
use Rattle.std.proofs.Common.{◌≡◌, ◌≢◌, ℕ, zero, suc, ◌^◌, ◌<◌, inl, inr, nat_eq, List, [], ◌∷◌, length, get_or, refl, sym, ap, ◌∙◌, true≢false, arith}
use Rattle.std.specs.Bool.{Decides}
use Rattle.std.proofs.lemmas.Bool.{cases_order}
use Rattle.std.proofs.lemmas.Bool.Decides.{Decides-eqb, same_from_decides}
use Rattle.std.proofs.lemmas.Slice.Eq.{bytes_eq-Decides}
use Rattle.ir_types.specs.declared.name.Name.{Name}
use Rattle.ir_types.specs.declared.name.Name.TheVariants.{Text, Number}
use Rattle.ir_types.specs.Names.{IsTable, name_at, same_name}

at-get : (ns : List Name) (i : ℕ) → name_at ns i ≡ get_or ns i (Number (2 ^ 32))
at-get [] i = refl
at-get (n ∷ ns) zero = refl
at-get (n ∷ ns) (suc i) = at-get ns i

apart : (ns : List Name) → IsTable ns → (i j : ℕ) → i < j → j < length ns → name_at ns i ≢ name_at ns j
apart ns table i j lt within e = table.distinct i j (Number (2 ^ 32)) lt within (sym (at-get ns i) ∙ e ∙ at-get ns j)

-- in a table, places of one name are one
pub one_place : (ns : List Name) → IsTable ns → (i j : ℕ) → i < length ns → j < length ns → name_at ns i ≡ name_at ns j → i ≡ j
one_place ns table i j here there e = elim (cases_order i j) [
  | inl same ↦ same
  | inr w ↦ elim w [ inl lt ↦ absurd (apart ns table i j lt there e) | inr lt ↦ absurd (apart ns table j i lt here (sym e)) ]
]

-- whether names are one
pub same_name-Decides : (x y : Name) → Decides (same_name x y) (x ≡ y)
same_name-Decides (Text a) (Text b) = (λ e. ap Text ((bytes_eq-Decides a b).0 e), λ e. (bytes_eq-Decides a b).1 (cc))
same_name-Decides (Text a) (Number n) = (λ e. absurd (true≢false (sym e)), λ e. (cc))
same_name-Decides (Number m) (Text t) = (λ e. absurd (true≢false (sym e)), λ e. (cc))
same_name-Decides (Number m) (Number n) = (λ e. ap Number ((Decides-eqb m n).0 e), λ e. (Decides-eqb m n).1 (cc))

-- so names are compared by their places
pub same_place : (ns : List Name) → IsTable ns → (i j : ℕ) → i < length ns → j < length ns → nat_eq i j ≡ same_name (name_at ns i) (name_at ns j)
same_place ns table i j here there =
    let at : Decides (nat_eq i j) (name_at ns i ≡ name_at ns j) = (λ e. ap (name_at ns) ((Decides-eqb i j).0 e), λ e. (Decides-eqb i j).1 (one_place ns table i j here there e)) in
    same_from_decides (nat_eq i j) (same_name (name_at ns i) (name_at ns j)) at (same_name-Decides (name_at ns i) (name_at ns j))
