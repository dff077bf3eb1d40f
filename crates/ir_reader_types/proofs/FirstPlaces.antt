-- First places in a list of names that grows at its end.
use Rattle.std.proofs.Common.{◌≡◌, ℕ, zero, suc, ◌<◌, ◌+◌, ◌^◌, Bool, true, false, cond, List, [], ◌∷◌, ◌++◌, length, get_or, set, Option, Some, None, Contains, refl, sym, ap, ◌∙◌, subst, inl, inr, ◌⊎◌, true≢false, arith}
use Rattle.std.specs.Prelude.{position, slice_get, is_some}
use Rattle.std.specs.Bool.{Decides}
use Rattle.std.specs.List.{position_from}
use Rattle.std.specs.Map.{lookup}
use Rattle.std.proofs.lemmas.Bool.Decides.{Decides-eqb}
use Rattle.std.proofs.lemmas.Slice.Eq.{bytes_eq-Decides}
use Rattle.std.proofs.lemmas.Iterator.Adapters.{position_from-zero}
use Rattle.std.proofs.lemmas.List.{map_push}
use Rattle.std.proofs.lemmas.List.Quantifiers.{position-Some}
use Rattle.std.proofs.lemmas.List.Elements.{Contains-get_or}
use Rattle.ir_types.specs.declared.name.Name.{Name}
use Rattle.ir_types.specs.declared.name.Name.TheVariants.{Text, Number}
use Rattle.ir_types.specs.declared.memory_type.TypeName.{TypeName}
use Rattle.ir_types.specs.declared.memory_type.NamedType.{NamedType}
use Rattle.ir_types.specs.Names.{name_at, same_name}
use Rattle.ir_types.proofs.SameNames.{name_eq}
use Rattle.ir_reader_types.specs.TypeTable.{names_of, HasFirstPlaces, IsPlaceOf, with_type}

pub same_name-Decides : (x y : Name) → Decides (same_name x y) (x ≡ y)
same_name-Decides (Text a) (Text b) = (λ e. ap Text ((bytes_eq-Decides a b).0 e), λ e. (bytes_eq-Decides a b).1 (cc))
same_name-Decides (Text a) (Number n) = (λ e. absurd (true≢false (sym e)), λ e. (cc))
same_name-Decides (Number m) (Text t) = (λ e. absurd (true≢false (sym e)), λ e. (cc))
same_name-Decides (Number m) (Number n) = (λ e. ap Number ((Decides-eqb m n).0 e), λ e. (Decides-eqb m n).1 (cc))

-- `==` on names, which the map uses, is the same
equal_names : (x y : Name) → name_eq x y ≡ same_name x y
equal_names (Text a) (Text b) = refl
equal_names (Text a) (Number n) = refl
equal_names (Number m) (Text b) = refl
equal_names (Number m) (Number n) = refl

pub same_lookup : (places : List (Name × ℕ)) (q : Name) → lookup (name_eq q) places ≡ lookup (same_name q) places
same_lookup places q = let same : name_eq q ≡ same_name q = λ j y. equal_names q y j in ap (λ (p : Name → Bool). lookup p places) same

-- ---- the first that passes a test, from a list that grows at its end

from_apart : {A : Type 0} (p : A → Bool) (i : ℕ) (xs : List A) (y : A) → p y ≡ false → position_from p i (xs ++ y ∷ []) ≡ position_from p i xs
from_apart p i [] y e = ap (λ b. cond b (Some i) None) e
from_apart p i (x ∷ xs) y e = ap (cond (p x) (Some i)) (from_apart p (i + 1) xs y e)

abbrev or_else : Option ℕ → Option ℕ → Option ℕ
or_else None s = s
or_else (Some k) s = Some k

or_first : (b : Bool) (i : ℕ) (o s : Option ℕ) → cond b (Some i) (or_else o s) ≡ or_else (cond b (Some i) o) s
or_first true i o s = refl
or_first false i o s = refl

from_push : {A : Type 0} (p : A → Bool) (i : ℕ) (xs : List A) (y : A) → p y ≡ true → position_from p i (xs ++ y ∷ []) ≡ or_else (position_from p i xs) (Some (i + length xs))
from_push p i [] y e = rw e (let z : i ≡ i + 0 = omega arith in ap Some z)
from_push p i (x ∷ xs) y e =
    let z : i + 1 + length xs ≡ i + suc (length xs) = omega arith in
    ap (cond (p x) (Some i)) (from_push p (i + 1) xs y e ∙ ap (λ n. or_else (position_from p (i + 1) xs) (Some n)) z) ∙ or_first (p x) i (position_from p (i + 1) xs) (Some (i + suc (length xs)))

some_first : (b : Bool) (i : ℕ) (o : Option ℕ) → cond b (Some i) o ≡ None → (b ≡ false) × (o ≡ None)
some_first true i o e = absurd cc
some_first false i o e = (refl, e)

from_none : {A : Type 0} (p : A → Bool) (i : ℕ) (xs : List A) (d : A) → position_from p i xs ≡ None → (k : ℕ) → k < length xs → p (get_or xs k d) ≡ false
from_none p i [] d e k lt = absurd (omega arith)
from_none p i (x ∷ xs) d e zero lt = (some_first (p x) i (position_from p (i + 1) xs) e).0
from_none p i (x ∷ xs) d e (suc k) lt = from_none p (i + 1) xs d (some_first (p x) i (position_from p (i + 1) xs) e).1 k (omega arith)

position_apart : {A : Type 0} (p : A → Bool) (xs : List A) (y : A) → p y ≡ false → position p (xs ++ y ∷ []) ≡ position p xs
position_apart p xs y e = position_from-zero p (xs ++ y ∷ []) ∙ from_apart p 0 xs y e ∙ sym (position_from-zero p xs)

position_push : {A : Type 0} (p : A → Bool) (xs : List A) (y : A) → p y ≡ true → position p (xs ++ y ∷ []) ≡ or_else (position p xs) (Some (length xs))
position_push p xs y e =
    let z : 0 + length xs ≡ length xs = omega arith in
    position_from-zero p (xs ++ y ∷ []) ∙ from_push p 0 xs y e ∙ ap (λ n. or_else (position_from p 0 xs) (Some n)) z ∙ ap (λ o. or_else o (Some (length xs))) (sym (position_from-zero p xs))

-- ---- names

abbrev at : Name → List Name → Option ℕ
at q names = position (same_name q) names

-- the two names are one, or they are apart
one_or_apart : (q n : Name) → (q ≡ n) ⊎ (same_name q n ≡ false)
one_or_apart q n = by (same_name q n) refl
  where
    by : (b : Bool) → same_name q n ≡ b → (q ≡ n) ⊎ (same_name q n ≡ false)
    by true e = inl ((same_name-Decides q n).0 e)
    by false e = inr e

pub same_itself : (n : Name) → same_name n n ≡ true
same_itself n = (same_name-Decides n n).1 refl

-- a name that is there already is found where it was
at_there : (q n : Name) (names : List Name) (k : ℕ) → at n names ≡ Some k → at q (names ++ n ∷ []) ≡ at q names
at_there q n names k e =
    elim (one_or_apart q n) [
      | inl s ↦ let t : same_name q n ≡ true = (same_name-Decides q n).1 s in
          let found : at q names ≡ Some k = ap (λ (m : Name). at m names) s ∙ e in
          position_push (same_name q) names n t ∙ ap (λ o. or_else o (Some (length names))) found ∙ sym found
      | inr f ↦ position_apart (same_name q) names n f
    ]

-- what is found, or not, is what the places have
found_one : (o : Option ℕ) → is_some o ≡ true → (k : ℕ) × (o ≡ Some k)
found_one None e = absurd (true≢false (sym e))
found_one (Some k) e = (k, refl)

found_none : (o : Option ℕ) → is_some o ≡ false → o ≡ None
found_none None e = refl
found_none (Some k) e = absurd (true≢false e)

pub places_there : (names : List Name) (places : List (Name × ℕ)) (name : Name) → HasFirstPlaces names places → is_some (lookup (name_eq name) places) ≡ true → HasFirstPlaces (names ++ name ∷ []) places
places_there names places name h there = λ q. let f = found_one (at name names) (ap is_some (sym (same_lookup places name ∙ h name)) ∙ there) in h q ∙ sym (at_there q name names f.0 f.1)

-- a new name is found at the end
at_new : (q n : Name) (names : List Name) → at n names ≡ None → at q (names ++ n ∷ []) ≡ cond (same_name n q) (Some (length names)) (at q names)
at_new q n names e =
    elim (one_or_apart q n) [
      | inl s ↦ let t : same_name q n ≡ true = (same_name-Decides q n).1 s in
          let u : same_name n q ≡ true = (same_name-Decides n q).1 (sym s) in
          let found : at q names ≡ None = ap (λ (m : Name). at m names) s ∙ e in
          position_push (same_name q) names n t ∙ ap (λ o. or_else o (Some (length names))) found ∙ ap (λ b. cond b (Some (length names)) (at q names)) (sym u)
      | inr f ↦ elim (one_or_apart n q) [
        | inl s ↦ absurd (true≢false (sym ((same_name-Decides q n).1 (sym s)) ∙ f))
        | inr g ↦ position_apart (same_name q) names n f ∙ ap (λ b. cond b (Some (length names)) (at q names)) (sym g)
      ]
    ]

pub places_new : (names : List Name) (places new : List (Name × ℕ)) (name : Name) → HasFirstPlaces names places → is_some (lookup (name_eq name) places) ≡ false
    → ((q : Name) → lookup (name_eq q) new ≡ cond (name_eq name q) (Some (length names)) (lookup (name_eq q) places))
    → HasFirstPlaces (names ++ name ∷ []) new
places_new names places new name h absent updates = λ q.
    let e = found_none (at name names) (ap is_some (sym (same_lookup places name ∙ h name)) ∙ absent) in
    sym (same_lookup new q) ∙ updates q ∙ ap (λ b. cond b (Some (length names)) (lookup (name_eq q) places)) (equal_names name q) ∙ ap (cond (same_name name q) (Some (length names))) (same_lookup places q ∙ h q)
    ∙ sym (at_new q name names e)

-- ---- places that are found

at_place : (names : List Name) (i : ℕ) → name_at names i ≡ get_or names i (Number (2 ^ 32))
at_place [] i = refl
at_place (n ∷ ns) zero = refl
at_place (n ∷ ns) (suc i) = at_place ns i

pub place_found : (names : List Name) (name : Name) (k : ℕ) → at name names ≡ Some k → IsPlaceOf names name k
place_found names name k e =
    let found = position-Some (same_name name) names k (Number (2 ^ 32)) e in
    let here : name ≡ name_at names k = (same_name-Decides name (get_or names k (Number (2 ^ 32)))).0 found.1 ∙ sym (at_place names k) in (
      record {
        within = found.0;
        first = λ j lt same. true≢false (sym ((same_name-Decides name (get_or names j (Number (2 ^ 32)))).1 (here ∙ sym same ∙ at_place names j)) ∙ found.2 j lt);
      },
      sym here,
    )

pub name_contained : (names : List Name) (name : Name) (k : ℕ) → at name names ≡ Some k → Contains names name
name_contained names name k e =
    let found = position-Some (same_name name) names k (Number (2 ^ 32)) e in
    let here : name ≡ get_or names k (Number (2 ^ 32)) = (same_name-Decides name (get_or names k (Number (2 ^ 32)))).0 found.1 in
    subst (λ (n : Name). Contains names n) (sym here) (Contains-get_or names k (Number (2 ^ 32)) found.0)

pub not_contained : (names : List Name) (name : Name) → at name names ≡ None → ¬ Contains names name
not_contained names name e = λ h.
    let apart = from_none (same_name name) 0 names name (sym (position_from-zero (same_name name) names) ∙ e) h.0 h.1 in
    true≢false (sym ((same_name-Decides name (get_or names h.0 name)).1 (sym h.2)) ∙ apart)

pub place_new : (names : List Name) (name : Name) → at name names ≡ None → IsPlaceOf (names ++ name ∷ []) name (length names)
place_new names name e = place_found (names ++ name ∷ []) name (length names) (at_new name name names e ∙ ap (λ b. cond b (Some (length names)) (at name names)) (same_itself name))

-- ---- the names of entries

pub count : (ts : List TypeName) → length (names_of ts) ≡ length ts
count [] = refl
count (t ∷ ts) = ap suc (count ts)

pub names_push : (types : List TypeName) (t : TypeName) → names_of (types ++ t ∷ []) ≡ names_of types ++ t.name ∷ []
names_push types t = map_push (λ (t : TypeName). t.name) types t

-- ---- another type at a place

pub set_types : (types : List TypeName) (k : ℕ) (t : TypeName) (ty : NamedType) → slice_get types k ≡ Some t → set types k (record { name = t.name; ty = ty }) ≡ with_type types k ty
set_types [] k t ty e = absurd cc
set_types (x ∷ xs) zero t ty e = let same : t ≡ x = cc in ap (λ (y : TypeName). record { name = y.name; ty = ty } ∷ xs) same
set_types (x ∷ xs) (suc k) t ty e = ap (λ (l : List TypeName). x ∷ l) (set_types xs k t ty e)

pub same_names : (types : List TypeName) (k : ℕ) (ty : NamedType) → names_of (with_type types k ty) ≡ names_of types
same_names [] k ty = refl
same_names (x ∷ xs) zero ty = refl
same_names (x ∷ xs) (suc k) ty = ap (λ (l : List Name). x.name ∷ l) (same_names xs k ty)

pub places_stay : (types : List TypeName) (places : List (Name × ℕ)) (k : ℕ) (ty : NamedType) → HasFirstPlaces (names_of types) places → HasFirstPlaces (names_of (with_type types k ty)) places
places_stay types places k ty h = λ q. h q ∙ ap (at q) (sym (same_names types k ty))

pub same_length : (types : List TypeName) (k : ℕ) (ty : NamedType) → length (with_type types k ty) ≡ length types
same_length [] k ty = refl
same_length (x ∷ xs) zero ty = refl
same_length (x ∷ xs) (suc k) ty = ap suc (same_length xs k ty)
