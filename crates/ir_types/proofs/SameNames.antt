-- `==` on names is equality of values, so what a set of names says of its keys is said of the list of names.
use Rattle.std.proofs.Common.{◌≡◌, ◌<◌, ◌≤◌, ◌+◌, ◌^◌, Bool, true, false, List, [], ◌∷◌, ◌++◌, length, Some, if◌then◌else◌, refl, sym, ap, ◌∙◌, inl, inr, true≢false, arith, length-append}
use Rattle.std.specs.Prelude.{Contains}
use Rattle.std.specs.Bool.{Decides}
use Rattle.std.specs.List.{list_any, IsDistinct}
use Rattle.std.proofs.lemmas.Bool.Decides.{Decides-eqb}
use Rattle.std.proofs.lemmas.Slice.Eq.{bytes_eq-Decides}
use Rattle.std.proofs.lemmas.Map.Keys.{apart_from_distinct, any_passes_from_place}
use Rattle.std.proofs.lemmas.Option.{slice_get-get_or}
use Rattle.indexmap.specs.IndexSet.{insert_key}
use Rattle.indexmap.proofs.CallerLemmas.{Contains-list_any}
use Rattle.ir_types.specs.declared.name.Name.{Name}
use Rattle.ir_types.specs.declared.name.Name.TheVariants.{Text, Number}
use Rattle.ir_types.specs.contracts.name.NamePartialEq.TheImpl.{eq-value}
use Rattle.ir_types.specs.Names.{Adds, IsTable}

-- `==` on names, as the code computes it
abbrev pub name_eq : Name → Name → Bool
name_eq = eq-value.it

-- It is true exactly for equal names.
pub name_eq-Decides : (x y : Name) → Decides (name_eq x y) (x ≡ y)
name_eq-Decides (Text a) (Text b) = (λ e. ap Text ((bytes_eq-Decides a b).0 e), λ e. (bytes_eq-Decides a b).1 (cc))
name_eq-Decides (Text a) (Number n) = (λ e. absurd (true≢false (sym e)), λ e. (cc))
name_eq-Decides (Number m) (Text b) = (λ e. absurd (true≢false (sym e)), λ e. (cc))
name_eq-Decides (Number m) (Number n) = (λ e. ap Number ((Decides-eqb m n).0 e), λ e. (Decides-eqb m n).1 (cc))

list_any-Contains : (names : List Name) (name : Name) → Contains names name → list_any (name_eq name) names ≡ true
list_any-Contains names name h =
    any_passes_from_place (name_eq name) names h.0 name (slice_get-get_or names h.0 name h.1 ∙ ap Some h.2) ((name_eq-Decides name name).1 refl)

-- what inserting a name into the set does to the list of its keys
pub Adds-insert_key : (names : List Name) (name : Name) → Adds names name (insert_key name_eq names name)
Adds-insert_key names name = by (list_any (name_eq name) names) refl
  where
    by : (b : Bool) → list_any (name_eq name) names ≡ b → Adds names name (if b then names else names ++ name ∷ [])
    by true e = inl (Contains-list_any name_eq (λ x y. (name_eq-Decides x y).0) names name e, refl)
    by false e = inr (λ h. true≢false (sym (list_any-Contains names name h) ∙ e), refl)

length-Adds : (old : List Name) (name : Name) (new : List Name) → Adds old name new → length new ≤ length old + 1
length-Adds old name new h =
    elim h [ inl s ↦ omega (arith, ap length s.1) | inr s ↦ omega (arith, ap length s.1, length-append old (name ∷ [])) ]

-- a set's keys are a table
pub IsTable-from_set : (names : List Name) → IsDistinct name_eq names → length names < 2 ^ 32 → IsTable names
IsTable-from_set names distinct small = record {
  distinct = λ i j d lt within e. true≢false (sym ((name_eq-Decides _ _).1 e) ∙ apart_from_distinct name_eq names i j d distinct lt within);
  small = small;
}

-- A set's keys with one more name are a table, where there is room.
pub IsTable-Adds : (old : List Name) (name : Name) (new : List Name) → length old + 1 < 2 ^ 32 → IsDistinct name_eq new → Adds old name new → IsTable new
IsTable-Adds old name new room distinct h = IsTable-from_set new distinct (omega (arith, length-Adds old name new h))
