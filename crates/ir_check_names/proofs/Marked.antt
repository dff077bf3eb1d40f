-- Marks of names say which are among some: those at whose places a mark was set.
use Rattle.std.proofs.Common.{Contains, ◌≡◌, ◌≢◌, ◌<◌, ◌≤◌, ℕ, zero, suc, ◌+◌, Bool, true, false, ◌||◌, List, [], ◌∷◌, ◌++◌, map, length, get_or, set, replicate, Some, refl, sym, ap, ◌∙◌, ◌⊎◌, inl, inr, arith}
use Rattle.std.specs.Prelude.{slice_get, nat_eq}
use Rattle.std.specs.Bool.{Decides}
use Rattle.std.proofs.lemmas.Bool.{cases_lt, cases_eq}
use Rattle.std.proofs.lemmas.Bool.Decides.{Decides-eqb}
use Rattle.std.proofs.lemmas.Map.Keys.{any_passes_from_place}
use Rattle.std.proofs.lemmas.Map.Views.{Contains-from_any}
use Rattle.std.proofs.lemmas.Option.{slice_get-get_or}
use Rattle.std.proofs.lemmas.List.{length-append, length-map, length-set, ext_get_or, get_or-set_same, get_or-set_other}
use Rattle.std.proofs.lemmas.List.Folds.{list_any-append}
use Rattle.std.proofs.lemmas.Slice.Eq.{bytes_eq-Decides}
use Rattle.ir_types.specs.declared.name.Name.{Name}
use Rattle.ir_types.specs.declared.name.Name.TheVariants.{Text, Number}
use Rattle.ir_types.specs.Names.{Adds, IsTable, same_name, has_name, name_at}

-- ---- names

pub same_name-Decides : (m n : Name) → Decides (same_name m n) (m ≡ n)
same_name-Decides (Text s) (Text t) = (λ e. ap Text ((bytes_eq-Decides s t).0 e), λ e. (bytes_eq-Decides s t).1 (cc))
same_name-Decides (Text s) (Number n) = (λ e. absurd (cc), λ e. (cc))
same_name-Decides (Number m) (Text t) = (λ e. absurd (cc), λ e. (cc))
same_name-Decides (Number m) (Number n) = (λ e. ap Number ((Decides-eqb m n).0 e), λ e. (Decides-eqb m n).1 (cc))

same_itself : (n : Name) → same_name n n ≡ true
same_itself n = (same_name-Decides n n).1 refl

apart : (m n : Name) → m ≢ n → same_name m n ≡ false
apart m n h = by (same_name m n) refl
  where
    by : (b : Bool) → same_name m n ≡ b → b ≡ false
    by true e = absurd (h ((same_name-Decides m n).0 e))
    by false e = refl

or_false : (b : Bool) → (b || false) ≡ b
or_false true = refl
or_false false = refl

or_true : (b : Bool) → (b || true) ≡ true
or_true true = refl
or_true false = refl

has_last : (n m : Name) (known : List Name) → has_name n (known ++ m ∷ []) ≡ (has_name n known || same_name n m)
has_last n m known = list_any-append (same_name n) known (m ∷ []) ∙ ap (λ b. has_name n known || b) (or_false (same_name n m))

has_name-Decides : (n : Name) (known : List Name) → Decides (has_name n known) (Contains known n)
has_name-Decides n known = (λ e. Contains-from_any (λ x y e. (same_name-Decides x y).0 e) n known e, λ h. any_passes_from_place (same_name n) known h.0 n (slice_get-get_or known h.0 n h.1 ∙ ap Some h.2) (same_itself n))

-- a table to which a name is added stays as long as it was exactly where it has the name
pub as_long : (old : List Name) (n : Name) (new : List Name) → Adds old n new → nat_eq (length new) (length old) ≡ has_name n old
as_long old n new (inl s) = (Decides-eqb (length new) (length old)).1 (ap length s.1) ∙ sym ((has_name-Decides n old).1 s.0)
as_long old n new (inr s) = by (has_name n old) refl (nat_eq (length new) (length old)) refl
  where
    longer : length new ≡ length old + 1
    longer = ap length s.1 ∙ length-append old (n ∷ [])

    by : (b : Bool) → has_name n old ≡ b → (e : Bool) → nat_eq (length new) (length old) ≡ e → e ≡ b
    by true h e f = absurd (s.0 ((has_name-Decides n old).0 h))
    by false h true f = let same = (Decides-eqb (length new) (length old)).0 f in absurd (omega (arith, same, longer))
    by false h false f = refl

-- ---- names at their places

-- in the list, a place gets the name there
pub got_at : (names : List Name) (i : ℕ) → i < length names → slice_get names i ≡ Some (name_at names i)
got_at [] i lt = absurd (omega arith)
got_at (n ∷ names) zero lt = refl
got_at (n ∷ names) (suc i) lt = got_at names i (omega arith)

name_there : (names : List Name) (i : ℕ) (d : Name) → i < length names → name_at names i ≡ get_or names i d
name_there [] i d lt = absurd (omega arith)
name_there (n ∷ names) zero d lt = refl
name_there (n ∷ names) (suc i) d lt = name_there names i d (omega arith)

-- each of a list is among it
pub has_itself : (names : List Name) (i : ℕ) → i < length names → has_name (name_at names i) names ≡ true
has_itself names i lt = any_passes_from_place (same_name (name_at names i)) names i (name_at names i) (got_at names i lt) (same_itself (name_at names i))

-- two places of a table have two names
pub places_apart : (names : List Name) (i j : ℕ) → IsTable names → i < length names → j < length names → j ≢ i → name_at names j ≢ name_at names i
places_apart names i j t within there ne e = by (cases_lt j i)
  where
    d : Name
    d = name_at names i

    at : (k : ℕ) → k < length names → name_at names k ≡ get_or names k d
    at k lt = name_there names k d lt

    by : (j < i) ⊎ (i ≤ j) → ⊥
    by (inl lt) = t.distinct j i d lt within (sym (at j there) ∙ e ∙ at i within)
    by (inr le) = t.distinct i j d (let lt : i < j = elim (cases_eq j i) [ inl s ↦ absurd (ne s) | inr s ↦ grind arith ] in lt) there (sym (at i within) ∙ sym e ∙ at j there)

-- ---- marks

-- which names are among some
abbrev pub marks_of : List Name → List Name → List Bool
marks_of names known = map (λ n. has_name n known) names

-- the mark at a place says whether the name there is known
pub mark_at : (names known : List Name) (i : ℕ) → i < length names → get_or (marks_of names known) i false ≡ has_name (name_at names i) known
mark_at [] known i lt = absurd (omega arith)
mark_at (n ∷ names) known zero lt = refl
mark_at (n ∷ names) known (suc i) lt = mark_at names known i (omega arith)

-- where none is known, none is marked
pub none_marked : (names : List Name) → replicate (length names) false ≡ marks_of names []
none_marked [] = refl
none_marked (n ∷ names) = ap (λ bs. false ∷ bs) (none_marked names)

-- one mark more
pub marked_more : (names known : List Name) (i : ℕ) → IsTable names → i < length names → set (marks_of names known) i true ≡ marks_of names (known ++ name_at names i ∷ [])
marked_more names known i t within = ext_get_or false (set (marks_of names known) i true) (marks_of names later) (length-set (marks_of names known) i true ∙ length-map names _ ∙ sym (length-map names _)) each
  where
    later : List Name
    later = known ++ name_at names i ∷ []

    long : length (marks_of names known) ≡ length names
    long = length-map names _

    at_place : (j : ℕ) → j < length names → (j ≡ i) ⊎ (j ≢ i) → get_or (set (marks_of names known) i true) j false ≡ get_or (marks_of names later) j false
    at_place j lt (inl same) =
        let i_in : i < length (marks_of names known) = omega (arith, long) in
        let here = get_or-set_same (marks_of names known) i true false i_in in
        let found : has_name (name_at names i) later ≡ true = has_last (name_at names i) (name_at names i) known ∙ ap (λ b. has_name (name_at names i) known || b) (same_itself (name_at names i)) ∙ or_true (has_name (name_at names i) known) in
        ap (λ k. get_or (set (marks_of names known) i true) k false) same ∙ here ∙ sym found ∙ sym (mark_at names later i within) ∙ ap (λ k. get_or (marks_of names later) k false) (sym same)
    at_place j lt (inr other) =
        get_or-set_other (marks_of names known) i j true false other ∙ mark_at names known j lt ∙ sym (has_last (name_at names j) (name_at names i) known ∙ ap (λ b. has_name (name_at names j) known || b) (apart (name_at names j) (name_at names i) (places_apart names i j t within lt other)) ∙ or_false (has_name (name_at names j) known)) ∙ sym (mark_at names later j lt)

    each : (j : ℕ) → j < length (set (marks_of names known) i true) → get_or (set (marks_of names known) i true) j false ≡ get_or (marks_of names later) j false
    each j lt = at_place j (omega (arith, long, length-set (marks_of names known) i true)) (cases_eq j i)
