-- Names that are looked up once for all have the same first long name.
use Rattle.std.proofs.Common.{◌≡◌, ℕ, Bool, true, false, cond, ◌||◌, List, [], ◌∷◌, ◌++◌, Option, Some, None, refl, sym, ap, ◌∙◌}
use Rattle.ir_types.specs.declared.name.Name.{Name}
use Rattle.ir_types.specs.declared.memory_type.TypeName.{TypeName}
use Rattle.ir_types.specs.Names.{same_name, has_name, unknown}
use Rattle.ir_types.specs.TypeNodes.{TypeNode, names_used}
use Rattle.ir_reader_types.specs.TypeTable.{names_of, LooksUpAll}
use Rattle.ir_reader_types.proofs.LookUps.{missing_names}
use Rattle.ir_reader_types.proofs.FirstPlaces.{same_name-Decides}
use Rattle.ir_limits.specs.Limits.{long_name, or_else, first_long}
use Rattle.ir_limits.proofs.Firsts.{first_of_both}

none_first : (o p : Option ℕ) → or_else o p ≡ None → (o ≡ None) × (p ≡ None)
none_first None p e = (refl, e)
none_first (Some n) p e = absurd cc

-- a name among others that are not long is not long
not_long : (n : Name) (ns : List Name) → first_long ns ≡ None → has_name n ns ≡ true → long_name n ≡ None
not_long n [] e h = absurd cc
not_long n (m ∷ ns) e h = by (same_name n m) refl h (λ k. not_long n ns parts.1 k)
  where
    parts : (long_name m ≡ None) × (first_long ns ≡ None)
    parts = none_first (long_name m) (first_long ns) e

    by : (b : Bool) → same_name n m ≡ b → (b || has_name n ns) ≡ true → (has_name n ns ≡ true → long_name n ≡ None) → long_name n ≡ None
    by true s k go = ap long_name ((same_name-Decides n m).0 s) ∙ parts.0
    by false s k go = go k

abbrev one_more : List Name → Name → List Name
one_more known n = known ++ n ∷ []

long_one : (known : List Name) (n : Name) → first_long known ≡ None → long_name n ≡ None → first_long (one_more known n) ≡ None
long_one known n e d = first_of_both known (n ∷ []) ∙ ap (λ (o : Option ℕ). or_else o (or_else (long_name n) None)) e ∙ ap (λ (o : Option ℕ). or_else o None) d

pub long_unknown : (known ns : List Name) → first_long known ≡ None → first_long (unknown known ns) ≡ first_long ns
long_unknown known [] e = refl
long_unknown known (n ∷ ns) e = by (has_name n known) refl (long_unknown known ns e) (λ d. long_unknown (one_more known n) ns (long_one known n e d))
  where
    later : (o : Option ℕ) → long_name n ≡ o → (long_name n ≡ None → first_long (unknown (one_more known n) ns) ≡ first_long ns) → or_else o (first_long (unknown (one_more known n) ns)) ≡ or_else o (first_long ns)
    later None d go = go d
    later (Some k) d go = refl

    by : (b : Bool) → has_name n known ≡ b → first_long (unknown known ns) ≡ first_long ns → (long_name n ≡ None → first_long (unknown (one_more known n) ns) ≡ first_long ns) → first_long (cond b (unknown known ns) (n ∷ unknown (one_more known n) ns)) ≡ or_else (long_name n) (first_long ns)
    by true h there go = there ∙ ap (λ (o : Option ℕ). or_else o (first_long ns)) (sym (not_long n known e h))
    by false h there go = later (long_name n) refl go

-- the names that were looked up for one type alone
pub of_scratch : (entries : List TypeName) (nodes : List TypeNode) → LooksUpAll [] nodes entries → first_long (names_of entries) ≡ first_long (names_used nodes)
of_scratch entries nodes h = ap (λ (l : List TypeName). first_long (names_of l)) h ∙ ap first_long (missing_names (unknown [] (names_used nodes))) ∙ long_unknown [] (names_used nodes) refl
