-- Labels are counted by their places.
use Rattle.std.proofs.Common.{◌≡◌, ℕ, ◌+◌, ◌<◌, Bool, cond, nat_eq, inl, inr, List, [], ◌∷◌, length, map, subst, ◌&&◌, refl, sym, ap, ◌∙◌}
use Rattle.std.specs.Bool.{Decides}
use Rattle.std.specs.List.{AllByRecursion, list_all}
use Rattle.std.specs.Ordering.{nat_cmp}
use Rattle.std.specs.List.Sorted.{IsPermutation, IsSortedByKey}
use Rattle.std.specs.Cmp.Lexicographic.{pointwise, same_text, other_text}
use Rattle.std.proofs.lemmas.List.Sums.{sum_by-cons}
use Rattle.std.proofs.lemmas.List.Folds.{list_all-append}
use Rattle.std.proofs.lemmas.List.Sorted.{IsNonDecreasingBy-from_sort}
use Rattle.std.proofs.lemmas.Bool.Decides.{same_from_decides}
use Rattle.text_forms.proofs.Begins.{test}
use Rattle.ir_types.specs.declared.name.Name.{Name}
use Rattle.ir_types.specs.declared.name.ValueId.{ValueId}
use Rattle.ir_types.specs.Names.{IsTable, name_at, same_name}
use Rattle.ir_types.specs.Denotes.{name_in}
use Rattle.ir_rules.specs.Edges.{count_of, same_counts}
use Rattle.ir_check_edges.specs.Counted.{ArePlacesOf}
use Rattle.ir_graph.proofs.Tables.{same_place}
use Rattle.ir_check_edges.proofs.Sorted.{occurs, counts_agree, sorted_tell}

abbrev pub numbers : List ValueId → List ℕ
numbers ls = map (λ (l : ValueId). l.0) ls

named_count : (ns : List Name) → IsTable ns → (i : ℕ) → i < length ns → (ls : List ValueId) → AllByRecursion (λ j. j < length ns) (numbers ls) → occurs i (numbers ls) ≡ count_of (name_at ns i) (map (name_in ns) ls)
named_count ns table i here [] within = refl
named_count ns table i here (l ∷ ls) within =
    sum_by-cons (λ y. cond (nat_eq i y) 1 0) l.0 (numbers ls)
    ∙ ap (λ b. cond b 1 0 + occurs i (numbers ls)) (same_place ns table i l.0 here within.0)
    ∙ ap (λ k. cond (same_name (name_at ns i) (name_in ns l)) 1 0 + k) (named_count ns table i here ls within.1)
    ∙ sym (sum_by-cons (λ y. cond (same_name (name_at ns i) y) 1 0) (name_in ns l) (map (name_in ns) ls))

each_told : (P : Name → Bool) (Q : ℕ → Bool) (ns : List Name) → ((i : ℕ) → i < length ns → Q i ≡ P (name_at ns i)) → (ls : List ValueId) → AllByRecursion (λ j. j < length ns) (numbers ls) → list_all Q (numbers ls) ≡ list_all P (map (name_in ns) ls)
each_told P Q ns so [] within = refl
each_told P Q ns so (l ∷ ls) within = rw (so l.0 within.0, each_told P Q ns so ls within.1) refl

named_counts : (ns : List Name) → IsTable ns → (ls ks : List ValueId) → AllByRecursion (λ j. j < length ns) (numbers ls) → AllByRecursion (λ j. j < length ns) (numbers ks) → counts_agree (numbers ls) (numbers ks) ≡ same_counts (map (name_in ns) ls) (map (name_in ns) ks)
named_counts ns table ls ks within others =
    let Q : ℕ → Bool = λ n. nat_eq (occurs n (numbers ls)) (occurs n (numbers ks)) in
    let P : Name → Bool = λ n. nat_eq (count_of n (map (name_in ns) ls)) (count_of n (map (name_in ns) ks)) in
    let so : (i : ℕ) → i < length ns → Q i ≡ P (name_at ns i) = λ i here. rw (named_count ns table i here ls within, named_count ns table i here ks others) refl in
    list_all-append Q (numbers ls) (numbers ks)
    ∙ ap (λ b. b && list_all Q (numbers ks)) (each_told P Q ns so ls within)
    ∙ ap (λ b. list_all P (map (name_in ns) ls) && b) (each_told P Q ns so ks others)
    ∙ sym (list_all-append P (map (name_in ns) ls) (map (name_in ns) ks))

equal_lists : (us vs : List ℕ) → Decides (pointwise nat_eq us vs) (us ≡ vs)
equal_lists us vs = (λ e. same_text us vs (sym e), λ e. elim (test (pointwise nat_eq us vs)) [ inl t ↦ t | inr f ↦ absurd (other_text us vs (sym f) e) ])

tell_in : (ns : List Name) (ls ks : List ValueId) (us vs : List ℕ) → IsTable ns → AllByRecursion (λ j. j < length ns) (numbers ls) → AllByRecursion (λ j. j < length ns) (numbers ks) → IsPermutation (numbers ls) us → IsPermutation (numbers ks) vs → IsSortedByKey (λ x. x) nat_cmp us → IsSortedByKey (λ x. x) nat_cmp vs → pointwise nat_eq us vs ≡ same_counts (map (name_in ns) ls) (map (name_in ns) ks)
tell_in ns ls ks us vs table within others moved other_moved rising other_rising =
    same_from_decides (pointwise nat_eq us vs) (counts_agree (numbers ls) (numbers ks)) (equal_lists us vs) (sorted_tell (numbers ls) (numbers ks) us vs moved other_moved (IsNonDecreasingBy-from_sort (λ x. x) us rising) (IsNonDecreasingBy-from_sort (λ x. x) vs other_rising))
    ∙ named_counts ns table ls ks within others

pub told : (ns : List Name) (ls ks : List ValueId) (ps qs us vs : List ℕ) (r : Bool) → IsTable ns → ArePlacesOf ns ls ps → ArePlacesOf ns ks qs → IsPermutation ps us → IsPermutation qs vs → IsSortedByKey (λ x. x) nat_cmp us → IsSortedByKey (λ x. x) nat_cmp vs → r ≡ pointwise nat_eq us vs → r ≡ same_counts (map (name_in ns) ls) (map (name_in ns) ks)
told ns ls ks ps qs us vs r table are others moved other_moved rising other_rising e =
    e ∙ tell_in ns ls ks us vs table (subst (AllByRecursion (λ j. j < length ns)) are.are are.within) (subst (AllByRecursion (λ j. j < length ns)) others.are others.within) (subst (λ p. IsPermutation p us) are.are moved) (subst (λ q. IsPermutation q vs) others.are other_moved) rising other_rising
