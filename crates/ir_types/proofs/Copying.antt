-- The names of a table are added one after another.
use Rattle.std.proofs.Common.{◌≡◌, ◌+◌, ◌<◌, ℕ, zero, suc, List, [], ◌∷◌, ◌++◌, length, get_or, take, refl, sym, ap, ◌∙◌, subst, arith, inl, inr}
use Rattle.std.specs.Prelude.{Contains}
use Rattle.std.proofs.lemmas.List.{get_or-take, length-take, take_more}
use Rattle.ir_types.specs.declared.name.Name.{Name}
use Rattle.ir_types.specs.Names.{Adds, IsTable, name_at}

name_is : (ns : List Name) (i : ℕ) (d : Name) → i < length ns → name_at ns i ≡ get_or ns i d
name_is [] i d lt = absurd (omega arith)
name_is (n ∷ ns) zero d lt = refl
name_is (n ∷ ns) (suc i) d lt = name_is ns i d (omega arith)

-- no name stands in front of itself
not_before : (ns : List Name) → IsTable ns → (i : ℕ) (x : Name) → i < length ns → get_or ns i x ≡ x → ¬ Contains (take i ns) x
not_before ns table i x lt e h =
    let short = length-take i ns in
    let k : h.0 < i = let w = h.1 in omega (arith, short) in
    table.distinct h.0 i x k lt (sym (get_or-take i ns h.0 x k) ∙ h.2 ∙ sym e)

-- A table's front with the next name added is the front that is one longer.
pub copied_next : (old new ns : List Name) (i : ℕ) (x : Name) → IsTable ns → old ≡ take i ns → i < length ns → name_at ns i ≡ x → Adds old x new → new ≡ take (i + 1) ns
copied_next old new ns i x table o lt e (inl there) = absurd (not_before ns table i x lt (sym (name_is ns i x lt) ∙ e) (subst (λ (l : List Name). Contains l x) o there.0))
copied_next old new ns i x table o lt e (inr fresh) =
    fresh.1 ∙ ap (λ (l : List Name). l ++ x ∷ []) o ∙ ap (λ (y : Name). take i ns ++ y ∷ []) (sym e ∙ name_is ns i x lt) ∙ sym (take_more ns i x lt)
