-- What is found of a name, in the words of the rule.
use Rattle.std.specs.Prelude.{ℕ, List, [], ◌∷◌, filter_map, codes, Option, Some, if◌then◌else◌}
use Rattle.text_forms.specs.Bind.{◌>>=◌}
use Rattle.text_forms.specs.Form.{is_one_of}
use Rattle.ir_types.specs.declared.inst.Ty.{Ty}
use Rattle.ir_types.specs.declared.inst.Ty.TheVariants.{Int, Ptr, Vector, Void}
use Rattle.ir_types.specs.InstForms.{bits_for, element_of}
use Rattle.ir_types.specs.declared.inst.BinOp.TheVariants.{Add, Mul, And, Or, Xor, SMin, SMax, UMin, UMax}
use Rattle.ir_intrinsics.specs.Intrinsics.{first, Intrinsic as Kind, minimum_maximum, reduction, masked_load, masked_store, lifetime, Meant, meant, any_lifetime, behind_front, width_before, in_family}
use Rattle.ir_intrinsics.specs.declared.meant.Intrinsic.{Intrinsic}
use Rattle.ir_intrinsics.specs.declared.meant.Intrinsic.TheVariants as found
use Rattle.ir_intrinsics.specs.declared.meant.Family.{Family}
use Rattle.ir_intrinsics.specs.declared.meant.Family.TheVariants as families

-- an intrinsic, with the signature that its type asks for
abbrev pub meant_in : Intrinsic → Meant
meant_in (found.MinimumMaximum op t) = meant (minimum_maximum op) t (t ∷ t ∷ [])
meant_in (found.Reduction op t) = meant (reduction op) (element_of t) (t ∷ [])
meant_in (found.MaskedLoad t) = meant masked_load t (Ptr ∷ Int 32 ∷ bits_for t ∷ t ∷ [])
meant_in (found.MaskedStore t) = meant masked_store Void (t ∷ Ptr ∷ Int 32 ∷ bits_for t ∷ [])
meant_in found.Lifetime = any_lifetime

abbrev pub family_in : Family → Kind
family_in (families.MinimumMaximum op) = minimum_maximum op
family_in (families.Reduction op) = reduction op
family_in families.MaskedLoad = masked_load
family_in families.MaskedStore = masked_store
family_in families.Lifetime = lifetime

-- the vector of so many lanes that is written so, before an end
abbrev pub vector_in : (end text : List ℕ) → List ℕ × ℕ → Option Ty
vector_in end text e = behind_front e.0 text >>= width_before end >>= λ w. Some (Vector e.1 w)

-- what a family has for a text
abbrev pub in_one : List ℕ → List ℕ × Kind → Option Meant
in_one text e = behind_front e.0 text >>= in_family e.1

-- how names go on behind `llvm.`
unfoldable pub short_families : List (List ℕ × Kind)
short_families =
    (codes "smin.", minimum_maximum SMin) ∷
    (codes "smax.", minimum_maximum SMax) ∷
    (codes "umin.", minimum_maximum UMin) ∷
    (codes "umax.", minimum_maximum UMax) ∷
    (codes "vector.reduce.add.", reduction Add) ∷
    (codes "vector.reduce.mul.", reduction Mul) ∷
    (codes "vector.reduce.and.", reduction And) ∷
    (codes "vector.reduce.or.", reduction Or) ∷
    (codes "vector.reduce.xor.", reduction Xor) ∷
    (codes "vector.reduce.smin.", reduction SMin) ∷
    (codes "vector.reduce.smax.", reduction SMax) ∷
    (codes "vector.reduce.umin.", reduction UMin) ∷
    (codes "vector.reduce.umax.", reduction UMax) ∷
    (codes "masked.load.", masked_load) ∷
    (codes "masked.store.", masked_store) ∷
    (codes "lifetime.start.", lifetime) ∷
    (codes "lifetime.end.", lifetime) ∷
    []

unfoldable pub short_lifetimes : List (List ℕ)
short_lifetimes = codes "lifetime.start" ∷ codes "lifetime.end" ∷ []

-- the intrinsic of a name that goes on so behind `llvm.`
abbrev pub behind_llvm : List ℕ → Option Meant
behind_llvm text = if is_one_of short_lifetimes text then Some any_lifetime else first (filter_map (in_one text) short_families)
