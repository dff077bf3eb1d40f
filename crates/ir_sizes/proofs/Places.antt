-- What the code reads at a place is what stands there.
use Rattle.std.proofs.Common.{◌≡◌, ◌<◌, ℕ, List, Some, length, get_or, refl, sym, ap, ◌∙◌}
use Rattle.std.specs.Prelude.{slice_get}
use Rattle.std.proofs.lemmas.Option.{slice_get-get_or}
use Rattle.ir_types.specs.declared.memory_type.MemTy.{MemTy}
use Rattle.ir_types.specs.declared.memory_type.MemTy.TheVariants.{One, Array, Struct, Named}
use Rattle.ir_types.specs.declared.memory_type.NamedType.{NamedType}
use Rattle.ir_types.specs.declared.memory_type.NamedType.TheVariants.{Defined}
use Rattle.ir_types.specs.declared.memory_type.TypeId.{TypeId}
use Rattle.ir_types.specs.declared.memory_type.TypeName.{TypeName}
use Rattle.ir_sizes.specs.Known.{IsDefined}
use Rattle.ir_sizes.specs.Stepping.{IsUnnamed}

-- a type that is no name
pub not_named : (t : MemTy) → ((k : ℕ) → t ≡ Named k → ⊥) → IsUnnamed t
not_named (One t) h = tt
not_named (Array n element) h = tt
not_named (Struct packed ids) h = tt
not_named (Named k) h = h k refl

pub there : (types : List MemTy) (i : ℕ) (t u : MemTy) → i < length types → ((d : MemTy) → t ≡ get_or types i d) → t ≡ u → slice_get types i ≡ Some u
there types i t u within is same = slice_get-get_or types i t within ∙ ap Some (sym (is t) ∙ same)

-- a name with what it stands for
pub defined_there : (names : List TypeName) (k : ℕ) (n : TypeName) (id : TypeId) → slice_get names k ≡ Some n → n.ty ≡ Defined id → IsDefined names k id
defined_there names k n id e f = (n.name, e ∙ ap (λ (t : NamedType). let m : TypeName = record { name = n.name; ty = t } in Some m) f)
