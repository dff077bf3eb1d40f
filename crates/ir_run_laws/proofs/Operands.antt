-- Operands respect refinement.
use Rattle.std.proofs.Common.{◌≡◌, Bool, true, false, cond, List, [], ◌∷◌, Option, Some, None, refl, subst}
use Rattle.std.specs.List.{AllZip, AllByRecursion}
use Rattle.text_forms.specs.Bind.{◌>>=◌}
use Rattle.ir_types.specs.declared.name.Name.{Name}
use Rattle.ir_types.specs.declared.inst.Ty.{Ty}
use Rattle.ir_types.specs.Tree.{OperandTree, local, number, null, poison, lanes, global, out_of_range, InstTree}
use Rattle.ir_types.specs.Names.{same_name}
use Rattle.ir_meaning.specs.declared.value.Value.{Value}
use Rattle.ir_meaning.specs.declared.value.Value.TheVariants.{Int, Ptr, Lanes}
use Rattle.ir_types.specs.ValueForms.{width_of}
use Rattle.ir_meaning.specs.Values.{has_type, HasType, typed}
use Rattle.ir_meaning.specs.Memory.{Memory}
use Rattle.ir_meaning.specs.State.{Env}
use Rattle.ir_meaning.specs.Meaning.{null_pointer, poison_of, lane_width, operand_value, values_of, entry_for, phi_value}
use Rattle.ir_meaning.specs.Refines.{ValueRefines, same_value, MemoryRefines}
use Rattle.ir_run_laws.specs.Respect.{EnvRefines, IsOperandOf, OperandsRefine}

-- a value that is given at a type is of the type
typed-is : (ty : Ty) (v w : Value) → typed ty v ≡ Some w → (v ≡ w) × HasType ty v
typed-is ty v w e = by (has_type ty v) refl e
  where
    by : (b : Bool) → has_type ty v ≡ b → cond b (Some v) None ≡ Some w → (v ≡ w) × HasType ty v
    by true t h = ((cc), t)
    by false t h = absurd (cc)

-- and one of the type is given
typed-some : (ty : Ty) (v : Value) → HasType ty v → typed ty v ≡ Some v
typed-some ty v t = rw t refl

-- a value here of the type that refines the one there
abbrev Given : Ty → Option Value → Value → Type 0
Given ty o w = (v : Value) × (o ≡ Some v) × HasType ty v × HasType ty w × ValueRefines ty v w

-- a constant has one value
constant-given : (ty : Ty) (v w : Value) → typed ty v ≡ Some w → Given ty (typed ty v) w
constant-given ty v w e = let t = typed-is ty v w e in (w, e, subst (HasType ty) t.0 t.1, subst (HasType ty) t.0 t.1, same_value)

module _ (here other : Memory) (types : Name → Ty) (env there : Env) where
  operand-respects : (ty : Ty) (a : OperandTree) (w : Value) → MemoryRefines here other → EnvRefines types env there → IsOperandOf types ty a → operand_value other there ty a ≡ Some w → Given ty (operand_value here env ty a) w
  operand-respects ty (local name) w mem h is e = by (there name) refl e
    where
      by : (o : Option Value) → there name ≡ o → (o >>= λ v. typed ty v) ≡ Some w → Given ty (env name >>= λ v. typed ty v) w
      by None f g = absurd (cc)
      by (Some x) f g =
          let t = typed-is ty x w g in
          let r = h name x f in
          let found : Given ty (env name) x = subst (λ s. Given s (env name) x) is r in
          (found.0, rw found.1 (typed-some ty found.0 found.2), found.2, subst (HasType ty) t.0 found.3, subst (ValueRefines ty found.0) t.0 found.4)
  operand-respects ty (number x) w mem h is e = constant-given ty (Int (width_of ty) x) w e
  operand-respects ty null w mem h is e = constant-given ty (Ptr null_pointer) w e
  operand-respects ty poison w mem h is e = constant-given ty (poison_of ty) w e
  operand-respects ty (lanes xs) w mem h is e = constant-given ty (Lanes (lane_width ty) xs) w e
  operand-respects ty (global i bytes) w mem h is e = absurd (cc)
  operand-respects ty (out_of_range i) w mem h is e = absurd (cc)

  -- the values of a list of operands
  abbrev GivenAll : List Ty → Option (List Value) → List Value → Type 0
  GivenAll tys o ws = (vs : List Value) × (o ≡ Some vs) × OperandsRefine tys vs ws

  -- where operands have values there, they have values here that refine those
  pub values-respect : (tys : List Ty) (args : List OperandTree) (ws : List Value) → MemoryRefines here other → EnvRefines types env there → AllZip (IsOperandOf types) tys args → values_of other there tys args ≡ Some ws → GivenAll tys (values_of here env tys args) ws
  values-respect [] [] [] mem h is e = ([], refl, tt)
  values-respect [] [] (w ∷ ws) mem h is e = absurd (cc)
  values-respect [] (a ∷ args) ws mem h is e = absurd is
  values-respect (ty ∷ tys) [] ws mem h is e = absurd is
  values-respect (ty ∷ tys) (a ∷ args) ws mem h is e =
      by (λ xs g. values-respect tys args xs mem h is.1 g) (operand_value other there ty a) refl (values_of other there tys args) refl e
    where
      by : ((xs : List Value) → values_of other there tys args ≡ Some xs → GivenAll tys (values_of here env tys args) xs) → (o : Option Value) → operand_value other there ty a ≡ o → (p : Option (List Value)) → values_of other there tys args ≡ p → (o >>= λ v. p >>= λ vs. Some (v ∷ vs)) ≡ Some ws → GivenAll (ty ∷ tys) (operand_value here env ty a >>= λ v. values_of here env tys args >>= λ vs. Some (v ∷ vs)) ws
      by later None f p g k = absurd (cc)
      by later (Some x) f None g k = absurd (cc)
      by later (Some x) f (Some xs) g k =
          let same : x ∷ xs ≡ ws = cc in
          let first = operand-respects ty a x mem h is.0 f in
          let rest = later xs g in
          (first.0 ∷ rest.0, rw first.1 (rw rest.1 refl), subst (OperandsRefine (ty ∷ tys) (first.0 ∷ rest.0)) same (first.2, first.3, first.4, rest.2))

  -- the operand of a phi is one of its operands
  entry-is : (P : OperandTree → Type 0) (left : Name) (args : List OperandTree) (labels : List Name) (a : OperandTree) → AllByRecursion P args → entry_for left args labels ≡ Some a → P a
  entry-is P left [] labels a all e = absurd (cc)
  entry-is P left (x ∷ args) [] a all e = absurd (cc)
  entry-is P left (x ∷ args) (l ∷ labels) a all e = by (λ k. entry-is P left args labels a all.1 k) (same_name l left) e
    where
      by : (entry_for left args labels ≡ Some a → P a) → (b : Bool) → cond b (Some x) (entry_for left args labels) ≡ Some a → P a
      by later true k = let same : x ≡ a = cc in subst P same all.0
      by later false k = later k

  -- where a phi takes a value there, it takes one here that refines it
  pub phi-respects : (left : Name) (i : InstTree) (w : Value) → MemoryRefines here other → EnvRefines types env there → AllByRecursion (IsOperandOf types i.ty) i.args → phi_value other there left i ≡ Some w → (v : Value) × (phi_value here env left i ≡ Some v) × HasType i.ty v × HasType i.ty w × ValueRefines i.ty v w
  phi-respects left i w mem h all e = by (entry_for left i.args i.labels) refl e
    where
      by : (o : Option OperandTree) → entry_for left i.args i.labels ≡ o → (o >>= λ a. operand_value other there i.ty a) ≡ Some w → (v : Value) × ((o >>= λ a. operand_value here env i.ty a) ≡ Some v) × HasType i.ty v × HasType i.ty w × ValueRefines i.ty v w
      by None f k = absurd (cc)
      by (Some a) f k = let r = operand-respects i.ty a w mem h (entry-is (IsOperandOf types i.ty) left i.args i.labels a all f) k in r
