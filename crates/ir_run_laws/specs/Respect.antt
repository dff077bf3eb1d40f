-- What it means that the operations of a step respect refinement.
use Rattle.std.specs.Prelude.{◌≡◌, ℕ, List, [], ◌∷◌, Option, Some, None}
use Rattle.std.specs.List.{AllZip, AllByRecursion}
use Rattle.ir_types.specs.declared.name.Name.{Name}
use Rattle.ir_types.specs.declared.inst.Ty.{Ty}
use Rattle.ir_types.specs.Kinds.{Kind, Compare, operand_types}
use Rattle.ir_types.specs.Tree.{OperandTree, local, InstTree, ModuleTree}
use Rattle.ir_types.specs.InstForms.{bits_for}
use Rattle.ir_meaning.specs.declared.value.Value.{Value}
use Rattle.ir_meaning.specs.Memory.{Memory}
use Rattle.ir_meaning.specs.Values.{HasType}
use Rattle.ir_meaning.specs.State.{Env}
use Rattle.ir_meaning.specs.Meaning.{Effect, Passing, Passes, Branching, Goes, Calling, Calls, Leaving, Leaves, Fails, Waits, values_of, phi_value, effect_of}
use Rattle.ir_meaning.specs.Refines.{ValueRefines, TypedRefines, ResultRefines}

-- where a name has a value there, that and the one that it has here are of the name's type, and the one here refines the other
abbrev pub EnvRefines : (types : Name → Ty) → (here other : Env) → Type 0
EnvRefines types here other =
    (name : Name) (w : Value) → other name ≡ Some w → (v : Value) × (here name ≡ Some v) × HasType (types name) v × HasType (types name) w × ValueRefines (types name) v w

-- an operand of that type: a name that has it, or a constant
abbrev pub IsOperandOf : (types : Name → Ty) → Ty → OperandTree → Type 0
IsOperandOf types ty (local name) = types name ≡ ty
IsOperandOf types ty a = Unit {0}

-- values of these types, one by one, those here refining those there
abbrev pub OperandsRefine : List Ty → (here other : List Value) → Type 0
OperandsRefine [] [] [] = Unit {0}
OperandsRefine (ty ∷ types) (v ∷ vs) (w ∷ ws) = HasType ty v × HasType ty w × ValueRefines ty v w × OperandsRefine types vs ws
OperandsRefine types vs ws = ⊥

-- the type of the value that an instruction gives its result
abbrev pub result_type : Kind → Ty → Ty
result_type (Compare p of) ty = bits_for of
result_type kind ty = ty

-- what a result is given here and there: no value in both, or values of the type, the one here refining the other
pub data GivenRefines (ty : Ty) : (here other : Option Value) → Type 0 where
  none_given : GivenRefines ty None None
  given : {v w : Value} → HasType ty v → HasType ty w → ValueRefines ty v w → GivenRefines ty (Some v) (Some w)

-- a call of the same function, with arguments that refine the other's, one by one and each at its type
pub record CallRefines (here other : Calling) : Type 0 where
  pub name : here.name ≡ other.name
  pub args : AllZip TypedRefines here.args other.args

-- what is asked for here and there: the same, with values that refine; and anything where the run is undefined there
pub data EffectRefines (ty : Ty) : (here other : Effect) → Type 0 where
  passes : {p q : Passing} → GivenRefines ty p.value q.value → EffectRefines ty (Passes p) (Passes q)
  goes : {b c : Branching} → b.label ≡ c.label → EffectRefines ty (Goes b) (Goes c)
  calls : {c d : Calling} → CallRefines c d → EffectRefines ty (Calls c) (Calls d)
  leaves : {k l : Leaving} → ResultRefines k.value l.value → EffectRefines ty (Leaves k) (Leaves l)
  of_fails : {e : Effect} → EffectRefines ty e Fails
  waits : EffectRefines ty Waits Waits

-- where operands have values there, they have values here that refine those
abbrev pub OperandsRespect : (types : Name → Ty) → (here other : Memory) → (env there : Env) → Type 0
OperandsRespect types here other env there =
    (tys : List Ty) (args : List OperandTree) (ws : List Value) → AllZip (IsOperandOf types) tys args → values_of other there tys args ≡ Some ws → (vs : List Value) × (values_of here env tys args ≡ Some vs) × OperandsRefine tys vs ws

-- where a phi takes a value there, from the block that was left, it takes one here that refines it
abbrev pub PhisRespect : (types : Name → Ty) → (here other : Memory) → (env there : Env) → Type 0
PhisRespect types here other env there =
    (left : Name) (i : InstTree) (w : Value) → AllByRecursion (IsOperandOf types i.ty) i.args → phi_value other there left i ≡ Some w → (v : Value) × (phi_value here env left i ≡ Some v) × HasType i.ty v × HasType i.ty w × ValueRefines i.ty v w

-- by operands of its types that refine others, the operation asks here for what refines what it asks for there by the others
abbrev pub OperationRespects : ModuleTree → (here other : Memory) → Kind → Ty → (labels : List Name) → Type 0
OperationRespects m here other kind ty labels =
    (number : ℕ) (vs ws : List Value) → OperandsRefine (operand_types kind ty number) vs ws → EffectRefines (result_type kind ty) (effect_of m here kind ty labels vs) (effect_of m other kind ty labels ws)
