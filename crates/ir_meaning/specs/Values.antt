-- The types of values, and the results of operations.
use Rattle.std.specs.Prelude.{ℕ, ◌+◌, ◌-◌, ◌%◌, ◌^◌, Bool, true, false, not, ◌&&◌, ◌||◌, if◌then◌else◌, nat_eq, nat_lt, nat_le, IsTrue, length, Option, Some, None}
use Rattle.std.specs.List.{list_all}
use Rattle.ir_types.specs.declared.inst.Ty.{Ty}
use Rattle.ir_types.specs.declared.inst.Ty.TheVariants.{Int as IntTy, Ptr as PtrTy, Vector}
use Rattle.ir_types.specs.Types.{fits_lane}
use Rattle.ir_types.specs.declared.inst.BinOp.{BinOp}
use Rattle.ir_types.specs.declared.inst.BinOp.TheVariants.{Add, Sub, Mul, Shl, UDiv, SDiv, URem, SRem, LShr, AShr, And, Or, Xor, SMin, SMax, UMin, UMax}
use Rattle.ir_types.specs.declared.inst.Flags.{Flags}
use Rattle.ir_types.specs.declared.inst.Pred.{Pred}
use Rattle.ir_types.specs.declared.inst.Pred.TheVariants.{Eq, Ne, Ugt, Uge, Ult, Ule, Sgt, Sge, Slt, Sle}
use Rattle.ir_meaning.specs.declared.value.Outcome.{Outcome}
use Rattle.ir_meaning.specs.declared.value.Outcome.TheVariants.{Value as Result}
use Rattle.ir_meaning.specs.declared.value.Value.{Value}
use Rattle.ir_meaning.specs.declared.value.Value.TheVariants.{Int, Ptr, Poison, Lanes}

-- ---- types of values

-- whether a value is of a type: a number below 2^w for the width w, an address below 2^64, so many lanes of that width; or poison, but for
-- vectors, whose lanes are poison one by one
abbrev pub has_type : Ty → Value → Bool
has_type (IntTy w) (Int v x) = nat_eq v w && nat_lt x (2 ^ w)
has_type (IntTy w) Poison = true
has_type PtrTy (Ptr p) = nat_lt p.address (2 ^ 64)
has_type PtrTy Poison = true
has_type (Vector n w) (Lanes v xs) = nat_eq v w && (nat_eq (length xs) n && list_all (fits_lane w) xs)
has_type ty v = false

abbrev pub HasType : Ty → Value → Type 0
HasType ty v = IsTrue (has_type ty v)

-- the value, where it is of the type
abbrev pub typed : Ty → Value → Option Value
typed ty v = if has_type ty v then Some v else None

-- a value with its type
pub record Typed : Type 0 where
  pub ty : Ty
  pub value : Value

-- ---- operations

-- the result of an operation of two integers of one width, by the width and their numbers; else, and so for a poison operand, poison
abbrev pub of_numbers : ((width x y : ℕ) → Value) → Value → Value → Value
of_numbers result (Int w x) (Int v y) = if nat_eq w v then result w x y else Poison
of_numbers result x y = Poison

-- the sum, modulo 2^w
abbrev pub sum : (w x y : ℕ) → Value
sum w x y = Int w ((x + y) % 2 ^ w)

-- whether a binary operator has a flag
abbrev pub has_flag : Flags → Bool
has_flag flags = (flags.nuw || flags.nsw) || (flags.exact || flags.disjoint)

-- the result of a binary operator; none has a meaning yet but `add` without a flag
abbrev pub combined : BinOp → Flags → Value → Value → Option Outcome
combined Add flags x y = if has_flag flags then None else Some (Result (of_numbers sum x y))
combined Sub flags x y = None
combined Mul flags x y = None
combined Shl flags x y = None
combined UDiv flags x y = None
combined SDiv flags x y = None
combined URem flags x y = None
combined SRem flags x y = None
combined LShr flags x y = None
combined AShr flags x y = None
combined And flags x y = None
combined Or flags x y = None
combined Xor flags x y = None
combined SMin flags x y = None
combined SMax flags x y = None
combined UMin flags x y = None
combined UMax flags x y = None

-- a number of w bits that is read as signed, moved up by 2^(w-1), so that the least signed number comes to 0
abbrev pub moved_up : (w x : ℕ) → ℕ
moved_up w x = (x + 2 ^ (w - 1)) % 2 ^ w

-- whether the predicate holds of two numbers of w bits
abbrev pub holds : Pred → (w x y : ℕ) → Bool
holds Eq w x y = nat_eq x y
holds Ne w x y = not (nat_eq x y)
holds Ugt w x y = nat_lt y x
holds Uge w x y = nat_le y x
holds Ult w x y = nat_lt x y
holds Ule w x y = nat_le x y
holds Sgt w x y = nat_lt (moved_up w y) (moved_up w x)
holds Sge w x y = nat_le (moved_up w y) (moved_up w x)
holds Slt w x y = nat_lt (moved_up w x) (moved_up w y)
holds Sle w x y = nat_le (moved_up w x) (moved_up w y)

-- the i1 of a truth value: 1 for true
abbrev pub truth : Bool → Value
truth b = Int 1 (if b then 1 else 0)

-- the result of a comparison
abbrev pub compared : Pred → Value → Value → Value
compared p = of_numbers (λ w x y. truth (holds p w x y))
