-- What is asked of masked accesses.
use Rattle.std.proofs.Common.{◌≡◌, List, [], ◌∷◌, Option, Some, None, refl}
use Rattle.ir_types.specs.declared.inst.Ty.{Ty}
use Rattle.ir_types.specs.Tree.{OperandTree}
use Rattle.ir_intrinsics.specs.Intrinsics.{Intrinsic, minimum_maximum, reduction, masked_load, masked_store, lifetime, Meant}
use Rattle.ir_rules.specs.Mismatch.{is_access_right, is_meant_right}
use Rattle.ir_check_fits.specs.declared.masked.Masked.TheVariants.{Load, Store}
use Rattle.ir_check_fits.specs.Masked.{masked_by, masked_in}

by_load : (k : Intrinsic) (ty : Ty) (types : List Ty) (args : List OperandTree) → masked_by k ≡ Some Load → is_access_right masked_load ty types args ≡ is_access_right k ty types args
by_load masked_load ty types args e = refl
by_load masked_store ty types args e = absurd cc
by_load (minimum_maximum op) ty types args e = absurd cc
by_load (reduction op) ty types args e = absurd cc
by_load lifetime ty types args e = absurd cc

by_store : (k : Intrinsic) (ty : Ty) (types : List Ty) (args : List OperandTree) → masked_by k ≡ Some Store → is_access_right masked_store ty types args ≡ is_access_right k ty types args
by_store masked_store ty types args e = refl
by_store masked_load ty types args e = absurd cc
by_store (minimum_maximum op) ty types args e = absurd cc
by_store (reduction op) ty types args e = absurd cc
by_store lifetime ty types args e = absurd cc

-- a call that is meant as a masked load is right as one
pub load_right : (m : Option Meant) (ty : Ty) (types : List Ty) (args : List OperandTree) → masked_in m ≡ Some Load → is_access_right masked_load ty types args ≡ is_meant_right m ty types args
load_right (Some m) ty types args e = by_load m.intrinsic ty types args e
load_right None ty types args e = absurd cc

-- and one that is meant as a masked store
pub store_right : (m : Option Meant) (ty : Ty) (types : List Ty) (args : List OperandTree) → masked_in m ≡ Some Store → is_access_right masked_store ty types args ≡ is_meant_right m ty types args
store_right (Some m) ty types args e = by_store m.intrinsic ty types args e
store_right None ty types args e = absurd cc

-- behind what is stored it is as of a load
pub store_behind : (ty stored : Ty) (types : List Ty) (a : OperandTree) (args : List OperandTree) → is_access_right masked_load stored types args ≡ is_access_right masked_store ty (stored ∷ types) (a ∷ args)
store_behind ty stored [] a args = refl
store_behind ty stored (place ∷ []) a args = refl
store_behind ty stored (place ∷ width ∷ types) a [] = refl
store_behind ty stored (place ∷ width ∷ types) a (pointer ∷ []) = refl
store_behind ty stored (place ∷ width ∷ types) a (pointer ∷ align ∷ more) = refl
