-- The functions that this project gives a meaning by their names, and their signatures. (LLVM's Language Reference, "Intrinsic Functions".)
use Rattle.std.specs.List.{list_any}
use Rattle.std.specs.Prelude.{ℕ, bytes_eq, List, [], ◌∷◌, ◌++◌, drop, length, find, filter_map, codes, Option, Some, None, if◌then◌else◌}
use Rattle.text_forms.specs.Bind.{◌>>=◌}
use Rattle.text_forms.specs.LeftOut.{begins_with}
use Rattle.ir_types.specs.declared.name.Name.{Name}
use Rattle.ir_types.specs.declared.name.Name.TheVariants.{Text, Number}
use Rattle.ir_types.specs.declared.inst.Ty.{Ty}
use Rattle.ir_types.specs.declared.inst.Ty.TheVariants.{Int, Ptr, Vector, Void}
use Rattle.ir_types.specs.declared.inst.BinOp.{BinOp}
use Rattle.ir_types.specs.declared.inst.BinOp.TheVariants.{Add, Mul, And, Or, Xor, SMin, SMax, UMin, UMax}
use Rattle.ir_types.specs.InstForms.{bits_for, element_of}

-- the first of a list
abbrev pub first : {A : Type 0} → List A → Option A
first [] = None
first (x ∷ xs) = Some x

-- the functions with a meaning
pub data Intrinsic : Type 0 where
  -- the least or the greatest of two numbers, signed or unsigned: this operator of them
  minimum_maximum : BinOp → Intrinsic
  -- one number from all lanes of a vector, by this operator
  reduction : BinOp → Intrinsic
  masked_load : Intrinsic
  masked_store : Intrinsic
  -- where a variable's life begins or ends
  lifetime : Intrinsic

-- how their names begin; behind that stand the types that they are about
unfoldable pub families : List (List ℕ × Intrinsic)
families =
    (codes "llvm.smin.", minimum_maximum SMin) ∷ (codes "llvm.smax.", minimum_maximum SMax) ∷
    (codes "llvm.umin.", minimum_maximum UMin) ∷ (codes "llvm.umax.", minimum_maximum UMax) ∷
    (codes "llvm.vector.reduce.add.", reduction Add) ∷
    (codes "llvm.vector.reduce.mul.", reduction Mul) ∷
    (codes "llvm.vector.reduce.and.", reduction And) ∷
    (codes "llvm.vector.reduce.or.", reduction Or) ∷
    (codes "llvm.vector.reduce.xor.", reduction Xor) ∷
    (codes "llvm.vector.reduce.smin.", reduction SMin) ∷
    (codes "llvm.vector.reduce.smax.", reduction SMax) ∷
    (codes "llvm.vector.reduce.umin.", reduction UMin) ∷
    (codes "llvm.vector.reduce.umax.", reduction UMax) ∷ (codes "llvm.masked.load.", masked_load) ∷
    (codes "llvm.masked.store.", masked_store) ∷ (codes "llvm.lifetime.start.", lifetime) ∷
    (codes "llvm.lifetime.end.", lifetime) ∷ []

-- widths and numbers of lanes as they are written in names
unfoldable pub width_texts : List (List ℕ × ℕ)
width_texts =
    (codes "i1", 1) ∷ (codes "i8", 8) ∷ (codes "i16", 16) ∷ (codes "i32", 32) ∷ (codes "i64", 64) ∷ []

unfoldable pub lane_texts : List (List ℕ × ℕ)
lane_texts =
    (codes "v2", 2) ∷ (codes "v4", 4) ∷ (codes "v8", 8) ∷ (codes "v16", 16) ∷ (codes "v32", 32) ∷
    (codes "v64", 64) ∷ (codes "v128", 128) ∷ (codes "v256", 256) ∷ (codes "v512", 512) ∷ []

-- what stands behind a front
abbrev pub behind_front : List ℕ → List ℕ → Option (List ℕ)
behind_front front text = if begins_with front text then Some (drop (length front) text) else None

-- the width that is written so, before an end
abbrev pub width_before : (end text : List ℕ) → Option ℕ
width_before end text = find (λ e. bytes_eq (e.0 ++ end) text) width_texts >>= λ e. Some e.1

-- the vector that is written so, before an end: its number of lanes, and the width of each
abbrev pub vector_before : (end text : List ℕ) → Option Ty
vector_before end text = first (filter_map (λ e. behind_front e.0 text >>= width_before end >>= λ w. Some (Vector e.1 w)) lane_texts)

-- the integer or the vector that is written so
abbrev pub type_written : List ℕ → Option Ty
type_written s = elim (width_before [] s) [ Some w ↦ Some (Int w) | None ↦ vector_before [] s ]

-- what a function gives and takes
pub record Signed : Type 0 where
  pub ret : Ty
  pub params : List Ty

-- an intrinsic, with the signature that its name asks for, where it asks for one
pub record Meant : Type 0 where
  pub intrinsic : Intrinsic
  pub signature : Option Signed

abbrev pub meant : Intrinsic → Ty → List Ty → Meant
meant intrinsic ret params = record { intrinsic = intrinsic; signature = Some (record { ret = ret; params = params }) }

-- the lifetimes have any signature
abbrev pub any_lifetime : Meant
any_lifetime = record { intrinsic = lifetime; signature = None }

-- the intrinsic of a family whose name goes on so
abbrev pub in_family : Intrinsic → List ℕ → Option Meant
in_family (minimum_maximum op) text = type_written text >>= λ t. Some (meant (minimum_maximum op) t (t ∷ t ∷ []))
in_family (reduction op) text = vector_before [] text >>= λ t. Some (meant (reduction op) (element_of t) (t ∷ []))
in_family masked_load text = vector_before (codes ".p0") text >>= λ t. Some (meant masked_load t (Ptr ∷ Int 32 ∷ bits_for t ∷ t ∷ []))
in_family masked_store text = vector_before (codes ".p0") text >>= λ t. Some (meant masked_store Void (t ∷ Ptr ∷ Int 32 ∷ bits_for t ∷ []))
in_family lifetime text = Some any_lifetime

-- the names of the lifetimes without anything behind them
unfoldable pub lifetimes : List (List ℕ)
lifetimes = codes "llvm.lifetime.start" ∷ codes "llvm.lifetime.end" ∷ []

-- the intrinsic that a name is
abbrev pub meant_by : Name → Option Meant
meant_by (Text s) =
    if list_any (bytes_eq s) lifetimes then Some any_lifetime else first (filter_map (λ e. behind_front e.0 s >>= in_family e.1) families)
meant_by (Number n) = None
