-- Whether operands and labels are what an instruction takes at their places.
use Rattle.std.specs.Prelude.{◌^◌, Bool, true, false, ◌&&◌, nat_eq, nat_lt, List, [], ◌∷◌, length}
use Rattle.std.specs.List.{list_any, list_all}
use Rattle.ir_types.specs.Types.{fits_lane}
use Rattle.ir_types.specs.declared.name.Name.{Name}
use Rattle.ir_types.specs.declared.inst.Ty.{Ty}
use Rattle.ir_types.specs.declared.inst.Ty.TheVariants.{Int, Ptr, Vector, Void}
use Rattle.ir_types.specs.Names.{same_name}
use Rattle.ir_types.specs.Tree.{OperandTree, local, number, null, poison, lanes, global}
use Rattle.ir_rules.specs.Locals.{Given, block, value, Definition}

-- whether two types are one
abbrev pub same_type : Ty → Ty → Bool
same_type (Int v) (Int w) = nat_eq v w
same_type Ptr Ptr = true
same_type (Vector n v) (Vector m w) = nat_eq n m && nat_eq v w
same_type Void Void = true
same_type t u = false

-- an integer, or a vector of integers
abbrev pub is_integral : Ty → Bool
is_integral (Int w) = true
is_integral (Vector n w) = true
is_integral Ptr = false
is_integral Void = false

-- a vector
abbrev pub is_vector : Ty → Bool
is_vector (Vector n w) = true
is_vector t = false

-- a type of values
abbrev pub is_valued : Ty → Bool
is_valued Void = false
is_valued t = true

-- a vector of bits, which isn't loaded or stored
abbrev pub is_bits : Ty → Bool
is_bits (Vector n w) = nat_eq w 1
is_bits t = false

-- the same shape with elements of more bits than the other
abbrev pub is_wider : Ty → Ty → Bool
is_wider (Int v) (Int w) = nat_lt w v
is_wider (Vector n v) (Vector m w) = nat_eq n m && nat_lt w v
is_wider t u = false

-- a condition that chooses among values of a type: a bit, or of vectors a bit for each lane
abbrev pub is_condition_for : Ty → Ty → Bool
is_condition_for t (Int w) = nat_eq w 1
is_condition_for (Vector n v) (Vector m w) = nat_eq n m && nat_eq w 1
is_condition_for t u = false

-- a local name is given to a value of this type
abbrev pub gives : Ty → Given → Bool
gives t block = false
gives t (value u) = same_type t u

-- a local name is given to a block
abbrev pub is_block : Given → Bool
is_block block = true
is_block (value t) = false

-- whether an operand has a type, among definitions of locals; a name with several fits where one does
abbrev pub fits : List Definition → Ty → OperandTree → Bool
fits ds t (local n) = list_any (λ (d : Definition). same_name n d.name && gives t d.given) ds
fits ds (Int w) (number n) = nat_lt n (2 ^ w)
fits ds Ptr null = true
fits ds t poison = is_valued t
fits ds (Vector n w) (lanes xs) = nat_eq (length xs) n && list_all (fits_lane w) xs
fits ds Ptr (global n o) = true
fits ds t a = false

-- whether a label is a block's
abbrev pub is_label : List Definition → Name → Bool
is_label ds n = list_any (λ (d : Definition). same_name n d.name && is_block d.given) ds

-- whether operands have these types, one each
abbrev pub fit : List Definition → List Ty → List OperandTree → Bool
fit ds [] [] = true
fit ds (t ∷ ts) (a ∷ args) = fits ds t a && fit ds ts args
fit ds ts args = false
