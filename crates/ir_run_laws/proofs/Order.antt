-- Refinement is a preorder.
use Rattle.std.proofs.Common.{ℕ, List, [], ◌∷◌, Option, Some, None, refl, ◌∙◌, subst}
use Rattle.std.specs.List.{AllZip}
use Rattle.ir_types.specs.declared.inst.Ty.{Ty}
use Rattle.ir_types.specs.declared.inst.Ty.TheVariants.{Int as IntTy, Ptr as PtrTy, Vector, Void}
use Rattle.ir_meaning.specs.declared.value.Pointer.{Pointer}
use Rattle.ir_meaning.specs.declared.value.Byte.{Byte}
use Rattle.ir_meaning.specs.declared.value.Byte.TheVariants.{Part}
use Rattle.ir_meaning.specs.declared.value.Value.{Value}
use Rattle.ir_meaning.specs.declared.value.Allocation.{Allocation}
use Rattle.ir_meaning.specs.declared.value.Value.TheVariants.{Ptr}
use Rattle.ir_meaning.specs.Values.{HasType, Typed}
use Rattle.ir_meaning.specs.Memory.{Memory, IsByte}
use Rattle.ir_meaning.specs.State.{Event, Ended}
use Rattle.ir_meaning.specs.Runs.{Observation, Undefined, Going, Returned}
use Rattle.ir_meaning.specs.Refines.{PointerRefines, same_pointer, no_allocation, LaneRefines, same_lane, of_poison_lane, ValueRefines, same_value, of_poison, of_pointer, of_lanes, ByteRefines, same_byte, of_poison_byte, of_part, BytesRefine, AllocationRefines, MemoryRefines, TypedRefines, EventRefines, ResultRefines, no_result, result, EndRefines, Refines, of_undefined, going, returned}
use Rattle.ir_run_laws.specs.Kinds.{IsReflexive, IsTransitive, EachRefinement}

pub each-refl : {A : Type 0} (R : A → A → Type 0) → ((a : A) → R a a) → (xs : List A) → AllZip R xs xs
each-refl R r [] = tt
each-refl R r (a ∷ xs) = (r a, each-refl R r xs)

pub each-trans : {A : Type 0} (R : A → A → Type 0) → ((a b c : A) → R a b → R b c → R a c) → (xs ys zs : List A) → AllZip R xs ys → AllZip R ys zs → AllZip R xs zs
each-trans R t [] [] [] f g = tt
each-trans R t [] [] (z ∷ zs) f g = absurd g
each-trans R t [] (y ∷ ys) zs f g = absurd f
each-trans R t (x ∷ xs) [] zs f g = absurd f
each-trans R t (x ∷ xs) (y ∷ ys) [] f g = absurd g
each-trans R t (x ∷ xs) (y ∷ ys) (z ∷ zs) f g = (t x y z f.0 g.0, each-trans R t xs ys zs f.1 g.1)

-- ---- values

pub pointer-trans : {p q r : Pointer} → PointerRefines p q → PointerRefines q r → PointerRefines p r
pointer-trans same_pointer h = h
pointer-trans no_allocation same_pointer = no_allocation
pointer-trans no_allocation no_allocation = no_allocation

pub lane-trans : {w : ℕ} (a b c : Option ℕ) → LaneRefines w a b → LaneRefines w b c → LaneRefines w a c
lane-trans a b c same_lane h = h
lane-trans a b c (of_poison_lane lt) same_lane = of_poison_lane lt

-- a pointer that refines another has its address
same_address : {p q : Pointer} → PointerRefines p q → HasType PtrTy (Ptr q) → HasType PtrTy (Ptr p)
same_address same_pointer h = h
same_address no_allocation h = h

-- no vector is of a type that has poison by itself
pub value-trans : {ty : Ty} {u v w : Value} → ValueRefines ty u v → ValueRefines ty v w → ValueRefines ty u w
value-trans same_value h = h
value-trans (of_poison t p) same_value = of_poison t p
value-trans (of_poison t p) (of_poison s q) = of_poison t p
value-trans (of_pointer f) same_value = of_pointer f
value-trans (of_pointer f) (of_pointer g) = of_pointer (pointer-trans f g)
value-trans {ty = IntTy w} (of_pointer f) (of_poison t p) = absurd (cc)
value-trans {ty = PtrTy} (of_pointer f) (of_poison t p) = of_poison (same_address f t) p
value-trans {ty = Vector n w} (of_pointer f) (of_poison t p) = absurd (cc)
value-trans {ty = Void} (of_pointer f) (of_poison t p) = absurd (cc)
value-trans (of_lanes f) same_value = of_lanes f
value-trans (of_lanes f) (of_lanes g) = of_lanes (each-trans (LaneRefines _) lane-trans _ _ _ f g)
value-trans {ty = IntTy w} (of_lanes f) (of_poison t p) = absurd (cc)
value-trans {ty = PtrTy} (of_lanes f) (of_poison t p) = absurd (cc)
value-trans {ty = Vector n w} (of_lanes f) (of_poison t p) = absurd (cc)
value-trans {ty = Void} (of_lanes f) (of_poison t p) = absurd (cc)

-- ---- bytes and memories

-- a pointer that refines another has its address
same_part : {p q : Pointer} (k : ℕ) → PointerRefines p q → IsByte (Part q k) → IsByte (Part p k)
same_part k same_pointer h = h
same_part k no_allocation h = h

pub byte-trans : (a b c : Byte) → ByteRefines a b → ByteRefines b c → ByteRefines a c
byte-trans a b c same_byte h = h
byte-trans a b c (of_poison_byte t) same_byte = of_poison_byte t
byte-trans a b c (of_poison_byte t) (of_poison_byte s) = of_poison_byte t
byte-trans a b c (of_part p) same_byte = of_part p
byte-trans a b c (of_part p) (of_poison_byte t) = of_poison_byte (same_part _ p t)
byte-trans a b c (of_part p) (of_part q) = of_part (pointer-trans p q)

pub bytes-refl : (xs : List Byte) → BytesRefine xs xs
bytes-refl xs = record { each = each-refl ByteRefines (λ b. same_byte) xs; pointers = λ at q e. (q, e) }

pub bytes-trans : (xs ys zs : List Byte) → BytesRefine xs ys → BytesRefine ys zs → BytesRefine xs zs
bytes-trans xs ys zs f g = record {
  each = each-trans ByteRefines byte-trans xs ys zs f.each g.each;
  pointers = λ at q e. let p = g.pointers at q e in f.pointers at p.0 p.1;
}

pub allocation-refl : (a : Allocation) → AllocationRefines a a
allocation-refl a = record { number = refl; base = refl; writable = refl; bytes = bytes-refl a.bytes }

pub allocation-trans : (a b c : Allocation) → AllocationRefines a b → AllocationRefines b c → AllocationRefines a c
allocation-trans a b c f g = record { number = f.number ∙ g.number; base = f.base ∙ g.base; writable = f.writable ∙ g.writable; bytes = bytes-trans a.bytes b.bytes c.bytes f.bytes g.bytes }

pub memory-refl : (m : Memory) → MemoryRefines m m
memory-refl m = record { allocations = each-refl AllocationRefines allocation-refl m.allocations; symbols = λ name. refl }

pub memory-trans : (m n k : Memory) → MemoryRefines m n → MemoryRefines n k → MemoryRefines m k
memory-trans m n k f g = record { allocations = each-trans AllocationRefines allocation-trans m.allocations n.allocations k.allocations f.allocations g.allocations; symbols = λ name. f.symbols name ∙ g.symbols name }

-- ---- events and observations

pub typed-refl : (t : Typed) → TypedRefines t t
typed-refl t = record { ty = refl; value = same_value }

typed-trans : (a b c : Typed) → TypedRefines a b → TypedRefines b c → TypedRefines a c
typed-trans a b c f g = record { ty = f.ty ∙ g.ty; value = value-trans (subst (λ ty. ValueRefines ty a.value b.value) g.ty f.value) g.value }

pub event-refl : (e : Event) → EventRefines e e
event-refl e = record { name = refl; args = each-refl TypedRefines typed-refl e.args; memory = memory-refl e.memory }

pub event-trans : (a b c : Event) → EventRefines a b → EventRefines b c → EventRefines a c
event-trans a b c f g = record { name = f.name ∙ g.name; args = each-trans TypedRefines typed-trans a.args b.args c.args f.args g.args; memory = memory-trans a.memory b.memory c.memory f.memory g.memory }

pub result-refl : (v : Option Typed) → ResultRefines v v
result-refl None = no_result
result-refl (Some v) = result (typed-refl v)

pub result-trans : {u v w : Option Typed} → ResultRefines u v → ResultRefines v w → ResultRefines u w
result-trans no_result no_result = no_result
result-trans (result f) (result g) = result (typed-trans _ _ _ f g)

pub end-refl : (e : Ended) → EndRefines e e
end-refl e = record { value = result-refl e.value; memory = memory-refl e.memory; events = each-refl EventRefines event-refl e.events }

pub end-trans : (a b c : Ended) → EndRefines a b → EndRefines b c → EndRefines a c
end-trans a b c f g = record { value = result-trans f.value g.value; memory = memory-trans a.memory b.memory c.memory f.memory g.memory; events = each-trans EventRefines event-trans a.events b.events c.events f.events g.events }

-- refinement of observations is reflexive
pub refines-refl : (o : Observation) → Refines o o
refines-refl Undefined = of_undefined
refines-refl (Going es) = going (each-refl EventRefines event-refl es)
refines-refl (Returned e) = returned (end-refl e)

-- and transitive
pub refines-trans : {a b c : Observation} → Refines a b → Refines b c → Refines a c
refines-trans f of_undefined = of_undefined
refines-trans (going e) (going f) = going (each-trans EventRefines event-trans _ _ _ e f)
refines-trans (returned e) (returned f) = returned (end-trans _ _ _ e f)

-- refinement of each kind is reflexive
pub is_reflexive : EachRefinement IsReflexive
is_reflexive = record {
  pointers = λ p. same_pointer;
  lanes = λ w x. same_lane;
  values = λ ty v. same_value;
  single_bytes = λ b. same_byte;
  bytes = bytes-refl;
  allocations = allocation-refl;
  memories = memory-refl;
  results = result-refl;
  events = event-refl;
  ends = end-refl;
  observations = refines-refl;
}

-- and transitive
pub is_transitive : EachRefinement IsTransitive
is_transitive = record {
  pointers = λ p q r. pointer-trans;
  lanes = λ w. lane-trans;
  values = λ ty u v w. value-trans;
  single_bytes = byte-trans;
  bytes = bytes-trans;
  allocations = allocation-trans;
  memories = memory-trans;
  results = λ u v w. result-trans;
  events = event-trans;
  ends = end-trans;
  observations = λ o p q. refines-trans;
}
