-- The operations of a step respect refinement.
use Rattle.std.proofs.Common.{◌≡◌, ℕ, ◌+◌, ◌%◌, ◌^◌, ◌&&◌, eqb, ltb, eqb-true, List, [], ◌∷◌, Bool, true, false, if◌then◌else◌, nat_eq, is_some, Some, None, refl, sym, subst, ◌⊎◌, inl, inr}
use Rattle.std.proofs.lemmas.Bool.{eq-eqb, lt-ltb}
use Rattle.std.proofs.lemmas.Nat.{mod_below, pow_pos}
use Rattle.std.specs.List.{AllZip}
use Rattle.ir_types.specs.declared.name.Name.{Name}
use Rattle.ir_types.specs.declared.inst.Ty.{Ty}
use Rattle.ir_types.specs.declared.inst.Ty.TheVariants.{Int as IntTy, Ptr as PtrTy, Vector, Void}
use Rattle.ir_types.specs.declared.inst.BinOp.{BinOp}
use Rattle.ir_types.specs.declared.inst.BinOp.TheVariants.{Add}
use Rattle.ir_types.specs.declared.inst.Flags.{Flags}
use Rattle.ir_types.specs.declared.inst.Pred.{Pred}
use Rattle.ir_types.specs.Kinds.{Kind, Binary, Compare, Call, Jump, Branch, Return, ReturnVoid, operand_types, actual_types}
use Rattle.ir_types.specs.Tree.{ModuleTree}
use Rattle.ir_intrinsics.specs.Intrinsics.{meant_by}
use Rattle.ir_meaning.specs.declared.value.Outcome.TheVariants.{Value as Result}
use Rattle.ir_meaning.specs.declared.value.Value.{Value}
use Rattle.ir_meaning.specs.declared.value.Value.TheVariants.{Int, Ptr, Poison, Lanes}
use Rattle.ir_meaning.specs.Values.{HasType, Typed, of_numbers, sum, has_flag, holds, truth}
use Rattle.ir_meaning.specs.Memory.{Memory}
use Rattle.ir_meaning.specs.Meaning.{gives, Calls, Waits, effect_of, branched, with_types}
use Rattle.ir_meaning.specs.Refines.{ValueRefines, same_value, of_poison, of_pointer, of_lanes, MemoryRefines, TypedRefines, no_result, result as a_result}
use Rattle.ir_run_laws.specs.Respect.{OperandsRefine, result_type, given, EffectRefines, passes, goes, calls, leaves, of_fails, waits}

-- a relation of two lists
abbrev Between : Type 1
Between = List Value → List Value → Type 0

none_of : (vs ws : List Value) (P : Between) → OperandsRefine [] vs ws → P [] [] → P vs ws
none_of [] [] P h k = k
none_of [] (w ∷ ws) P h k = absurd h
none_of (v ∷ vs) [] P h k = absurd h
none_of (v ∷ vs) (w ∷ ws) P h k = absurd h

first_of : (t : Ty) (types : List Ty) (vs ws : List Value) (P : Between) → OperandsRefine (t ∷ types) vs ws → ((v w : Value) (vs ws : List Value) → HasType t v → HasType t w → ValueRefines t v w → OperandsRefine types vs ws → P (v ∷ vs) (w ∷ ws)) → P vs ws
first_of t types [] [] P h k = absurd h
first_of t types [] (w ∷ ws) P h k = absurd h
first_of t types (v ∷ vs) [] P h k = absurd h
first_of t types (v ∷ vs) (w ∷ ws) P h k = k v w vs ws h.0 h.1 h.2 h.3

one_of : (t : Ty) (vs ws : List Value) (P : Between) → OperandsRefine (t ∷ []) vs ws → ((v w : Value) → HasType t v → HasType t w → ValueRefines t v w → P (v ∷ []) (w ∷ [])) → P vs ws
one_of t vs ws P h k = first_of t [] vs ws P h (λ v w vs' ws' a b r rest. none_of vs' ws' (λ x y. P (v ∷ x) (w ∷ y)) rest (k v w a b r))

two_of : (t u : Ty) (vs ws : List Value) (P : Between) → OperandsRefine (t ∷ u ∷ []) vs ws → ((v w x y : Value) → HasType t v → HasType t w → ValueRefines t v w → HasType u x → HasType u y → ValueRefines u x y → P (v ∷ x ∷ []) (w ∷ y ∷ [])) → P vs ws
two_of t u vs ws P h k = first_of t (u ∷ []) vs ws P h (λ v w vs' ws' a b r rest. one_of u vs' ws' (λ x y. P (v ∷ x) (w ∷ y)) rest (λ x y c d q. k v w x y a b r c d q))

-- a value that refines another at an integer's type: the same, or any of the type in the place of poison
same_or_poison : (w : ℕ) (v x : Value) → HasType (IntTy w) x → ValueRefines (IntTy w) v x → (v ≡ x) ⊎ (x ≡ Poison)
same_or_poison w v x t same_value = inl refl
same_or_poison w v x t (of_poison h p) = inr refl
same_or_poison w v x t (of_pointer f) = absurd (cc)
same_or_poison w v x t (of_lanes f) = absurd (cc)

-- with a poison operand the result is poison
poison_right : (result : ℕ → ℕ → ℕ → Value) (x : Value) → of_numbers result x Poison ≡ Poison
poison_right result (Int w n) = refl
poison_right result (Ptr p) = refl
poison_right result Poison = refl
poison_right result (Lanes w xs) = refl

-- the result of an operation at integers of width w has the type `out` where its result for numbers has
HasResults : (w : ℕ) (out : Ty) (result : ℕ → ℕ → ℕ → Value) → Type 0
HasResults w out result = (x y : ℕ) → HasType out (result w x y)

front : (x y : Bool) → (x && y) ≡ true → x ≡ true
front true y h = refl
front false y h = h

-- an integer of a type has its width
width_is : (w a n : ℕ) → HasType (IntTy w) (Int a n) → a ≡ w
width_is w a n h = eqb-true a w (front (eqb a w) (ltb n (2 ^ w)) h)

typed_result : (w : ℕ) (out : Ty) (result : ℕ → ℕ → ℕ → Value) → HasResults w out result → HasType out Poison → (v x : Value) → HasType (IntTy w) v → HasType (IntTy w) x → HasType out (of_numbers result v x)
unfolding HasResults
typed_result w out result has poison (Int a n) (Int b k) s t = by (nat_eq a b)
  where
    by : (same : Bool) → HasType out (if same then result a n k else Poison)
    by true = let e : a ≡ w = width_is w a n s in subst (λ i. HasType out (result i n k)) (sym e) (has n k)
    by false = poison
typed_result w out result has poison (Int a n) Poison s t = poison
typed_result w out result has poison Poison x s t = poison
typed_result w out result has poison (Int a n) (Ptr p) s t = poison
typed_result w out result has poison (Int a n) (Lanes b xs) s t = poison
typed_result w out result has poison (Ptr p) x s t = poison
typed_result w out result has poison (Lanes b xs) x s t = poison

-- an operation of two integers respects refinement
respects : (w : ℕ) (out : Ty) (result : ℕ → ℕ → ℕ → Value) → HasResults w out result → HasType out Poison → (v w' x y : Value) → HasType (IntTy w) v → HasType (IntTy w) w' → ValueRefines (IntTy w) v w' → HasType (IntTy w) x → HasType (IntTy w) y → ValueRefines (IntTy w) x y → ValueRefines out (of_numbers result v x) (of_numbers result w' y)
respects w out result has poison v w' x y a b r c d q = both (same_or_poison w v w' b r) (same_or_poison w x y d q)
  where
    here : HasType out (of_numbers result v x)
    here = typed_result w out result has poison v x a c

    both : (v ≡ w') ⊎ (w' ≡ Poison) → (x ≡ y) ⊎ (y ≡ Poison) → ValueRefines out (of_numbers result v x) (of_numbers result w' y)
    both (inr e) h = subst (λ z. ValueRefines out (of_numbers result v x) (of_numbers result z y)) (sym e) (of_poison here poison)
    both (inl e) (inr f) = subst (λ z. ValueRefines out (of_numbers result v x) (of_numbers result w' z)) (sym f) (subst (λ z. ValueRefines out (of_numbers result v x) z) (sym (poison_right result w')) (of_poison here poison))
    both (inl e) (inl f) = subst (λ z. ValueRefines out (of_numbers result v x) (of_numbers result z y)) e (subst (λ z. ValueRefines out (of_numbers result v x) (of_numbers result v z)) f same_value)

-- ---- the results

sum_typed : (ty : Ty) (w : ℕ) → ty ≡ IntTy w → HasResults w ty sum
unfolding HasResults
sum_typed ty w e x y = subst (λ t. HasType t (sum w x y)) (sym e) (typed_sum w x y)
  where
    typed_sum : (w x y : ℕ) → HasType (IntTy w) (sum w x y)
    typed_sum w x y = rw (eq-eqb w w refl, lt-ltb ((x + y) % 2 ^ w) (2 ^ w) (mod_below (x + y) (2 ^ w) (pow_pos w))) refl

truth_typed : (b : Bool) → HasType (IntTy 1) (truth b)
truth_typed true = refl
truth_typed false = refl

holds_typed : (p : Pred) (w : ℕ) → HasResults w (IntTy 1) (λ w x y. truth (holds p w x y))
unfolding HasResults
holds_typed p w x y = truth_typed (holds p w x y)

-- ---- what is asked for

same_branch : (ty : Ty) (labels : List Name) (v : Value) → EffectRefines ty (branched labels v) (branched labels v)
same_branch ty [] v = waits
same_branch ty (a ∷ []) v = waits
same_branch ty (a ∷ b ∷ []) (Int w x) = goes refl
same_branch ty (a ∷ b ∷ []) Poison = of_fails
same_branch ty (a ∷ b ∷ []) (Ptr p) = waits
same_branch ty (a ∷ b ∷ []) (Lanes w xs) = waits
same_branch ty (a ∷ b ∷ c ∷ labels) v = waits

-- where there are no two labels, a branch stands still
on_poison : (labels : List Name) (v : Value) (ty : Ty) → EffectRefines ty (branched labels v) (branched labels Poison)
on_poison [] v ty = waits
on_poison (a ∷ []) v ty = waits
on_poison (a ∷ b ∷ []) v ty = of_fails
on_poison (a ∷ b ∷ c ∷ labels) v ty = waits

branch_respects : (ty : Ty) (labels : List Name) (v w : Value) → HasType (IntTy 1) w → ValueRefines (IntTy 1) v w → EffectRefines ty (branched labels v) (branched labels w)
branch_respects ty labels v w t r = elim (same_or_poison 1 v w t r) [ inl e ↦ subst (λ x. EffectRefines ty (branched labels v) (branched labels x)) e (same_branch ty labels v) | inr e ↦ subst (λ x. EffectRefines ty (branched labels v) (branched labels x)) (sym e) (on_poison labels v ty) ]

-- arguments with their types
arguments_respect : (types : List Ty) (vs ws : List Value) → OperandsRefine types vs ws → AllZip TypedRefines (with_types types vs) (with_types types ws)
arguments_respect [] [] [] h = tt
arguments_respect [] [] (w ∷ ws) h = absurd h
arguments_respect [] (v ∷ vs) ws h = absurd h
arguments_respect (t ∷ types) [] ws h = absurd h
arguments_respect (t ∷ types) (v ∷ vs) [] h = absurd h
arguments_respect (t ∷ types) (v ∷ vs) (w ∷ ws) h = (record { ty = refl; value = h.2 }, arguments_respect types vs ws h.3)

module _ (m : ModuleTree) (here other : Memory) (labels : List Name) where
  -- what is asked for by these values and by those
  abbrev Asked : Kind → Ty → List Value → List Value → Type 0
  Asked kind ty vs ws = EffectRefines (result_type kind ty) (effect_of m here kind ty labels vs) (effect_of m other kind ty labels ws)

  -- a sum, where there is no flag
  added : (flagged : Bool) (w : ℕ) (v w' x y : Value) → HasType (IntTy w) v → HasType (IntTy w) w' → ValueRefines (IntTy w) v w' → HasType (IntTy w) x → HasType (IntTy w) y → ValueRefines (IntTy w) x y → EffectRefines (IntTy w) (gives (if flagged then None else Some (Result (of_numbers sum v x)))) (gives (if flagged then None else Some (Result (of_numbers sum w' y))))
  added true w v w' x y a b r c d q = waits
  added false w v w' x y a b r c d q = passes (given (typed_result w (IntTy w) sum (sum_typed (IntTy w) w refl) refl v x a c) (typed_result w (IntTy w) sum (sum_typed (IntTy w) w refl) refl w' y b d) (respects w (IntTy w) sum (sum_typed (IntTy w) w refl) refl v w' x y a b r c d q))

  of_binary : (op : BinOp) (flags : Flags) (ty : Ty) (vs ws : List Value) → OperandsRefine (ty ∷ ty ∷ []) vs ws → Asked (Binary op flags) ty vs ws
  of_binary Add flags (IntTy w) vs ws h = two_of (IntTy w) (IntTy w) vs ws (Asked (Binary Add flags) (IntTy w)) h (added (has_flag flags) w)
  of_binary op flags (IntTy w) vs ws h = two_of (IntTy w) (IntTy w) vs ws (Asked (Binary op flags) (IntTy w)) h (λ v w' x y a b r c d q. waits)
  of_binary op flags PtrTy vs ws h = waits
  of_binary op flags (Vector n w) vs ws h = waits
  of_binary op flags Void vs ws h = waits

  of_compare : (p : Pred) (of ty : Ty) (vs ws : List Value) → OperandsRefine (of ∷ of ∷ []) vs ws → Asked (Compare p of) ty vs ws
  of_compare p (IntTy w) ty vs ws h = two_of (IntTy w) (IntTy w) vs ws (Asked (Compare p (IntTy w)) ty) h (λ v w' x y a b r c d q. passes (given (typed_result w (IntTy 1) (λ w x y. truth (holds p w x y)) (holds_typed p w) refl v x a c) (typed_result w (IntTy 1) (λ w x y. truth (holds p w x y)) (holds_typed p w) refl w' y b d) (respects w (IntTy 1) (λ w x y. truth (holds p w x y)) (holds_typed p w) refl v w' x y a b r c d q)))
  of_compare p PtrTy ty vs ws h = waits
  of_compare p (Vector n w) ty vs ws h = waits
  of_compare p Void ty vs ws h = waits

  jumped : (ls : List Name) (ty : Ty) → EffectRefines ty (effect_of m here Jump ty ls []) (effect_of m other Jump ty ls [])
  jumped [] ty = waits
  jumped (a ∷ []) ty = goes refl
  jumped (a ∷ b ∷ ls) ty = waits

  -- a call of a name with a meaning, or of one without
  by_name : (meant : Bool) (name : Name) (ty : Ty) (xs ys : List Typed) → AllZip TypedRefines xs ys → EffectRefines ty (if meant then Waits else Calls (record { name = name; args = xs })) (if meant then Waits else Calls (record { name = name; args = ys }))
  by_name true name ty xs ys h = waits
  by_name false name ty xs ys h = calls (record { name = refl; args = h })

  -- by operands that refine others, an operation of each kind asks for what refines what it asks for by those
  pub respected : (kind : Kind) (ty : Ty) (n : ℕ) (vs ws : List Value) → MemoryRefines here other → OperandsRefine (operand_types kind ty n) vs ws → Asked kind ty vs ws
  respected (Binary op flags) ty n vs ws mem h = of_binary op flags ty vs ws h
  respected (Compare p of) ty n vs ws mem h = of_compare p of ty vs ws h
  respected (Call callee) ty n vs ws mem h =
      by_name (is_some (meant_by callee.name)) callee.name ty (with_types (actual_types callee) vs) (with_types (actual_types callee) ws) (arguments_respect (actual_types callee) vs ws h)
  respected Jump ty n vs ws mem h = none_of vs ws (Asked Jump ty) h (jumped labels ty)
  respected Branch ty n vs ws mem h = one_of (IntTy 1) vs ws (Asked Branch ty) h (λ v w a b r. branch_respects ty labels v w b r)
  respected (Return of) ty n vs ws mem h = one_of of vs ws (Asked (Return of) ty) h (λ v w a b r. leaves (a_result (record { ty = refl; value = r })))
  respected ReturnVoid ty n vs ws mem h = none_of vs ws (Asked ReturnVoid ty) h (leaves no_result)
  respected kind ty n vs ws mem h = waits
