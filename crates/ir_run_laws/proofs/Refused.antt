-- What the first example does not allow.
use Rattle.std.proofs.Common.{◌≡◌, ◌≢◌, ℕ, zero, suc, ◌+◌, ◌*◌, ◌<◌, List, [], ◌∷◌, length, replicate, Some, None, refl, ap, subst, arith}
use Rattle.std.proofs.lemmas.List.{length-replicate}
use Rattle.ir_types.specs.Tree.{FunctionTree}
use Rattle.ir_types.specs.Tree.{ModuleTree}
use Rattle.ir_meaning.specs.declared.value.Value.{Value}
use Rattle.ir_meaning.specs.Memory.{Memory}
use Rattle.ir_meaning.specs.State.{World, State, Over}
use Rattle.ir_meaning.specs.Meaning.{step, start, function_of}
use Rattle.ir_meaning.specs.Runs.{seen, observed}
use Rattle.ir_meaning.specs.Refines.{ValueRefines, same_value, ResultRefines, result, Refines, returned}
use Rattle.ir_meaning.specs.Fits.{Fits}
use Rattle.ir_meaning.specs.Allows.{Defines, CanRun, HasReturned, Allows}
use Rattle.ir_making.specs.Trees.{f, i32}
use Rattle.ir_run_laws.specs.Examples.{int32, bit, of_i32, returned_with, chooses, swapped, another_entry, loops, empty}
use Rattle.ir_run_laws.proofs.Steps.{run-halted}

-- a memory without an allocation
abbrev pub bare : Memory
bare = record { allocations = []; symbols = λ name. record { address = 0; allocation = None } }

-- it fits each module, as none has a variable
pub bare-fits : (m : ModuleTree) → Fits m bare
bare-fits m = record {
  allocations = tt;
  apart = λ i j d lt within. absurd (omega arith);
  addresses = λ name. omega arith;
  variables = tt;
  own = λ i j d lt within. absurd (omega arith);
  others = λ name h. refl;
}

abbrev no_world : World
no_world = record { replies = []; numbers = [] }

-- no replies, and so many numbers
abbrev many : ℕ → World
many n = record { replies = []; numbers = replicate n 0 }

-- 5 and true
abbrev args : List Value
args = int32 5 ∷ bit 1 ∷ []

defined : (g : FunctionTree) → function_of chooses f ≡ Some g → 0 < length g.body → Defines chooses f g
defined g e lt = record { found = e; body = lt }

can_run : CanRun chooses f args bare
can_run = record { f = _; defined = defined _ refl (omega arith); typed = (refl, (refl, tt)); fits = bare-fits chooses }

-- the first example does not allow the empty module
pub none_allowed : (c : ℕ) → Allows chooses empty c → ⊥
none_allowed c h = let g = h.covers.functions f _ (defined _ refl (omega arith)) in let e = g.1.found in cc

same_number : (x y : ℕ) → ValueRefines i32 (int32 x) (int32 y) → x ≡ y
same_number x y same_value = refl

same_value_of : (x y : ℕ) → ResultRefines (Some (of_i32 x)) (Some (of_i32 y)) → x ≡ y
same_value_of x y (result r) = same_number x y r.value

same_result : (x y : ℕ) (m n : Memory) → Refines (returned_with (of_i32 x) m) (returned_with (of_i32 y) n) → x ≡ y
same_result x y m n (returned e) = same_value_of x y e.value

-- the state in which the example has returned
abbrev over : State
over = Over (record { value = Some (of_i32 7); memory = bare; events = [] })

-- with 5 and true the example returns 7 and nothing else
only_seven : (x : ℕ) (u : World) (k : ℕ) → Refines (returned_with (of_i32 x) bare) (observed chooses f args bare u k) → x ≡ 7
only_seven x u zero r = elim r [ ]
only_seven x u (suc zero) r = elim r [ ]
only_seven x u (suc (suc zero)) r = elim r [ ]
only_seven x u (suc (suc (suc n))) r = same_result x 7 bare bare (subst (λ s. Refines (returned_with (of_i32 x) bare) (seen s)) (run-halted (step chooses) n over refl) r)

-- a printed module that returns another number after n steps
other_result : (printed : ModuleTree) (c x n : ℕ) → ((v : World) → observed printed f args bare v n ≡ returned_with (of_i32 x) bare) → x ≢ 7 → Allows chooses printed c → ⊥
other_result printed c x n e other h =
    let a = h.serves f args bare no_world n can_run in
    other (only_seven x a.0 (a.2.steps n) (subst (λ o. Refines o (observed chooses f args bare a.0 (a.2.steps n))) (e no_world) (a.2.refined n (omega arith))))

-- nor itself with the targets of its branch in each other's place
pub targets_swapped : (c : ℕ) → Allows chooses swapped c → ⊥
targets_swapped c = other_result swapped c 5 2 (λ v. refl) (λ e. omega arith)

-- nor itself with another number in an entry of its phi
pub entry_changed : (c : ℕ) → Allows chooses another_entry c → ⊥
entry_changed c = other_result another_entry c 8 3 (λ v. refl) (λ e. omega arith)

-- the example returns in 3 steps, and the printed module never does
pub never_returns : (c : ℕ) → Allows chooses loops c → ⊥
never_returns c h =
    let v = many (512 * (c * (3 + 1))) in
    let a = h.serves f args bare v 0 can_run in
    subst HasReturned (ap seen (run-halted (step loops) (c * (3 + 1)) (start loops f args bare v) refl)) (a.2.returns 3 tt (omega (arith, length-replicate {A = ℕ} (512 * (c * (3 + 1))) 0)))
