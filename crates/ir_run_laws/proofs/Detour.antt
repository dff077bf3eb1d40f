-- A block put before another is allowed at a toll, by a simulation that owes the other's entry.
use Rattle.std.proofs.Common.{◌≡◌, ℕ, zero, suc, ◌+◌, ◌*◌, ◌≤◌, Bool, true, false, cond, IsFalse, if◌then◌else◌, ◌&&◌, List, [], ◌∷◌, Some, None, codes, refl, ap, sym, ◌∙◌, subst, replicate, inl, true≢false, arith, bytes_eq, Contains}
use Rattle.std.proofs.lemmas.List.{length-replicate}
use Rattle.std.proofs.lemmas.Slice.Eq.{bytes_eq-Decides}
use Rattle.ir_types.specs.declared.name.Name.{Name}
use Rattle.ir_types.specs.declared.name.Name.TheVariants.{Text, Number}
use Rattle.ir_types.specs.Names.{same_name}
use Rattle.ir_types.specs.Tree.{number, BlockTree, FunctionTree}
use Rattle.ir_making.specs.Trees.{f, jump, ret, block, function_named}
use Rattle.ir_meaning.specs.declared.value.Value.{Value}
use Rattle.ir_meaning.specs.Memory.{Memory}
use Rattle.ir_meaning.specs.State.{World, Ended, State, Over, no_values}
use Rattle.ir_meaning.specs.Meaning.{step, start, function_of}
use Rattle.ir_meaning.specs.Runs.{run, seen, observed}
use Rattle.ir_meaning.specs.Refines.{Refines}
use Rattle.ir_meaning.specs.Allows.{Allows, Defines, SameSignature, Covers, CanRun, HasReturned}
use Rattle.ir_run_laws.specs.Examples.{of_i32, frame_in, live_with, direct, detour, block_name, one_more}
use Rattle.ir_run_laws.specs.Tolls.{BlockName, HasBlock, count_of, AllowsAtToll}
use Rattle.ir_run_laws.specs.Simulation.{give, Account, balanced, Moves, on, halts, IsSimulation}
use Rattle.ir_run_laws.proofs.Order.{refines-refl}
use Rattle.ir_run_laws.proofs.Refused.{bare, bare-fits}
use Rattle.ir_run_laws.proofs.Simulated.{simulated}
use Rattle.ir_run_laws.proofs.Ledger.{toll-is-allowed}

abbrev live : ℕ → Memory → World → State
live n memory v = live_with (frame_in f n 0 no_values) [] memory v

-- one step is paid, and the entry of %1 owed
abbrev ahead : Account
ahead = record { paid = 1; owed = λ k. count_of k (Some (block_name 1)) }

data Related : State → State → Account → Type 0 where
  at_first : {memory : Memory} {v w : World} → Related (live 0 memory v) (live 0 memory w) balanced
  -- in the block more, while the read run is in %1
  before : {memory : Memory} {v w : World} → Related (live 2 memory v) (live 1 memory w) ahead
  at_last : {memory : Memory} {v w : World} → Related (live 1 memory v) (live 1 memory w) balanced
  both_over : {e : Ended} → Related (Over e) (Over e) balanced

seen-alike : (s t : State) (a : Account) → Related s t a → (rest : List ℕ) → Refines (seen s) (seen (give t rest))
seen-alike s t a at_first rest = refines-refl (seen s)
seen-alike s t a before rest = refines-refl (seen s)
seen-alike s t a at_last rest = refines-refl (seen s)
seen-alike s t a both_over rest = refines-refl (seen s)

abbrev direct_function : FunctionTree
direct_function = function_named f [] (block 0 (jump 1 ∷ []) ∷ block 1 (ret (number 5) ∷ []) ∷ [])

only : (name : Name) (g : FunctionTree) → function_of direct name ≡ Some g → (f ≡ name) × (direct_function ≡ g)
only (Text t) g found = by (bytes_eq (codes "f") t) refl found
  where
    by : (b : Bool) → bytes_eq (codes "f") t ≡ b → cond b (Some direct_function) None ≡ Some g → (f ≡ Text t) × (direct_function ≡ g)
    by true e h = (ap Text ((bytes_eq-Decides (codes "f") t).0 e), (cc))
    by false e h = absurd (cc)
only (Number n) g found = absurd (cc)

abbrev num : Bool → ℕ
num b = if b then 1 else 0

none-of : (b : Bool) → IsFalse b → num b ≡ 0
none-of true h = absurd (true≢false h)
none-of false h = refl

-- no block of the read module is %2
not-two : (b : BlockTree) → Contains direct_function.body b → same_name (Number 2) b.name ≡ false
not-two b (zero, lt, same) = ap (λ (b : BlockTree). same_name (Number 2) b.name) (sym same)
not-two b (suc zero, lt, same) = ap (λ (b : BlockTree). same_name (Number 2) b.name) (sym same)
not-two b (suc (suc i), lt, same) = absurd (omega arith)

fresh : (k : BlockName) → HasBlock direct k → count_of k (Some (block_name 2)) ≡ 0
fresh k h =
    let one = only k.function h.f h.found in
    let no : same_name (Number 2) k.block ≡ false = subst (λ n. same_name (Number 2) n ≡ false) h.name (not-two h.b (subst (λ (g : FunctionTree). Contains g.body h.b) (sym one.1) h.there)) in
    none-of (same_name f k.function && same_name (Number 2) k.block) (last (same_name f k.function) (same_name (Number 2) k.block) no)
  where
    last : (x y : Bool) → y ≡ false → IsFalse (x && y)
    last true y e = e
    last false y e = refl

abbrev Matches : State → State → Account → Type 0
Matches s t a = Moves direct detour (λ k. false) (one_more ∷ []) Related s t a

-- the printed run's entries now, and those of the read run
booked : (k : BlockName) → count_of k (Some (block_name 2)) ≡ 0 → count_of k (Some (block_name 1)) + count_of k (Some (block_name 2)) ≡ 0 + (count_of k (Some (block_name 1)) + 0)
booked k e = omega (arith, e)

move : (s t : State) (a : Account) → Related s t a → Matches s t a
move s t a (at_first {memory = memory} {v = v} {w = w}) = on (record {
  steps = 1;
  numbers = [];
  later = live 1 memory w;
  account = ahead;
  comes = record { there = λ rest. refl; busy = λ rest i lt. let e : i ≡ 0 = omega arith in subst (λ n. ¬ HasReturned (seen (run (step direct) n (give (live 0 memory w) rest)))) (sym e) (λ h. h) };
  related = before;
  booked = λ rest. record { steps = omega arith; at_most = λ k has. omega (arith, booked k (fresh k has)); as_often = λ k has same. booked k (fresh k has) };
})
move s t a (before {memory = memory} {v = v} {w = w}) = on (record {
  steps = 0;
  numbers = [];
  later = live 1 memory w;
  account = balanced;
  comes = record { there = λ rest. refl; busy = λ rest i lt. absurd (omega arith) };
  related = at_last;
  booked = λ rest. record { steps = omega arith; at_most = λ k has. omega arith; as_often = λ k has same. omega arith };
})
move s t a (at_last {memory = memory} {v = v} {w = w}) = on (record {
  steps = 1;
  numbers = [];
  later = Over (record { value = Some (of_i32 5); memory = memory; events = [] });
  account = balanced;
  comes = record { there = λ rest. refl; busy = λ rest i lt. let e : i ≡ 0 = omega arith in subst (λ n. ¬ HasReturned (seen (run (step direct) n (give (live 1 memory w) rest)))) (sym e) (λ h. h) };
  related = both_over;
  booked = λ rest. record { steps = omega arith; at_most = λ k has. omega arith; as_often = λ k has same. refl };
})
move s t a both_over = halts (record { still = refl; why = inl tt })

begins : (name : Name) (args : List Value) (memory : Memory) (v : World) → CanRun direct name args memory → Related (start detour name args memory v) (start direct name args memory v) balanced
begins name args memory v can =
    let one = only name can.f can.defined.found in
    subst (λ n. Related (start detour n args memory v) (start direct n args memory v) balanced) one.0 at_first

settled : (s t : State) (a : Account) → Related s t a → HasReturned (seen s) → (k : BlockName) → IsFalse false → a.owed k ≡ 0
settled s t a at_first h k same = absurd h
settled s t a before h k same = absurd h
settled s t a at_last h k same = absurd h
settled s t a both_over h k same = refl

simulation : IsSimulation direct detour (λ k. false) (one_more ∷ []) Related
simulation = record { seen = seen-alike; move = move; settled = settled; start = begins }

-- ---- what can be run

abbrev detour_function : FunctionTree
detour_function = function_named f [] (block 0 (jump 2 ∷ []) ∷ block 1 (ret (number 5) ∷ []) ∷ block 2 (jump 1 ∷ []) ∷ [])

defined : (name : Name) (g : FunctionTree) → Defines direct name g → (k : FunctionTree) × Defines detour name k × SameSignature g k
defined name g d =
    let one = only name g d.found in (
      detour_function,
      record { found = subst (λ n. function_of detour n ≡ Some detour_function) one.0 refl; body = omega arith },
      subst (λ k. SameSignature k detour_function) one.1 (record { params = refl; ret = refl }),
    )

covered : Covers direct detour
covered = record {
  fits = λ memory h. record { allocations = h.allocations; apart = h.apart; addresses = h.addresses; variables = h.variables; own = h.own; others = h.others };
  functions = defined;
}

kept : (k : BlockName) → HasBlock direct k → HasBlock detour k
kept k h =
    let one = only k.function h.f h.found in
    let there = by (subst (λ (g : FunctionTree). Contains g.body h.b) (sym one.1) h.there) in
    record {
      f = detour_function;
      b = there.0;
      found = subst (λ n. function_of detour n ≡ Some detour_function) one.0 refl;
      there = there.1;
      name = sym there.2 ∙ h.name;
    }
  where
    by : Contains direct_function.body h.b → (c : BlockTree) × Contains detour_function.body c × (h.b.name ≡ c.name)
    by (zero, lt, same) = (block 0 (jump 2 ∷ []), (0, omega arith, refl), ap (λ (b : BlockTree). b.name) (sym same))
    by (suc zero, lt, same) = (block 1 (ret (number 5) ∷ []), (1, omega arith, refl), ap (λ (b : BlockTree). b.name) (sym same))
    by (suc (suc i), lt, same) = absurd (omega arith)

-- ---- the toll

-- the block more is allowed at a toll of one step for each entry of the block behind it
pub at_toll : AllowsAtToll direct detour (λ k. false) (one_more ∷ [])
at_toll = simulated direct detour (λ k. false) (one_more ∷ []) Related covered kept simulation

-- and so with the factor 2
pub with_factor : Allows direct detour 2
with_factor = toll-is-allowed direct detour (λ k. false) (one_more ∷ []) at_toll

-- ---- no toll

can_run : CanRun direct f [] bare
can_run = record { f = direct_function; defined = record { found = refl; body = omega arith }; typed = tt; fits = bare-fits direct }

-- the longer way takes 3 steps
not-in-two : (v : World) (n : ℕ) → n ≤ 2 → ¬ HasReturned (observed detour f [] bare v n)
not-in-two v zero le h = h
not-in-two v (suc zero) le h = h
not-in-two v (suc (suc zero)) le h = h
not-in-two v (suc (suc (suc n))) le h = omega arith

-- and the shorter one 2, which are the toll where nothing is charged
pub charge_needed : AllowsAtToll direct detour (λ k. false) [] → ⊥
charge_needed h =
    let v : World = record { replies = []; numbers = replicate (512 * 2) 0 } in
    let a = h.serves f [] bare v 0 can_run in
    let r = a.2.returns 2 tt (omega (arith, length-replicate {A = ℕ} (512 * 2) 0)) in
    not-in-two v r.steps r.within r.returned
