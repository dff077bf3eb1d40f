-- A step takes at most 512 numbers, so that a run with 512 for each of its steps isn't short of them.
use Rattle.std.proofs.Common.{ℕ, zero, suc, ◌+◌, ◌*◌, ◌≤◌, List, length, arith}
use Rattle.ir_types.specs.declared.name.Name.{Name}
use Rattle.ir_types.specs.Tree.{ModuleTree}
use Rattle.ir_meaning.specs.declared.value.Value.{Value}
use Rattle.ir_meaning.specs.Memory.{Memory}
use Rattle.ir_meaning.specs.State.{World, State, Live, Over, Wrong}
use Rattle.ir_meaning.specs.Meaning.{step, start}
use Rattle.ir_meaning.specs.Runs.{run}
use Rattle.ir_run_laws.specs.Simulation.{IsShort}
use Rattle.ir_run_laws.proofs.Steps.{after-step, at-start}

-- a state that goes on has at least so many numbers
pub Has : ℕ → State → Type 0
Has n (Live r) = n ≤ length r.world.numbers
Has n (Over e) = Unit {0}
Has n Wrong = Unit {0}

-- what has k numbers has each smaller count of them
pub has-less : (n k : ℕ) (s : State) → n ≤ k → Has k s → Has n s
unfolding Has
has-less n k (Live r) le h = omega arith
has-less n k (Over e) le h = tt
has-less n k Wrong le h = tt

-- a step takes at most 512
has-step : (m : ModuleTree) (n : ℕ) (s : State) → Has (n + 512) s → Has n (step m s)
unfolding Has
has-step m n (Live r) h = after-step m r (Has n) (λ frame callers. omega arith) (λ v. tt) tt
has-step m n (Over e) h = tt
has-step m n Wrong h = tt

has-run : (m : ModuleTree) (k n : ℕ) (s : State) → Has (512 * k + n) s → Has n (run (step m) k s)
has-run m zero n s h = has-less n (512 * 0 + n) s (omega arith) h
has-run m (suc k) n s h = has-run m k n (step m s) (has-step m (512 * k + n) s (has-less (512 * k + n + 512) (512 * suc k + n) s (omega arith) h))

has-not-short : (s : State) → Has 512 s → ¬ IsShort s
unfolding Has
has-not-short (Live r) h short = omega arith
has-not-short (Over e) h short = short
has-not-short Wrong h short = short

-- with 512 numbers for each of k + 1 steps, the state after k of them isn't short
pub not-short : (m : ModuleTree) (k : ℕ) (s : State) → Has (512 * (k + 1)) s → ¬ IsShort (run (step m) k s)
not-short m k s h = has-not-short (run (step m) k s) (has-run m k 512 s (has-less (512 * k + 512) (512 * (k + 1)) s (omega arith) h))

-- a start has its world's numbers
pub has-start : (m : ModuleTree) (function : Name) (args : List Value) (memory : Memory) (v : World) → Has (length v.numbers) (start m function args memory v)
unfolding Has
has-start m function args memory v = at-start m function args memory v (Has (length v.numbers)) (λ frame. omega arith) tt
