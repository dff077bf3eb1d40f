-- Runs, and what is seen of them.
use Rattle.std.specs.Prelude.{ℕ, zero, suc, List}
use Rattle.ir_types.specs.declared.name.Name.{Name}
use Rattle.ir_types.specs.Tree.{ModuleTree}
use Rattle.ir_meaning.specs.declared.value.Value.{Value}
use Rattle.ir_meaning.specs.Memory.{Memory}
use Rattle.ir_meaning.specs.State.{World, Event, Ended, State, Live, Over, Wrong}
use Rattle.ir_meaning.specs.Meaning.{step, start}

-- the state after n steps
abbrev pub run : {S : Type 0} → (S → S) → ℕ → S → S
run step zero s = s
run step (suc n) s = run step n (step s)

-- what is seen of a run: the events so far, with the value and the memory where it has returned; or that it is undefined
pub data Observation : Type 0 where
  Undefined : Observation
  Going : List Event → Observation
  Returned : Ended → Observation

abbrev pub seen : State → Observation
seen (Live r) = Going r.events
seen (Over e) = Returned e
seen Wrong = Undefined

-- what is seen after n steps of a run of that function, from these arguments, this memory and this world
abbrev pub observed : ModuleTree → (function : Name) → List Value → Memory → World → ℕ → Observation
observed m function args memory world n = seen (run (step m) n (start m function args memory world))
