-- How a run goes on.
use Rattle.std.specs.Prelude.{◌≡◌, ℕ, ◌≤◌, List, ◌++◌}
use Rattle.ir_types.specs.declared.name.Name.{Name}
use Rattle.ir_types.specs.Tree.{ModuleTree}
use Rattle.ir_meaning.specs.declared.value.Value.{Value}
use Rattle.ir_meaning.specs.Memory.{Memory}
use Rattle.ir_meaning.specs.State.{World, Event}
use Rattle.ir_meaning.specs.Runs.{Observation, Undefined, Going, Returned, observed}
use Rattle.ir_meaning.specs.Allows.{CanRun, IsServed}

-- the events with more behind them
abbrev pub Grows : List Event → List Event → Type 0
Grows es fs = (more : List Event) × (fs ≡ es ++ more)

-- What is seen later: a run that is undefined or has returned stays as it is, and the events of one that goes on only grow.
abbrev pub GoesOnAs : Observation → Observation → Type 0
GoesOnAs Undefined later = later ≡ Undefined
GoesOnAs (Returned e) later = later ≡ Returned e
GoesOnAs (Going es) Undefined = Unit {0}
GoesOnAs (Going es) (Going fs) = Grows es fs
GoesOnAs (Going es) (Returned e) = Grows es e.events

-- what is seen of a run of the module after so many steps goes on as what is seen after more
abbrev pub RunsGoOn : ModuleTree → Type 0
RunsGoOn m =
    (function : Name) (args : List Value) (memory : Memory) (v : World) (n k : ℕ) → n ≤ k → GoesOnAs (observed m function args memory v n) (observed m function args memory v k)

-- of no run of the read module is it so that no one world serves at all horizons
abbrev pub OneWorldServes : (read printed : ModuleTree) → ℕ → Type 0
OneWorldServes read printed c =
    (function : Name) (args : List Value) (memory : Memory) (v : World) → CanRun read function args memory → (IsServed read printed c function args memory v → ⊥) → ⊥
