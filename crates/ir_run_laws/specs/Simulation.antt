-- What it takes to show, step by step, that a module allows another at a toll. Of two states the printed run's comes first.
use Rattle.std.specs.Prelude.{◌≡◌, ℕ, ◌+◌, ◌<◌, ◌≤◌, ◌⊎◌, Bool, IsFalse, List, ◌++◌, length}
use Rattle.ir_types.specs.declared.name.Name.{Name}
use Rattle.ir_types.specs.Tree.{ModuleTree}
use Rattle.ir_meaning.specs.declared.value.Value.{Value}
use Rattle.ir_meaning.specs.Memory.{Memory}
use Rattle.ir_meaning.specs.State.{World, State, Live, Over, Wrong}
use Rattle.ir_meaning.specs.Meaning.{step, start}
use Rattle.ir_meaning.specs.Runs.{run, seen, Undefined}
use Rattle.ir_meaning.specs.Refines.{Refines}
use Rattle.ir_meaning.specs.Allows.{CanRun, HasReturned}
use Rattle.ir_run_laws.specs.Tolls.{BlockName, HasBlock, enters, entries, Charge, toll}

-- the world with other numbers
abbrev pub with_numbers : World → List ℕ → World
with_numbers w numbers = record w { numbers = numbers }

-- the state with other numbers left
abbrev pub give : State → List ℕ → State
give (Live r) numbers = Live (record r { world = with_numbers r.world numbers })
give (Over e) numbers = Over e
give Wrong numbers = Wrong

-- the numbers that are left may not suffice for one more step
abbrev pub IsShort : State → Type 0
IsShort (Live r) = length r.world.numbers < 512
IsShort (Over e) = ⊥
IsShort Wrong = ⊥

-- With the numbers x in front, the read run comes from t in j steps to t', whatever numbers stand behind, and hasn't returned before.
pub record Comes (read : ModuleTree) (t : State) (j : ℕ) (x : List ℕ) (t' : State) : Type 0 where
  pub there : (rest : List ℕ) → run (step read) j (give t (x ++ rest)) ≡ give t' rest
  pub busy : (rest : List ℕ) (i : ℕ) → i < j → ¬ HasReturned (seen (run (step read) i (give t (x ++ rest))))

-- What is paid for the printed run and what is owed to it, between two states: how many steps of it are paid and not made yet; and for each
-- block, how many entries the read run has made that the printed one has yet to make (of a changed block, may make).
pub record Account : Type 0 where
  pub paid : ℕ
  pub owed : BlockName → ℕ

-- nothing is paid, and nothing owed
abbrev pub balanced : Account
balanced = record { paid = 0; owed = λ k. 0 }

-- The account after a step of the printed run from s and j steps of the read one from t. The toll of these j steps pays, and their
-- entries of blocks come to what is owed; the printed run's step takes one off, and so does its entry of a block.
pub record IsBooked (read printed : ModuleTree) (changed : BlockName → Bool) (charges : List Charge) (s : State) (j : ℕ) (t : State) (before after : Account) : Type 0 where
  pub steps : after.paid + 1 ≤ before.paid + toll read charges j t
  pub at_most : (k : BlockName) → HasBlock read k → after.owed k + enters printed k s ≤ before.owed k + entries read k j t
  pub as_often : (k : BlockName) → HasBlock read k → IsFalse (changed k) → after.owed k + enters printed k s ≡ before.owed k + entries read k j t

-- The read run becomes undefined: from t in so many steps, for which it takes these numbers.
pub record GoesWrong (read : ModuleTree) (t : State) : Type 0 where
  pub steps : ℕ
  pub numbers : List ℕ
  pub wrong : (rest : List ℕ) → seen (run (step read) steps (give t (numbers ++ rest))) ≡ Undefined

-- The printed run stands still at s: it has returned, or is short of numbers, or the read run never returns from t.
pub record Halts (read printed : ModuleTree) (s t : State) : Type 0 where
  pub still : step printed s ≡ s
  pub why : HasReturned (seen s) ⊎ (IsShort s ⊎ ((rest : List ℕ) (n : ℕ) → ¬ HasReturned (seen (run (step read) n (give t rest)))))

module _ (read printed : ModuleTree) (changed : BlockName → Bool) (charges : List Charge) (R : State → State → Account → Type 0) where
  -- The read run goes on from t by so many steps, for which it takes these numbers, to a later state; and by the account after them that and
  -- the printed run's state behind one step from s are again related.
  pub record Onward (s t : State) (a : Account) : Type 0 where
    pub steps : ℕ
    pub numbers : List ℕ
    pub later : State
    pub account : Account
    pub comes : Comes read t steps numbers later
    pub related : R (step printed s) later account
    pub booked : (rest : List ℕ) → IsBooked read printed changed charges s steps (give t (numbers ++ rest)) a account

  -- one step of the printed run from s, against any number of steps of the read one from t
  pub data Moves (s t : State) (a : Account) : Type 0 where
    on : Onward s t a → Moves s t a
    undefined : GoesWrong read t → Moves s t a
    halts : Halts read printed s t → Moves s t a

  -- A relation between a state of the printed run, one of the read run, and an account. What is seen of the printed run refines what is
  -- seen of the read one; the states stay related; where the printed run has returned, no entry is owed but of changed blocks; and the
  -- first states are related with the account balanced.
  pub record IsSimulation : Type 0 where
    pub settled : (s t : State) (a : Account) → R s t a → HasReturned (seen s) → (k : BlockName) → IsFalse (changed k) → a.owed k ≡ 0
    pub move : (s t : State) (a : Account) → R s t a → Moves s t a
    pub start : (function : Name) (args : List Value) (memory : Memory) (v : World) → CanRun read function args memory → R (start printed function args memory v) (start read function args memory v) balanced
    pub seen : (s t : State) (a : Account) → R s t a → (rest : List ℕ) → Refines (seen s) (seen (give t rest))
