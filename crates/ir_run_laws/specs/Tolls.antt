-- How often a run enters a block, and what a pass over a module may add to a run.
use Rattle.std.specs.Prelude.{◌≡◌, ℕ, zero, suc, ◌+◌, ◌*◌, ◌≤◌, Bool, IsFalse, List, [], ◌∷◌, ◌++◌, length, Contains, Option, Some, None, if◌then◌else◌, ◌&&◌, ◌||◌}
use Rattle.std.specs.List.{AllByRecursion}
use Rattle.text_forms.specs.Bind.{◌>>=◌}
use Rattle.ir_types.specs.declared.name.Name.{Name}
use Rattle.ir_types.specs.Names.{same_name}
use Rattle.ir_types.specs.Tree.{BlockTree, FunctionTree, ModuleTree}
use Rattle.ir_meaning.specs.declared.value.Value.{Value}
use Rattle.ir_meaning.specs.Memory.{Memory}
use Rattle.ir_meaning.specs.State.{World, State, Live, Over, Wrong}
use Rattle.ir_meaning.specs.Meaning.{Effect, Passes, Goes, Calls, Leaves, Fails, Waits, function_of, inst_at, effect_in, entered, step, start}
use Rattle.ir_meaning.specs.Runs.{run, seen}
use Rattle.ir_meaning.specs.Refines.{Refines}
use Rattle.ir_meaning.specs.Allows.{CanRun, Covers, IsWorldFor, HasReturned, Allows}

-- ---- entries of blocks

-- a block, by the name of its function and its own
pub record BlockName : Type 0 where
  pub function : Name
  pub block : Name

-- the module has the block
pub record HasBlock (m : ModuleTree) (k : BlockName) : Type 0 where
  pub f : FunctionTree
  pub b : BlockTree
  pub found : function_of m k.function ≡ Some f
  pub there : Contains f.body b
  pub name : b.name ≡ k.block

-- the label to which an instruction asks to go
abbrev pub label_of : Effect → Option Name
label_of (Passes p) = None
label_of (Goes g) = Some g.label
label_of (Calls c) = None
label_of (Leaves l) = None
label_of Fails = None
label_of Waits = None

-- the block that the next step enters, where it enters one by a branch
abbrev pub entered_next : ModuleTree → State → Option BlockName
entered_next m (Live r) =
    inst_at m r.frame >>= λ i. label_of (effect_in m r.memory r.frame.env i) >>= λ label. entered m r.memory r.frame label >>= λ next. Some (record { function = r.frame.function; block = label })
entered_next m (Over e) = None
entered_next m Wrong = None

-- 1 for that block, and 0 for another or none
abbrev pub count_of : BlockName → Option BlockName → ℕ
count_of k None = 0
count_of k (Some j) = if same_name j.function k.function && same_name j.block k.block then 1 else 0

-- how often the next step enters the block by a branch: once or not at all
abbrev pub enters : ModuleTree → BlockName → State → ℕ
enters m k s = count_of k (entered_next m s)

-- a count of each of the first n steps, by the state that the step leaves, added up
abbrev pub total : {S : Type 0} → (S → S) → (S → ℕ) → ℕ → S → ℕ
total step count zero s = 0
total step count (suc n) s = count s + total step count n (step s)

-- how often the first n steps from a state enter the block by a branch; a call or the start of a run counts for none
abbrev pub entries : ModuleTree → BlockName → ℕ → State → ℕ
entries m k n s = total (step m) (enters m k) n s

-- ---- tolls

-- what each entry of a block costs, in steps
pub record Charge : Type 0 where
  pub block : BlockName
  pub cost : ℕ

-- all costs together
abbrev pub costs_of : List Charge → ℕ
costs_of [] = 0
costs_of (c ∷ charges) = c.cost + costs_of charges

-- the first n steps, and what their entries of charged blocks cost
abbrev pub toll : ModuleTree → List Charge → ℕ → State → ℕ
toll m [] n s = n
toll m (c ∷ charges) n s = c.cost * entries m c.block n s + toll m charges n s

-- For a read run from t that has returned after n steps: the printed run from s has returned within the toll of these steps. Each block
-- of the read module is entered at most as often as there, and exactly as often where it is not a changed one.
pub record ReturnsAtToll (read printed : ModuleTree) (changed : BlockName → Bool) (charges : List Charge) (s t : State) (n : ℕ) : Type 0 where
  pub steps : ℕ
  pub within : steps ≤ toll read charges n t
  pub returned : HasReturned (seen (run (step printed) steps s))
  pub at_most : (k : BlockName) → HasBlock read k → entries printed k steps s ≤ entries read k n t
  pub as_often : (k : BlockName) → HasBlock read k → IsFalse (changed k) → entries printed k steps s ≡ entries read k n t

-- As `Serves`, with a toll in the place of a factor: the printed world has 512 numbers for each step of the toll.
pub record ServesAtToll (read printed : ModuleTree) (changed : BlockName → Bool) (charges : List Charge) (v : World) (horizon : ℕ) (s t : State) : Type 0 where
  pub steps : ℕ → ℕ
  pub refined : (n : ℕ) → n ≤ horizon → Refines (seen (run (step printed) n s)) (seen (run (step read) (steps n) t))
  pub returns : (n : ℕ) → HasReturned (seen (run (step read) n t)) → 512 * toll read charges n t ≤ length v.numbers → ReturnsAtToll read printed changed charges s t n

-- As `Allows`, with a toll. This is what a pass proves: for one loop, its blocks are the changed ones, and its header is charged.
pub record AllowsAtToll (read printed : ModuleTree) (changed : BlockName → Bool) (charges : List Charge) : Type 0 where
  pub covers : Covers read printed
  -- no block of the read module is lost
  pub keeps : (k : BlockName) → HasBlock read k → HasBlock printed k
  pub serves : (function : Name) (args : List Value) (memory : Memory) (v : World) (horizon : ℕ) → CanRun read function args memory → (u : World) × IsWorldFor v u × ServesAtToll read printed changed charges v horizon (start printed function args memory v) (start read function args memory u)

-- where the first allows the second at a toll, and the second the third at one that charges blocks of the first, the first allows the third at both
abbrev pub TollsAdd : (a b c : ModuleTree) → Type 0
TollsAdd a b c =
    (changed also : BlockName → Bool) (charges more : List Charge) → AllowsAtToll a b changed charges → AllowsAtToll b c also more → AllByRecursion (λ x. HasBlock a x.block) more → AllowsAtToll a c (λ k. changed k || also k) (charges ++ more)

-- what is allowed at a toll is allowed with a factor: one more than all costs together
abbrev pub TollsGiveFactors : (read printed : ModuleTree) → Type 0
TollsGiveFactors read printed =
    (changed : BlockName → Bool) (charges : List Charge) → AllowsAtToll read printed changed charges → Allows read printed (1 + costs_of charges)
