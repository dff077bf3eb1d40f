-- Runs step by step.
use Rattle.std.proofs.Common.{◌≡◌, ℕ, zero, suc, ◌+◌, ◌-◌, ◌≤◌, List, [], ◌∷◌, map, Option, Some, None, refl, ap, sym, ◌∙◌, subst, arith, zero-add}
use Rattle.ir_types.specs.declared.name.Name.{Name}
use Rattle.ir_types.specs.Tree.{InstTree, ModuleTree}
use Rattle.ir_meaning.specs.declared.value.Value.{Value}
use Rattle.ir_meaning.specs.Values.{Typed}
use Rattle.ir_meaning.specs.Memory.{Memory}
use Rattle.ir_meaning.specs.State.{Frame, World, Running, State, Live, Over, Wrong}
use Rattle.ir_meaning.specs.Meaning.{Effect, Passes, Goes, Calling, Calls, Leaving, Leaves, Fails, Waits, inst_at, effect_in, entered, first_frame, passed, result_of, value_in, with_frame, called_in, returned, carried, step, start}
use Rattle.ir_meaning.specs.Runs.{run, seen, Undefined}
use Rattle.ir_meaning.specs.Allows.{HasReturned}
use Rattle.ir_run_laws.specs.Tolls.{total}

-- j steps and then k are j + k steps
pub run-add : {S : Type 0} (step : S → S) (j k : ℕ) (s : S) → run step (j + k) s ≡ run step k (run step j s)
run-add step zero k s = let e : zero + k ≡ k = omega arith in ap (λ n. run step n s) e
run-add step (suc j) k s = let e : suc j + k ≡ suc (j + k) = omega arith in ap (λ n. run step n s) e ∙ run-add step j k (step s)

-- what a step leaves as it is, n steps leave as it is
pub run-halted : {S : Type 0} (step : S → S) (n : ℕ) (s : S) → step s ≡ s → run step n s ≡ s
run-halted step zero s e = refl
run-halted step (suc n) s e = ap (run step n) e ∙ run-halted step n s e

-- a run of n steps is one of k steps, and n - k more
pub run-behind : {S : Type 0} (step : S → S) (k n : ℕ) (s : S) → k ≤ n → run step n s ≡ run step (n - k) (run step k s)
run-behind step k n s le = let e : n ≡ k + (n - k) = omega arith in ap (λ i. run step i s) e ∙ run-add step k (n - k) s

-- n + 1 steps are n steps and one more
pub run-last : {S : Type 0} (step : S → S) (n : ℕ) (s : S) → run step (suc n) s ≡ step (run step n s)
run-last step n s = let e : suc n ≡ n + 1 = omega arith in ap (λ k. run step k s) e ∙ run-add step n 1 s

-- a count over j + k steps is that over j steps and that over the k behind them
pub total-add : {S : Type 0} (step : S → S) (count : S → ℕ) (j k : ℕ) (s : S) → total step count (j + k) s ≡ total step count j s + total step count k (run step j s)
total-add step count zero k s = let e : zero + k ≡ k = omega arith in ap (λ n. total step count n s) e ∙ sym (zero-add (total step count k s))
total-add step count (suc j) k s =
    let e : suc j + k ≡ suc (j + k) = omega arith in
    ap (λ n. total step count n s) e ∙ omega (arith, total-add step count j k (step s))

-- a state in which a run has returned stays
pub returned-stays : (m : ModuleTree) (s : State) → HasReturned (seen s) → step m s ≡ s
returned-stays m (Live r) h = absurd h
returned-stays m (Over e) h = refl
returned-stays m Wrong h = absurd h

-- and so does an undefined one
pub undefined-stays : (m : ModuleTree) (s : State) → seen s ≡ Undefined → step m s ≡ s
undefined-stays m (Live r) e = absurd (cc)
undefined-stays m (Over o) e = refl
undefined-stays m Wrong e = refl

-- what has returned after k steps has returned after each greater number of them
pub returned-later : (m : ModuleTree) (k n : ℕ) (s : State) → k ≤ n → HasReturned (seen (run (step m) k s)) → HasReturned (seen (run (step m) n s))
returned-later m k n s le h =
    let same : run (step m) n s ≡ run (step m) k s = run-behind (step m) k n s le ∙ run-halted (step m) (n - k) (run (step m) k s) (returned-stays m (run (step m) k s) h) in
    subst (λ q. HasReturned (seen q)) (sym same) h

-- ---- one step

-- A step changes frames and nothing else, where the run goes on. So what holds of the run with all other frames, of its end and of an undefined
-- one holds of the state behind a step.
module _ (m : ModuleTree) (r : Running) (P : State → Type 0) (live : (frame : Frame) (callers : List Frame) → P (Live (record r { frame = frame; callers = callers }))) (over : (v : Option Typed) → P (Over (record { value = v; memory = r.memory; events = r.events }))) (wrong : P Wrong) where
  stands : P (Live r)
  stands = live r.frame r.callers

  after-call : (c : Calling) → P (called_in m c r)
  after-call c =
      elim (first_frame m c.name (map (λ (t : Typed). t.value) c.args)) as (λ o. P (elim o [ None ↦ Live r | Some frame ↦ Live (record r { frame = frame; callers = r.frame ∷ r.callers }) ])) [ None ↦ stands | Some frame ↦ live frame (r.frame ∷ r.callers) ]

  after-return : (l : Leaving) → P (returned m l r)
  after-return l =
      elim r.callers as (λ cs. P (elim cs [ [] ↦ Over (record { value = l.value; memory = r.memory; events = r.events }) | caller ∷ callers ↦ Live (record r { frame = passed caller (result_of (inst_at m caller)) (value_in l.value); callers = callers }) ])) [ [] ↦ over l.value | caller ∷ callers ↦ live (passed caller (result_of (inst_at m caller)) (value_in l.value)) callers ]

  after-carried : (i : InstTree) (e : Effect) → P (carried m i e r)
  after-carried i (Passes p) = live (passed r.frame i.result p.value) r.callers
  after-carried i (Goes g) =
      elim (entered m r.memory r.frame g.label) as (λ o. P (elim o [ None ↦ Live r | Some next ↦ Live (with_frame r next) ])) [ None ↦ stands | Some next ↦ live next r.callers ]
  after-carried i (Calls c) = after-call c
  after-carried i (Leaves l) = after-return l
  after-carried i Fails = wrong
  after-carried i Waits = stands

  pub after-step : P (step m (Live r))
  after-step =
      elim (inst_at m r.frame) as (λ o. P (elim o [ None ↦ Live r | Some i ↦ carried m i (effect_in m r.memory r.frame.env i) r ])) [ None ↦ stands | Some i ↦ after-carried i (effect_in m r.memory r.frame.env i) ]

-- what holds of each first state that goes on, and of an undefined one, holds of a start
pub at-start : (m : ModuleTree) (function : Name) (args : List Value) (memory : Memory) (v : World) (P : State → Type 0) → ((frame : Frame) → P (Live (record { frame = frame; callers = []; memory = memory; world = v; events = [] }))) → P Wrong → P (start m function args memory v)
at-start m function args memory v P live wrong =
    elim (first_frame m function args) as (λ o. P (elim o [ None ↦ Wrong | Some frame ↦ Live (record { frame = frame; callers = []; memory = memory; world = v; events = [] }) ])) [ None ↦ wrong | Some frame ↦ live frame ]
