-- What a simulation shows step by step holds of whole runs.
use Rattle.std.proofs.Common.{◌≡◌, ℕ, zero, suc, ◌+◌, ◌-◌, ◌*◌, ◌≤◌, ◌<◌, max, ⊎_elim, Bool, IsFalse, List, [], ◌∷◌, ◌++◌, length, replicate, length-append, append_assoc, mul-add, Some, None, refl, ap, sym, ◌∙◌, subst, arith}
use Rattle.std.proofs.lemmas.Bool.{cases_lt}
use Rattle.std.proofs.lemmas.List.{length-replicate}
use Rattle.ir_types.specs.declared.name.Name.{Name}
use Rattle.ir_types.specs.Tree.{ModuleTree}
use Rattle.ir_meaning.specs.declared.value.Value.{Value}
use Rattle.ir_meaning.specs.Memory.{Memory}
use Rattle.ir_meaning.specs.State.{World, State, Live, Over, Wrong}
use Rattle.ir_meaning.specs.Meaning.{step, start, first_frame}
use Rattle.ir_meaning.specs.Runs.{run, seen, Undefined}
use Rattle.ir_meaning.specs.Refines.{Refines, of_undefined}
use Rattle.ir_meaning.specs.Allows.{Covers, HasReturned}
use Rattle.ir_run_laws.specs.Tolls.{BlockName, HasBlock, enters, entries, Charge, toll, ReturnsAtToll, ServesAtToll, AllowsAtToll}
use Rattle.ir_run_laws.specs.Simulation.{with_numbers, give, IsShort, Account, balanced, IsBooked, Moves, on, undefined, halts, IsSimulation}
use Rattle.ir_run_laws.proofs.Steps.{run-add, run-behind, run-halted, total-add, undefined-stays, returned-later}
use Rattle.ir_run_laws.proofs.Numbers.{Has, has-less, has-start, not-short}

-- ---- tolls and entries

toll-add : (m : ModuleTree) (charges : List Charge) (j k : ℕ) (s : State) → toll m charges (j + k) s ≡ toll m charges j s + toll m charges k (run (step m) j s)
toll-add m [] j k s = refl
toll-add m (c ∷ charges) j k s =
    let here : c.cost * entries m c.block (j + k) s ≡ c.cost * entries m c.block j s + c.cost * entries m c.block k (run (step m) j s) =
    ap (λ e. c.cost * e) (total-add (step m) (enters m c.block) j k s) ∙ mul-add c.cost (entries m c.block j s) (entries m c.block k (run (step m) j s)) in
    omega (arith, here, toll-add m charges j k s)

-- the toll of n steps is that of the first j, and that of the others from the state behind them
toll-behind : (m : ModuleTree) (charges : List Charge) (j n : ℕ) (s s' : State) → j ≤ n → run (step m) j s ≡ s' → toll m charges n s ≡ toll m charges j s + toll m charges (n - j) s'
toll-behind m charges j n s s' le there =
    let i : n ≡ j + (n - j) = omega arith in
    ap (λ k. toll m charges k s) i ∙ toll-add m charges j (n - j) s ∙ ap (λ q. toll m charges j s + toll m charges (n - j) q) there

-- and so are the entries
entries-behind : (m : ModuleTree) (k : BlockName) (j n : ℕ) (s s' : State) → j ≤ n → run (step m) j s ≡ s' → entries m k n s ≡ entries m k j s + entries m k (n - j) s'
entries-behind m k j n s s' le there =
    let i : n ≡ j + (n - j) = omega arith in
    ap (λ l. entries m k l s) i ∙ total-add (step m) (enters m k) j (n - j) s ∙ ap (λ q. entries m k j s + entries m k (n - j) q) there

-- a toll counts each step
toll-steps : (m : ModuleTree) (charges : List Charge) (n : ℕ) (s : State) → n ≤ toll m charges n s
toll-steps m [] n s = omega arith
toll-steps m (c ∷ charges) n s = omega (arith, toll-steps m charges n s)

-- ---- states in which nothing happens any more

-- a run that has returned enters no block
no-entries : (m : ModuleTree) (k : BlockName) (n : ℕ) (s : State) → HasReturned (seen s) → entries m k n s ≡ 0
no-entries m k n (Live r) h = absurd h
no-entries m k zero (Over e) h = refl
no-entries m k (suc n) (Over e) h = omega (arith, no-entries m k n (Over e) h)
no-entries m k n Wrong h = absurd h

-- an undefined run never returns
never-returns : (m : ModuleTree) (j n : ℕ) (s : State) → seen (run (step m) j s) ≡ Undefined → ¬ HasReturned (seen (run (step m) n s))
never-returns m j n s e h =
    ⊎_elim (λ before. subst HasReturned e (returned-later m n j s (omega arith) h)) (λ behind.
    let same : run (step m) n s ≡ run (step m) j s = run-behind (step m) j n s behind ∙ run-halted (step m) (n - j) (run (step m) j s) (undefined-stays m (run (step m) j s) e) in
    subst HasReturned (ap seen same ∙ e) h) (cases_lt n j)

-- where the printed run has returned, the read one has, unless it is undefined
returned-there : (m : ModuleTree) (n : ℕ) (s t : State) → Refines (seen s) (seen t) → HasReturned (seen s) → HasReturned (seen (run (step m) n t)) → HasReturned (seen t)
returned-there m n (Live r) t f h later = absurd h
returned-there m n (Over e) (Live r) f h later = elim f [ ]
returned-there m n (Over e) (Over e') f h later = tt
returned-there m n (Over e) Wrong f h later = absurd (never-returns m 0 n Wrong refl later)
returned-there m n Wrong t f h later = absurd h

-- and where the read run has returned, the printed one has
returned-here : (s t : State) → Refines (seen s) (seen t) → HasReturned (seen t) → HasReturned (seen s)
returned-here s (Live r) f h = absurd h
returned-here (Live r) (Over e') f h = elim f [ ]
returned-here (Over e) (Over e') f h = tt
returned-here Wrong (Over e) f h = elim f [ ]
returned-here s Wrong f h = absurd h

short-goes-on : (s : State) → IsShort s → ¬ HasReturned (seen s)
short-goes-on (Live r) short h = h
short-goes-on (Over e) short h = short
short-goes-on Wrong short h = h

-- ---- starts

start-give : (m : ModuleTree) (function : Name) (args : List Value) (memory : Memory) (v : World) (numbers : List ℕ) → start m function args memory (with_numbers v numbers) ≡ give (start m function args memory v) numbers
start-give m function args memory v numbers =
    elim (first_frame m function args) as (λ o. (elim o [ None ↦ Wrong | Some frame ↦ Live (record { frame = frame; callers = []; memory = memory; world = with_numbers v numbers; events = [] }) ]) ≡ give (elim o [ None ↦ Wrong | Some frame ↦ Live (record { frame = frame; callers = []; memory = memory; world = v; events = [] }) ]) numbers) [ None ↦ refl | Some frame ↦ refl ]

module _ (read printed : ModuleTree) (changed : BlockName → Bool) (charges : List Charge) (R : State → State → Account → Type 0) where
  -- as `ReturnsAtToll`, with an account from before
  record Returns (s t : State) (a : Account) (n : ℕ) : Type 0 where
    pub steps : ℕ
    pub within : steps ≤ a.paid + toll read charges n t
    pub returned : HasReturned (seen (run (step printed) steps s))
    pub at_most : (k : BlockName) → HasBlock read k → entries printed k steps s ≤ a.owed k + entries read k n t
    pub as_often : (k : BlockName) → HasBlock read k → IsFalse (changed k) → entries printed k steps s ≡ a.owed k + entries read k n t

  -- the printed run from s isn't short of numbers in its first n steps
  abbrev Suffices : State → ℕ → Type 0
  Suffices s n = (k : ℕ) → k < n → ¬ IsShort (run (step printed) k s)

  -- the runs from s and from t, as far as N steps of the printed one show
  record Follows (N : ℕ) (s t : State) (a : Account) : Type 0 where
    pub steps : ℕ → ℕ
    pub refined : (n : ℕ) → n ≤ N → Refines (seen (run (step printed) n s)) (seen (run (step read) (steps n) t))
    pub returns : (n : ℕ) → HasReturned (seen (run (step read) n t)) → a.paid + toll read charges n t < N → Suffices s (a.paid + toll read charges n t) → Returns s t a n

  -- where the printed run returns from its next state, it returns from here
  returns-on : (s : State) (j : ℕ) (u u' : State) (a b : Account) (n : ℕ) → j ≤ n → run (step read) j u ≡ u' → IsBooked read printed changed charges s j u a b → Returns (step printed s) u' b (n - j) → Returns s u a n
  returns-on s j u u' a b n le there booked r =
      let sum = λ (k : BlockName). entries-behind read k j n u u' le there in
      record {
        steps = suc r.steps;
        within = omega (arith, toll-behind read charges j n u u' le there, booked.steps, r.within);
        returned = r.returned;
        at_most = λ k has. omega (arith, sum k, booked.at_most k has, r.at_most k has);
        as_often = λ k has same. omega (arith, sum k, booked.as_often k has same, r.as_often k has same);
      }

  -- where both runs have returned, neither enters a block any more
  returns-at-once : (s u : State) (a : Account) (n : ℕ) → HasReturned (seen s) → HasReturned (seen u) → ((k : BlockName) → IsFalse (changed k) → a.owed k ≡ 0) → Returns s u a n
  returns-at-once s u a n here there settled = record {
    steps = 0;
    within = omega arith;
    returned = here;
    at_most = λ k has. omega arith;
    as_often = λ k has same. omega (arith, no-entries read k n u there, settled k same);
  }

  module _ (sim : IsSimulation read printed changed charges R) where
    follows-at-once : (s t : State) (a : Account) → R s t a → (rest : List ℕ) → Follows 0 s (give t rest) a
    follows-at-once s t a r rest = record {
      steps = λ n. 0;
      refined = λ n le. let e : n ≡ 0 = omega arith in subst (λ i. Refines (seen (run (step printed) i s)) (seen (give t rest))) (sym e) (sim.seen s t a r rest);
      returns = λ n over lt enough. absurd (omega arith);
    }

    -- the next step is matched: what follows from there follows from here
    follows-on : (N : ℕ) (s : State) (j : ℕ) (u u' : State) (a b : Account) → Refines (seen s) (seen u) → run (step read) j u ≡ u' → ((i : ℕ) → i < j → ¬ HasReturned (seen (run (step read) i u))) → IsBooked read printed changed charges s j u a b → Follows N (step printed s) u' b → Follows (suc N) s u a
    follows-on N s j u u' a b first there busy booked f = record {
      steps = λ n. elim n [ zero ↦ 0 | suc m ↦ j + f.steps m ];
      refined = λ n. elim n as (λ n. n ≤ suc N → Refines (seen (run (step printed) n s)) (seen (run (step read) (elim n [ zero ↦ 0 | suc m ↦ j + f.steps m ]) u))) [ zero ↦ (λ le. first) | suc m ↦ (λ le. subst (λ q. Refines (seen (run (step printed) m (step printed s))) (seen q)) (sym (run-add (step read) j (f.steps m) u ∙ ap (run (step read) (f.steps m)) there)) (f.refined m (omega arith))) ];
      returns = λ n over lt enough. ⊎_elim (λ early. absurd (busy n early over)) (λ late. later n late over lt enough) (cases_lt n j);
    }
      where
        later : (n : ℕ) → j ≤ n → HasReturned (seen (run (step read) n u)) → a.paid + toll read charges n u < suc N → Suffices s (a.paid + toll read charges n u) → Returns s u a n
        later n late over lt enough =
            let here : run (step read) n u ≡ run (step read) (n - j) u' = run-behind (step read) j n u late ∙ ap (run (step read) (n - j)) there in
            let cost = toll-behind read charges j n u u' late there in
            returns-on s j u u' a b n late there booked (f.returns (n - j) (subst (λ q. HasReturned (seen q)) here over) (omega (arith, cost, booked.steps)) (λ k lt' short. enough (suc k) (omega (arith, cost, booked.steps)) short))

    -- a printed run that stands still for want of numbers, though the read one returns
    returns-short : (s u : State) (a : Account) (n : ℕ) → Refines (seen s) (seen u) → IsShort s → HasReturned (seen (run (step read) n u)) → Suffices s (a.paid + toll read charges n u) → ⊥
    returns-short s u a zero first short over enough = short-goes-on s short (returned-here s u first over)
    returns-short s u a (suc n) first short over enough = enough 0 (omega (arith, toll-steps read charges (suc n) u)) short

    -- the numbers that the read run takes while the printed one makes N steps
    taken_by : (s t : State) (a : Account) → ((s' t' : State) (b : Account) → R s' t' b → List ℕ) → Moves read printed changed charges R s t a → List ℕ
    taken_by s t a later (on o) = o.numbers ++ later (step printed s) o.later o.account o.related
    taken_by s t a later (undefined w) = w.numbers
    taken_by s t a later (halts h) = []

    taken : ℕ → (s t : State) (a : Account) → R s t a → List ℕ
    taken zero s t a r = []
    taken (suc N) s t a r = taken_by s t a (taken N) (sim.move s t a r)

    by_move : (N : ℕ) (s t : State) (a : Account) → R s t a → (m : Moves read printed changed charges R s t a) → ((s' t' : State) (b : Account) (r : R s' t' b) (rest : List ℕ) → Follows N s' (give t' (taken N s' t' b r ++ rest)) b) → (rest : List ℕ) → Follows (suc N) s (give t (taken_by s t a (taken N) m ++ rest)) a
    unfolding taken_by
    by_move N s t a r (on o) ih rest =
        let x' = taken N (step printed s) o.later o.account o.related in
        let all = x' ++ rest in
        subst (λ l. Follows (suc N) s (give t l) a) (sym (append_assoc o.numbers x' rest)) (follows-on N s o.steps (give t (o.numbers ++ all)) (give o.later all) a o.account (sim.seen s t a r (o.numbers ++ all)) (o.comes.there all) (o.comes.busy all) (o.booked all) (ih (step printed s) o.later o.account o.related rest))
    by_move N s t a r (undefined w) ih rest = record {
      steps = λ n. w.steps;
      refined = λ n le. subst (Refines (seen (run (step printed) n s))) (sym (w.wrong rest)) of_undefined;
      returns = λ n over lt enough. absurd (never-returns read w.steps n (give t (w.numbers ++ rest)) (w.wrong rest) over);
    }
    by_move N s t a r (halts h) ih rest = record {
      steps = λ n. 0;
      refined = λ n le. subst (λ p. Refines (seen p) (seen (give t rest))) (sym (run-halted (step printed) n s h.still)) (sim.seen s t a r rest);
      returns = λ n over lt enough.
          let first = sim.seen s t a r rest in
          ⊎_elim (λ done. returns-at-once s (give t rest) a n done (returned-there read n s (give t rest) first done over) (sim.settled s t a r done)) (λ w. absurd (⊎_elim (λ short. returns-short s (give t rest) a n first short over enough) (λ never. never rest n over) w)) h.why;
    }

    follows : (N : ℕ) (s t : State) (a : Account) (r : R s t a) (rest : List ℕ) → Follows N s (give t (taken N s t a r ++ rest)) a
    unfolding taken
    follows zero s t a r rest = follows-at-once s t a r rest
    follows (suc N) s t a r rest = by_move N s t a r (sim.move s t a r) (follows N) rest

  -- with the account balanced
  serves : (v : World) (horizon far : ℕ) (s t : State) → horizon ≤ far → length v.numbers < far → Has (length v.numbers) s → Follows far s t balanced → ServesAtToll read printed changed charges v horizon s t
  serves v horizon far s t le lt has f = record {
    steps = f.steps;
    refined = λ n h. f.refined n (omega arith);
    returns = λ n over many. at-toll n (f.returns n over (omega arith) (λ k below. not-short printed k s (has-less (512 * (k + 1)) (length v.numbers) s (omega arith) has)));
  }
    where
      at-toll : (n : ℕ) → Returns s t balanced n → ReturnsAtToll read printed changed charges s t n
      at-toll n r = record { steps = r.steps; within = omega (arith, r.within); returned = r.returned; at_most = λ k h. omega (arith, r.at_most k h); as_often = λ k h same. omega (arith, r.as_often k h same) }

  -- a printed module that a simulation relates to the read one is allowed
  pub simulated : Covers read printed → ((k : BlockName) → HasBlock read k → HasBlock printed k) → IsSimulation read printed changed charges R → AllowsAtToll read printed changed charges
  simulated covers keeps sim = record {
    covers = covers;
    keeps = keeps;
    serves = λ function args memory v horizon can.
        let first = sim.start function args memory v can in
        let s = start printed function args memory v in
        let t = start read function args memory v in
        let far = max horizon (length v.numbers + 1) in
        let x = taken sim far s t balanced first in
        let pad = replicate (length v.numbers) 0 in
        let f = follows sim far s t balanced first pad in
        (with_numbers v (x ++ pad), record { replies = refl; numbers = omega (arith, length-append x pad, length-replicate {A = ℕ} (length v.numbers) 0) }, subst (ServesAtToll read printed changed charges v horizon s) (sym (start-give read function args memory v (x ++ pad))) (serves v horizon far s (give t (x ++ pad)) (omega arith) (omega arith) (has-start printed function args memory v) f));
  }
