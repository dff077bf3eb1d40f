-- One world serves all horizons, though none is computed: that there is none is absurd.
use Rattle.std.proofs.Common.{◌≡◌, ℕ, zero, suc, ◌+◌, ◌-◌, ◌≤◌, ◌<◌, min, List, length, refl, ap, sym, ◌∙◌, subst, arith, ◌⊎◌, inl, inr, ⊎_elim}
use Rattle.std.proofs.lemmas.Bool.{cases_lt}
use Rattle.ir_types.specs.declared.name.Name.{Name}
use Rattle.ir_types.specs.Tree.{ModuleTree}
use Rattle.ir_meaning.specs.declared.value.Value.{Value}
use Rattle.ir_meaning.specs.Memory.{Memory}
use Rattle.ir_meaning.specs.State.{World, State, Live, Over, Wrong}
use Rattle.ir_meaning.specs.Meaning.{step, start}
use Rattle.ir_meaning.specs.Runs.{run, seen, Observation, Undefined, Going, Returned, observed}
use Rattle.ir_meaning.specs.Refines.{Refines}
use Rattle.ir_meaning.specs.Allows.{Serves, Allows, CanRun, IsServed}
use Rattle.ir_run_laws.proofs.Steps.{run-last, after-step, at-start}

-- ---- a sequence that never falls and has a bound

-- such a sequence is constant from some place on: that there is no such place is absurd
settles : (f : ℕ → ℕ) (bound : ℕ) → ((n : ℕ) → f n ≤ f (suc n)) → ((n : ℕ) → f n ≤ bound) → (((at : ℕ) × ((n : ℕ) → at ≤ n → f n ≡ f at)) → ⊥) → ⊥
settles f bound rises below hence = go bound 0 (omega arith)
  where
    up : (d n : ℕ) → f n ≤ f (n + d)
    up zero n = let e : n + 0 ≡ n = omega arith in subst (λ k. f n ≤ f k) (sym e) (omega arith)
    up (suc d) n = let e : n + suc d ≡ suc (n + d) = omega arith in subst (λ k. f n ≤ f k) (sym e) (omega (arith, up d n, rises (n + d)))

    later : (at n : ℕ) → at ≤ n → f at ≤ f n
    later at n le = let e : n ≡ at + (n - at) = omega arith in subst (λ k. f at ≤ f k) (sym e) (up (n - at) at)

    go : (k at : ℕ) → bound ≤ f at + k → ⊥
    go zero at le = hence (at, λ n h. omega (arith, later at n h, below n))
    go (suc k) at le = hence (at, λ n h. ⊎_elim (λ lt. absurd (go k n (omega arith))) (λ ge. omega (arith, later at n h)) (cases_lt (f at) (f n)))

-- ---- what is seen changes only so often

-- the events and the replies that are left are at most k
Fits : ℕ → State → Type 0
Fits k (Live r) = length r.events + length r.world.replies ≤ k
Fits k (Over e) = Unit {0}
Fits k Wrong = Unit {0}

-- how far a run is, by what is seen of it
rank_of : ℕ → Observation → ℕ
rank_of k Undefined = k + 1
rank_of k (Going events) = length events
rank_of k (Returned e) = k + 1

rank : ℕ → State → ℕ
rank k s = rank_of k (seen s)

-- a step that shows something new goes further
Shows : ℕ → State → State → Type 0
Shows k s s' = Fits k s' × ((seen s' ≡ seen s) ⊎ (rank k s < rank k s'))

shows-step : (m : ModuleTree) (k : ℕ) (s : State) → Fits k s → Shows k s (step m s)
unfolding Fits Shows rank rank_of
shows-step m k (Live r) fits = after-step m r (Shows k (Live r)) (λ frame callers. (fits, inl refl)) (λ v. (tt, inr (omega arith))) (tt, inr (omega arith))
shows-step m k (Over e) fits = (tt, inl refl)
shows-step m k Wrong fits = (tt, inl refl)

rank-bound : (k : ℕ) (s : State) → Fits k s → rank k s ≤ k + 1
unfolding Fits rank rank_of
rank-bound k (Live r) h = omega arith
rank-bound k (Over e) h = omega arith
rank-bound k Wrong h = omega arith

fits-run : (m : ModuleTree) (k n : ℕ) (s : State) → Fits k s → Fits k (run (step m) n s)
unfolding Shows
fits-run m k zero s h = h
fits-run m k (suc n) s h = fits-run m k n (step m s) (shows-step m k s h).0

rank-rises : (k : ℕ) (s s' : State) → Shows k s s' → rank k s ≤ rank k s'
unfolding Shows rank
rank-rises k s s' h = ⊎_elim (λ e. omega (arith, ap (rank_of k) e)) (λ lt. omega arith) h.1

-- where the rank stands, nothing new is seen
stands : (k : ℕ) (s s' : State) → Shows k s s' → rank k s' ≡ rank k s → seen s' ≡ seen s
unfolding Shows
stands k s s' h e = ⊎_elim (λ same. same) (λ lt. absurd (omega arith)) h.1

module _ (m : ModuleTree) (k : ℕ) (s : State) (fits : Fits k s) where
  shows-at : (n : ℕ) → Shows k (run (step m) n s) (run (step m) (suc n) s)
  shows-at n = subst (λ q. Shows k (run (step m) n s) q) (sym (run-last (step m) n s)) (shows-step m k (run (step m) n s) (fits-run m k n s fits))

  seen-stays : (at : ℕ) → ((n : ℕ) → at ≤ n → rank k (run (step m) n s) ≡ rank k (run (step m) at s)) → (d : ℕ) → seen (run (step m) (at + d) s) ≡ seen (run (step m) at s)
  seen-stays at same zero = let e : at + 0 ≡ at = omega arith in ap (λ n. seen (run (step m) n s)) e
  seen-stays at same (suc d) =
      let e : at + suc d ≡ suc (at + d) = omega arith in
      ap (λ n. seen (run (step m) n s)) e ∙ stands k (run (step m) (at + d) s) (run (step m) (suc (at + d)) s) (shows-at (at + d)) (same (suc (at + d)) (omega arith) ∙ sym (same (at + d) (omega arith))) ∙ seen-stays at same d

  -- from some place on nothing new is seen: that there is no such place is absurd
  seen-settles : (((at : ℕ) × ((n : ℕ) → at ≤ n → seen (run (step m) n s) ≡ seen (run (step m) at s))) → ⊥) → ⊥
  seen-settles hence = settles (λ n. rank k (run (step m) n s)) (k + 1) (λ n. rank-rises k (run (step m) n s) (run (step m) (suc n) s) (shows-at n)) (λ n. rank-bound k (run (step m) n s) (fits-run m k n s fits)) (λ h. hence (h.0, λ n le. let e : n ≡ h.0 + (n - h.0) = omega arith in ap (λ i. seen (run (step m) i s)) e ∙ seen-stays h.0 h.1 (n - h.0)))

start-fits : (m : ModuleTree) (function : Name) (args : List Value) (memory : Memory) (v : World) → Fits (length v.replies) (start m function args memory v)
unfolding Fits
start-fits m function args memory v = at-start m function args memory v (Fits (length v.replies)) (λ frame. omega arith) tt

-- ---- one world

-- where nothing new is seen of the printed run behind a horizon, what serves up to there serves up to any
further : (printed read : ℕ → Observation) (c : ℕ) (v : World) (near far : ℕ) → ((n : ℕ) → near ≤ n → printed n ≡ printed near) → Serves printed read c v near → Serves printed read c v far
further printed read c v near far same h = record {
  steps = λ n. h.steps (min n near);
  refined = λ n le. ⊎_elim (λ lt. let e : min n near ≡ n = omega arith in subst (λ i. Refines (printed n) (read (h.steps i))) (sym e) (h.refined n (omega arith))) (λ ge. let e : min n near ≡ near = omega arith in subst (λ i. Refines (printed n) (read (h.steps i))) (sym e) (subst (λ o. Refines o (read (h.steps near))) (sym (same n ge)) (h.refined near (omega arith)))) (cases_lt n near);
  returns = h.returns;
}

-- where a module allows another, it is absurd that no one world serves a run at all horizons
pub one_world : (read printed : ModuleTree) (c : ℕ) → Allows read printed c → (function : Name) (args : List Value) (memory : Memory) (v : World) → CanRun read function args memory → (IsServed read printed c function args memory v → ⊥) → ⊥
one_world read printed c allows function args memory v can hence =
    seen-settles printed (length v.replies) (start printed function args memory v) (start-fits printed function args memory v) (λ h.
    let a = allows.serves function args memory v h.0 can in
    hence (a.0, a.1, λ horizon. further (observed printed function args memory v) (observed read function args memory a.0) c v h.0 horizon h.1 a.2))
