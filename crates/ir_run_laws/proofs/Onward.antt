-- What is seen of a run stays, or its events grow.
use Rattle.std.proofs.Common.{ℕ, zero, suc, ◌-◌, ◌≤◌, List, [], ◌++◌, append_assoc, append-nil, refl, sym, ap, ◌∙◌, subst}
use Rattle.ir_types.specs.declared.name.Name.{Name}
use Rattle.ir_types.specs.Tree.{ModuleTree}
use Rattle.ir_meaning.specs.declared.value.Value.{Value}
use Rattle.ir_meaning.specs.Memory.{Memory}
use Rattle.ir_meaning.specs.State.{World, Event, State, Live, Over, Wrong}
use Rattle.ir_meaning.specs.Meaning.{step, start}
use Rattle.ir_meaning.specs.Runs.{run, seen, Observation, Undefined, Going, Returned, observed}
use Rattle.ir_run_laws.specs.Courses.{Grows, GoesOnAs}
use Rattle.ir_run_laws.proofs.Steps.{run-behind, after-step}

same-events : (es : List Event) → Grows es es
same-events es = ([], sym (append-nil es))

more-events : (es fs gs : List Event) → Grows es fs → Grows fs gs → Grows es gs
more-events es fs gs (x, e) (y, h) = (x ++ y, h ∙ ap (λ l. l ++ y) e ∙ append_assoc es x y)

goes-on-refl : (o : Observation) → GoesOnAs o o
goes-on-refl Undefined = refl
goes-on-refl (Going es) = same-events es
goes-on-refl (Returned e) = refl

-- a run that stays is seen the same
goes-on-trans : (a b c : Observation) → GoesOnAs a b → GoesOnAs b c → GoesOnAs a c
goes-on-trans Undefined b c f g = subst (λ o. GoesOnAs o c) f g
goes-on-trans (Returned e) b c f g = subst (λ o. GoesOnAs o c) f g
goes-on-trans (Going es) Undefined c f g = subst (GoesOnAs (Going es)) (sym g) tt
goes-on-trans (Going es) (Returned e) c f g = subst (GoesOnAs (Going es)) (sym g) f
goes-on-trans (Going es) (Going fs) Undefined f g = tt
goes-on-trans (Going es) (Going fs) (Going gs) f g = more-events es fs gs f g
goes-on-trans (Going es) (Going fs) (Returned e) f g = more-events es fs e.events f g

on-step : (m : ModuleTree) (s : State) → GoesOnAs (seen s) (seen (step m s))
on-step m (Live r) =
    after-step m r (λ s. GoesOnAs (Going r.events) (seen s)) (λ frame callers. same-events r.events) (λ v. same-events r.events) tt
on-step m (Over e) = refl
on-step m Wrong = refl

on-run : (m : ModuleTree) (n : ℕ) (s : State) → GoesOnAs (seen s) (seen (run (step m) n s))
on-run m zero s = goes-on-refl (seen s)
on-run m (suc n) s = goes-on-trans (seen s) (seen (step m s)) (seen (run (step m) n (step m s))) (on-step m s) (on-run m n (step m s))

-- a run is seen to go on from n steps to k
pub runs-go-on : (m : ModuleTree) (function : Name) (args : List Value) (memory : Memory) (v : World) (n k : ℕ) → n ≤ k → GoesOnAs (observed m function args memory v n) (observed m function args memory v k)
runs-go-on m function args memory v n k le =
    let s = start m function args memory v in
    subst (λ q. GoesOnAs (seen (run (step m) n s)) (seen q)) (sym (run-behind (step m) n k s le)) (on-run m (k - n) (run (step m) n s))
