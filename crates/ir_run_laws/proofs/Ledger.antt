-- Tolls add up, and what is allowed at a toll is allowed with a factor.
use Rattle.std.proofs.Common.{◌≡◌, ℕ, zero, suc, ◌+◌, ◌*◌, ◌≤◌, Bool, true, false, IsFalse, ◌||◌, ◌&&◌, List, [], ◌∷◌, ◌++◌, Option, Some, None, if◌then◌else◌, refl, ◌∙◌, arith, true≢false, mul-le-mul_left, le_trans}
use Rattle.std.specs.List.{AllByRecursion}
use Rattle.ir_types.specs.Tree.{ModuleTree}
use Rattle.ir_types.specs.Names.{same_name}
use Rattle.ir_meaning.specs.State.{State}
use Rattle.ir_meaning.specs.Meaning.{step, start}
use Rattle.ir_meaning.specs.Allows.{Allows}
use Rattle.ir_run_laws.specs.Tolls.{BlockName, HasBlock, Charge, costs_of, count_of, entered_next, entries, toll, ReturnsAtToll, AllowsAtToll}
use Rattle.ir_run_laws.proofs.Order.{refines-trans}
use Rattle.ir_run_laws.proofs.Steps.{returned-later}
use Rattle.ir_run_laws.proofs.Composed.{covers-trans, can-run, world-trans, greatest, greatest-bounds}

-- ---- sums of tolls

toll-of-steps : (m : ModuleTree) (charges : List Charge) (n : ℕ) (s : State) → n ≤ toll m charges n s
toll-of-steps m [] n s = omega arith
toll-of-steps m (c ∷ charges) n s = omega (arith, toll-of-steps m charges n s)

-- the steps count once in a toll for two lists of charges
toll-append : (m : ModuleTree) (charges more : List Charge) (n : ℕ) (s : State) → toll m (charges ++ more) n s + n ≡ toll m charges n s + toll m more n s
toll-append m [] more n s = omega arith
toll-append m (c ∷ charges) more n s = omega (arith, toll-append m charges more n s)

-- a run of j steps, which are at most p, that enters the charged blocks at most as often as one of n steps
toll-of-fewer : (a b : ModuleTree) (more : List Charge) (n j p : ℕ) (t s : State) →
    j ≤ p →
    ((k : BlockName) → HasBlock a k → entries b k j s ≤ entries a k n t) →
    AllByRecursion (λ x. HasBlock a x.block) more →
    toll b more j s + n ≤ p + toll a more n t
toll-of-fewer a b [] n j p t s le fewer has = omega arith
toll-of-fewer a b (c ∷ more) n j p t s le fewer has =
    omega (arith, mul-le-mul_left c.cost (fewer c.block has.0), toll-of-fewer a b more n j p t s le fewer has.1)

-- ---- two passes

false-parts : (x y : Bool) → IsFalse (x || y) → IsFalse x × IsFalse y
false-parts true y h = absurd (true≢false h)
false-parts false y h = (refl, h)

-- where the read run has returned within the first toll, and the printed one within the second for those steps
returns-at-both : (a b c : ModuleTree) (changed also : BlockName → Bool) (charges more : List Charge) (s t u : State) (n : ℕ) →
    ((k : BlockName) → HasBlock a k → HasBlock b k) →
    AllByRecursion (λ x. HasBlock a x.block) more →
    (first : ReturnsAtToll a b changed charges t u n) →
    ReturnsAtToll b c also more s t first.steps →
    ReturnsAtToll a c (λ k. changed k || also k) (charges ++ more) s u n
returns-at-both a b c changed also charges more s t u n keeps has first second = record {
  steps = second.steps;
  within =
      omega (arith, second.within, toll-of-fewer a b more n first.steps (toll a charges n u) u t first.within first.at_most has, toll-append a charges more n u);
  returned = second.returned;
  at_most = λ k h. le_trans (second.at_most k (keeps k h)) (first.at_most k h);
  as_often = λ k h same.
      let parts = false-parts (changed k) (also k) same in
      second.as_often k (keeps k h) parts.1 ∙ first.as_often k h parts.0;
}

-- The second answers a world of c by one of b, up to its horizon, and the first answers that one by one of a, up to the most steps
-- that were needed.
pub tolls-add : (a b c : ModuleTree) (changed also : BlockName → Bool) (charges more : List Charge) → AllowsAtToll a b changed charges → AllowsAtToll b c also more → AllByRecursion (λ x. HasBlock a x.block) more → AllowsAtToll a c (λ k. changed k || also k) (charges ++ more)
tolls-add a b c changed also charges more f g has = record {
  covers = covers-trans f.covers g.covers;
  keeps = λ k h. g.keeps k (f.keeps k h);
  serves = λ function args memory v horizon r.
      let h = g.serves function args memory v horizon (can-run function args memory f.covers r) in
      let k = f.serves function args memory h.0 (greatest h.2.steps horizon) r in
      let s = start c function args memory v in
      let t = start b function args memory h.0 in
      let u = start a function args memory k.0 in (
        k.0,
        world-trans v h.0 k.0 h.1 k.1,
        record {
          steps = λ n. k.2.steps (h.2.steps n);
          refined = λ n le. refines-trans (h.2.refined n le) (k.2.refined (h.2.steps n) (greatest-bounds h.2.steps horizon n le));
          returns = λ n over many.
              let both = toll-append a charges more n u in
              let first = k.2.returns n over (omega (arith, many, both, toll-of-steps a more n u, h.1.numbers)) in
              let fewer = toll-of-fewer a b more n first.steps (toll a charges n u) u t first.within first.at_most has in
              let second = h.2.returns first.steps first.returned (omega (arith, many, both, fewer)) in
              returns-at-both a b c changed also charges more s t u n f.keeps has first second;
        },
      );
}

-- ---- what a step costs

-- what the entry of a block costs
fee : List Charge → Option BlockName → ℕ
fee [] o = 0
fee (c ∷ charges) o = c.cost * count_of c.block o + fee charges o

-- no steps
toll-of-nothing : (m : ModuleTree) (charges : List Charge) (s : State) → toll m charges zero s ≡ 0
toll-of-nothing m [] s = refl
toll-of-nothing m (c ∷ charges) s = omega (arith, toll-of-nothing m charges s)

toll-suc : (m : ModuleTree) (charges : List Charge) (n : ℕ) (s : State) → toll m charges (suc n) s ≡ suc (fee charges (entered_next m s)) + toll m charges n (step m s)
unfolding fee
toll-suc m [] n s = omega arith
toll-suc m (c ∷ charges) n s = omega (arith, toll-suc m charges n s)

-- a step enters a block once at most
once : (k : BlockName) (o : Option BlockName) → count_of k o ≤ 1
once k None = omega arith
once k (Some j) = by (same_name j.function k.function && same_name j.block k.block)
  where
    by : (t : Bool) → (if t then 1 else 0) ≤ 1
    by true = omega arith
    by false = omega arith

fee-at-most : (charges : List Charge) (o : Option BlockName) → fee charges o ≤ costs_of charges
unfolding fee
fee-at-most [] o = omega arith
fee-at-most (c ∷ charges) o = omega (arith, mul-le-mul_left c.cost (once c.block o), fee-at-most charges o)

toll-at-most : (m : ModuleTree) (charges : List Charge) (n : ℕ) (s : State) → toll m charges n s ≤ (1 + costs_of charges) * n
toll-at-most m charges zero s = omega (arith, toll-of-nothing m charges s)
toll-at-most m charges (suc n) s =
    omega (arith, toll-suc m charges n s, fee-at-most charges (entered_next m s), toll-at-most m charges n (step m s))

-- ---- a toll is allowed with a factor

-- what is allowed at a toll is allowed with a factor: one more than all costs together
pub toll-is-allowed : (a b : ModuleTree) (changed : BlockName → Bool) (charges : List Charge) → AllowsAtToll a b changed charges → Allows a b (1 + costs_of charges)
toll-is-allowed a b changed charges f = record {
  covers = f.covers;
  serves = λ function args memory v horizon r.
      let h = f.serves function args memory v horizon r in
      let s = start b function args memory v in
      let t = start a function args memory h.0 in (
        h.0,
        h.1,
        record {
          steps = h.2.steps;
          refined = h.2.refined;
          returns = λ n over many.
              let bound = toll-at-most a charges n t in
              let back = h.2.returns n over (omega (arith, many, bound)) in
              returned-later b back.steps ((1 + costs_of charges) * (n + 1)) s (omega (arith, back.within, bound)) back.returned;
        },
      );
}
