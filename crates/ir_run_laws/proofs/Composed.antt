-- A module allows itself, what an allowed module allows is allowed, and a factor may grow.
use Rattle.std.proofs.Common.{◌≡◌, ℕ, zero, suc, ◌+◌, ◌*◌, ◌≤◌, max, List, [], ◌∷◌, map, refl, sym, ◌∙◌, subst, arith, ⊎_elim, mul-le-mul_left, mul-le-mul_right}
use Rattle.std.proofs.lemmas.Bool.{cases_lt}
use Rattle.std.specs.List.{AllZip}
use Rattle.ir_types.specs.declared.name.Name.{Name}
use Rattle.ir_types.specs.Tree.{FunctionTree}
use Rattle.ir_types.specs.Tree.{ModuleTree}
use Rattle.ir_types.specs.Tree.{ParamTree}
use Rattle.ir_meaning.specs.declared.value.Value.{Value}
use Rattle.ir_meaning.specs.Values.{HasType}
use Rattle.ir_meaning.specs.Memory.{Memory}
use Rattle.ir_meaning.specs.State.{World}
use Rattle.ir_meaning.specs.Meaning.{start}
use Rattle.ir_meaning.specs.Runs.{observed}
use Rattle.ir_meaning.specs.Allows.{CanRun, Covers, SameSignature, IsWorldFor, Allows}
use Rattle.ir_run_laws.proofs.Order.{refines-refl, refines-trans}
use Rattle.ir_run_laws.proofs.Steps.{returned-later}

-- ---- what a module can run

pub covers-refl : (m : ModuleTree) → Covers m m
covers-refl m = record { fits = λ memory h. h; functions = λ name f d. (f, d, record { params = refl; ret = refl }) }

same-signature-trans : (f g h : FunctionTree) → SameSignature f g → SameSignature g h → SameSignature f h
same-signature-trans f g h s t = record { params = s.params ∙ t.params; ret = s.ret ∙ t.ret }

-- covering is transitive
pub covers-trans : {a b c : ModuleTree} → Covers a b → Covers b c → Covers a c
covers-trans f g = record {
  fits = λ memory h. g.fits memory (f.fits memory h);
  functions = λ name x d.
      let y = f.functions name x d in
      let z = g.functions name y.0 y.1 in
      (z.0, z.1, same-signature-trans x y.0 z.0 y.2 z.2);
}

-- arguments of one list of parameters are of another of the same types
typed-like : (ps qs : List ParamTree) (vs : List Value) → map (λ (p : ParamTree). p.ty) ps ≡ map (λ (p : ParamTree). p.ty) qs → AllZip (λ (p : ParamTree) v. HasType p.ty v) ps vs → AllZip (λ (p : ParamTree) v. HasType p.ty v) qs vs
typed-like [] [] vs e h = h
typed-like [] (q ∷ qs) vs e h = absurd (cc)
typed-like (p ∷ ps) [] vs e h = absurd (cc)
typed-like (p ∷ ps) (q ∷ qs) [] e h = h
typed-like (p ∷ ps) (q ∷ qs) (v ∷ vs) e h = let t : p.ty ≡ q.ty = cc in (subst (λ ty. HasType ty v) t h.0, typed-like ps qs vs (cc) h.1)

-- a run that the first module can make, the second can make, where this pair is covered
pub can-run : {a b : ModuleTree} (function : Name) (args : List Value) (memory : Memory) → Covers a b → CanRun a function args memory → CanRun b function args memory
can-run function args memory c r =
    let g = c.functions function r.f r.defined in
    record { f = g.0; defined = g.1; typed = typed-like r.f.params g.0.params args g.2.params r.typed; fits = c.fits memory r.fits }

-- ---- worlds and horizons

pub world-refl : (v : World) → IsWorldFor v v
world-refl v = record { replies = refl; numbers = omega arith }

-- being a world for another is transitive
pub world-trans : (u v w : World) → IsWorldFor u v → IsWorldFor v w → IsWorldFor u w
world-trans u v w f g = record { replies = g.replies ∙ f.replies; numbers = omega (arith, f.numbers, g.numbers) }

-- the greatest of f at 0 to n
pub greatest : (ℕ → ℕ) → ℕ → ℕ
greatest f zero = f zero
greatest f (suc n) = max (f (suc n)) (greatest f n)

-- up to n no value is above the greatest
pub greatest-bounds : (f : ℕ → ℕ) (n k : ℕ) → k ≤ n → f k ≤ greatest f n
unfolding greatest
greatest-bounds f zero k le = let e : k ≡ zero = omega arith in subst (λ i. f i ≤ f zero) (sym e) (omega arith)
greatest-bounds f (suc n) k le = ⊎_elim (λ lt. omega (arith, greatest-bounds f n k (omega arith))) (λ ge. let e : k ≡ suc n = omega arith in subst (λ i. f i ≤ max (f (suc n)) (greatest f n)) (sym e) (omega arith)) (cases_lt k (suc n))

-- ---- factors

-- a module allows itself with the factor 1
pub allows-itself : (m : ModuleTree) → Allows m m 1
allows-itself m = record {
  covers = covers-refl m;
  serves = λ function args memory v horizon r. (
    v,
    world-refl v,
    record {
      steps = λ n. n;
      refined = λ n h. refines-refl (observed m function args memory v n);
      returns = λ n h many. returned-later m n (1 * (n + 1)) (start m function args memory v) (omega arith) h;
    },
  );
}

-- what is allowed with a factor is allowed with each greater one
pub allowing-grows : (a b : ModuleTree) (c d : ℕ) → c ≤ d → Allows a b c → Allows a b d
allowing-grows a b c d le f = record {
  covers = f.covers;
  serves = λ function args memory v horizon r.
      let h = f.serves function args memory v horizon r in (
        h.0,
        h.1,
        record {
          steps = h.2.steps;
          refined = h.2.refined;
          returns = λ n over many.
              let more : c * (n + 1) ≤ d * (n + 1) = mul-le-mul_right (n + 1) le in
              returned-later b (c * (n + 1)) (d * (n + 1)) (start b function args memory v) more (h.2.returns n over (omega (arith, more, many)));
        },
      );
}

-- the steps of a run that serves one which serves another, for factors j and i
steps-composed : (i j n : ℕ) → 1 ≤ j → (i * (n + 1) ≤ j * (i + 1) * (n + 1)) × (j * (i * (n + 1) + 1) ≤ j * (i + 1) * (n + 1))
steps-composed i j n le =
    let p : (i * (n + 1)) * 1 ≤ (i * (n + 1)) * j = mul-le-mul_left (i * (n + 1)) le in
    (omega (arith, p), omega arith)

-- The second answers a world of c by one of b, up to its horizon, and the first answers that one by one of a, up to the most steps
-- that were needed.
pub allowing-composes : (a b c : ModuleTree) (i j : ℕ) → 1 ≤ j → Allows a b i → Allows b c j → Allows a c (j * (i + 1))
allowing-composes a b c i j le_j f g = record {
  covers = covers-trans f.covers g.covers;
  serves = λ function args memory v horizon r.
      let h = g.serves function args memory v horizon (can-run function args memory f.covers r) in
      let k = f.serves function args memory h.0 (greatest h.2.steps horizon) r in (
        k.0,
        world-trans v h.0 k.0 h.1 k.1,
        record {
          steps = λ n. k.2.steps (h.2.steps n);
          refined = λ n le. refines-trans (h.2.refined n le) (k.2.refined (h.2.steps n) (greatest-bounds h.2.steps horizon n le));
          returns = λ n over many.
              let bounds = steps-composed i j n le_j in
              let middle = k.2.returns n over (omega (arith, h.1.numbers, bounds.0)) in
              let last = h.2.returns (i * (n + 1)) middle (omega (arith, bounds.1)) in
              returned-later c (j * (i * (n + 1) + 1)) (j * (i + 1) * (n + 1)) (start c function args memory v) bounds.1 last;
        },
      );
}
