use Rattle.std.proofs.Common.{rules, ◌≡◌, ◌||◌, Bool, true, false, IsTrue, is_none}
use Rattle.vplan_io.specs.Causes.{raised}
use Rattle.vplan_io.specs.Memory.{told_by_shelf, is_listed, failing_loads, loads_made}
use Rattle.vplan_io.proofs.memory.ShelfFiles.load.Goals as goal

-- where neither test holds, their "or" does not
neither : (a b : Bool) → a ≡ false → b ≡ false → IsTrue (a || b) → ⊥
neither true b p q t = cc
neither false true p q t = cc
neither false false p q t = cc

-- a file is found, and the number is not listed
pub returns-in-Some-clause-failed : goal.returns-in-Some-clause-failed
returns-in-Some-clause-failed c =
    let listed : is_listed (failing_loads c.args.self.now) (raised (loads_made c.args.self.now)) ≡ false = search rules in
    let absent : is_none (told_by_shelf c.args.self.now c.args.name.now) ≡ false = search rules in
    (λ e. absurd (c.copied.ensures.refused e), λ fails. absurd (neither _ _ listed absent fails))
