-- A text written piece by piece.
use Rattle.std.proofs.Common.{ℕ, ◌+◌, ◌-◌, ◌≤◌, List, length, take, drop, subst, sym, arith, ap, ◌∙◌, ◌++◌}
use Rattle.std.proofs.Math.Seq.{take-add, take-take}
use Rattle.std.proofs.KnownBytes.{Appends-trans}
use Rattle.std.specs.Io.KnownBytes.{Appends}
use Rattle.std.specs.declared.option.Option.{Option}

-- a write of what is left of a text behind its front makes the front longer
pub front-written : (a b c : Option (List ℕ)) (text : List ℕ) (done n : ℕ) → done + n ≤ length text → Appends a b (take done text) → Appends b c (take n (take (length text - done) (drop done text))) → Appends a c (take (done + n) text)
front-written a b c text done n h p q =
    subst (Appends a c) (ap (λ piece. take done text ++ piece) (take-take n (length text - done) (drop done text) (omega arith)) ∙ sym (take-add done n text)) (Appends-trans a b c _ _ p q)
