use Rattle.std.proofs.Common.{◌≡◌, drop, map}
use Rattle.std.specs.Prelude.{filter_map}
use Rattle.ir_intrinsics.specs.Intrinsics.{first}
use Rattle.ir_intrinsics.specs.Means.{family_in, in_one}
use Rattle.ir_intrinsics.proofs.meant.in_families.Given as goal

abbrev pub invariant-loop-front : goal.invariant-loop-front
invariant-loop-front l = first (filter_map (in_one l.text) (map (λ e. (e.0.now, family_in e.1)) (drop l.front-index l.families))) ≡ first (filter_map (in_one l.text) (map (λ e. (e.0.now, family_in e.1)) l.families))
