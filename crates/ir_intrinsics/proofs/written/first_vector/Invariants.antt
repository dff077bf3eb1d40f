use Rattle.std.proofs.Common.{◌≡◌, drop, map}
use Rattle.std.specs.Prelude.{filter_map}
use Rattle.ir_intrinsics.specs.Intrinsics.{first}
use Rattle.ir_intrinsics.specs.Means.{vector_in}
use Rattle.ir_intrinsics.proofs.written.first_vector.Given as goal

abbrev pub invariant-loop-front : goal.invariant-loop-front
invariant-loop-front l = first (filter_map (vector_in l.end l.text) (map (λ e. (e.0.now, e.1)) (drop l.front-index l.lanes))) ≡ first (filter_map (vector_in l.end l.text) (map (λ e. (e.0.now, e.1)) l.lanes))
