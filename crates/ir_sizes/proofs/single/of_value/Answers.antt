use Rattle.std.proofs.Common.{◌≡◌, refl, arith}
use Rattle.ir_types.specs.Types.{IsType}
use Rattle.ir_types.specs.Sizes.{value_size}
use Rattle.ir_sizes.proofs.Layouts.{value_capped}
use Rattle.ir_sizes.proofs.single.of_value.Goals as goal
use Rattle.ir_sizes.proofs.single.of_value.Goals.{in-Int, in-Ptr, in-Vector}

pub returns-clause-right : goal.returns-clause-right
returns-clause-right c =
    let both : IsType c.args.ty × (c.from-bytes.result ≡ value_size c.args.ty) = elim c.match-ty.branch [
      | in-Int w ↦ rw w.in-Int.is (w.if-is_width.ensures.0 refl, omega arith)
      | in-Ptr w ↦ rw w.in-Ptr.is (tt, omega arith)
      | in-Vector w ↦ rw w.in-Vector.is ((w.if-is_lane_count.ensures.0 refl, w.if-is_width-2.ensures.0 refl), omega arith)
    ] in
    λ u. (both.0, value_capped c.args.ty c.from-bytes.result both.0 both.1)
