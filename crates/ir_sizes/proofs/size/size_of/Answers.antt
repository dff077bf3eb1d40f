use Rattle.std.proofs.Common.{◌≡◌, arith}
use Rattle.ir_types.specs.declared.memory_type.Extent.TheVariants.{Size}
use Rattle.ir_sizes.specs.Known.{AreRight, IsRight}
use Rattle.ir_sizes.proofs.Layouts.{laid_once}
use Rattle.ir_sizes.proofs.Setting.{right_small, extents_right, extents_sized}
use Rattle.ir_sizes.proofs.size.size_of.Goals as goal
use Rattle.ir_sizes.proofs.size.size_of.Goals.{After-as_slice-2, In-Size}

right : (c : After-as_slice-2) → AreRight c.args.m.now.types c.as_slice.result.now c.as_slice-2.result.now
right c = rw (c.as_slice.ensures, c.as_slice-2.ensures) (extents_right c.args.m.now.types c.args.m.now.type_names c.args.m.now.extents c.requires)

pub extent_of-requires : goal.extent_of-requires
extent_of-requires c = right_small c.args.m.now.types c.as_slice.result.now c.as_slice-2.result.now (right c).each

-- a size that is found is right
found : (c : In-Size) → IsRight c.args.m.now.types c.args.m.now.type_names c.args.ty.now (Size c.in-Size.size c.in-Size.field-1)
found c = rw c.as_slice.ensures at (c.in-Size.ensures.right c.args.m.now.types (right (goal.at.In-Size c).After-as_slice-2).each)

pub returns-in-Size : goal.returns-in-Size
returns-in-Size c =
    let laid = found (goal.at.returns-in-Size c).In-Size tt in
    let size = laid.2.0 in
    (laid.0, laid.1, omega arith, omega arith)

pub returns-in_default : goal.returns-in_default
returns-in_default c = λ l h.
    let laid = found (goal.at.returns-in_default c).In-Size tt in
    let size = laid.2.0 in
    let same = laid_once c.args.m.now.types c.args.m.now.type_names h laid.1 in
    let equal : l ≡ laid.0 = cc in
    rw equal (omega arith)

pub returns-in_default-2 : goal.returns-in_default-2
returns-in_default-2 c = λ l h.
    let parts = extents_sized c.args.m.now.types c.args.m.now.type_names c.args.m.now.extents c.requires c.args.ty.now l h in
    absurd (c.in_default.ensures.sized (rw (c.as_slice.ensures, c.as_slice-2.ensures) parts))
