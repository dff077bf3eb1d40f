use Rattle.std.proofs.Common.{◌≡◌, Some, refl, subst, length, arith}
use Rattle.std.specs.Prelude.{slice_get}
use Rattle.std.proofs.lemmas.Option.{slice_get_read}
use Rattle.ir_sizes.specs.Known.{AreSized}
use Rattle.ir_sizes.proofs.Setting.{right_small, right_set}
use Rattle.ir_sizes.proofs.place.set_at.Goals as goal
use Rattle.ir_sizes.proofs.place.set_at.Goals.{After-extent_of-extent}

-- the type at the place
found : (c : After-extent_of-extent) → slice_get c.args.types.now c.args.place ≡ Some c.index-types-place.result
found c = slice_get_read c.args.types.now (length c.args.types.now) c.args.place c.index-types-place.result refl c.requires.place c.index-types-place.is

pub extent_of-extent-requires : goal.extent_of-extent-requires
extent_of-extent-requires c = right_small c.args.types.now c.args.names.now c.args.extents.now c.requires.right.each

pub returns-then-not-is_sized-clause-settled : goal.returns-then-not-is_sized-clause-settled
returns-then-not-is_sized-clause-settled c = λ _ t e parts.
    let there = found (goal.at.returns-then-not-is_sized-clause-settled c).After-extent_of-extent in
    let same : t ≡ c.index-types-place.result = cc in
    let sized = c.extent_of-extent.ensures.sized (subst (λ u. AreSized c.args.names.now c.args.extents.now u) same parts) in
    absurd (cc (c.if-not-is_sized.ensures.1 sized))

pub returns-clause-right : goal.returns-clause-right
returns-clause-right c =
    right_set c.args.types.now c.args.names.now c.args.extents.now c.args.place c.index-types-place.result c.extent_of-extent.result c.requires.right
    (omega (arith, c.requires.right.as_many))
    (found (goal.at.returns-clause-right c).After-extent_of-extent)
    (c.extent_of-extent.ensures.right c.args.types.now c.requires.right.each)
