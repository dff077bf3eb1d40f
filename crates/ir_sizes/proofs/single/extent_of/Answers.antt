use Rattle.std.proofs.Common.{subst}
use Rattle.ir_types.specs.Sizes.{scalar_laid, array_laid, named_laid}
use Rattle.ir_sizes.specs.Known.{IsSized, IsExtentOf}
use Rattle.ir_sizes.proofs.single.extent_of.Goals as goal

pub returns-in-One-clause-right : goal.returns-in-One-clause-right
returns-in-One-clause-right c = λ types h sized.
    let value = c.of_value.ensures.right sized in
    rw c.in-One.is (_, scalar_laid c.in-One.ty value.0, value.1)

pub returns-in-Array-clause-right : goal.returns-in-Array-clause-right
returns-in-Array-clause-right c = λ types h sized.
    let element = h c.in-Array.element (subst IsSized c.extent_of_part.ensures (c.of_array.ensures.sized.1 sized)) in
    let is : IsExtentOf element.0 c.extent_of_part.result = rw c.extent_of_part.ensures element.2 in
    rw c.in-Array.is (_, array_laid c.in-Array.count c.in-Array.element element.0 element.1, c.of_array.ensures.right element.0 is)

pub returns-in-Struct-clause-right : goal.returns-in-Struct-clause-right
returns-in-Struct-clause-right c = λ types h sized.
    rw c.in-Struct.is (rw c.as_slice.ensures at (c.of_struct.ensures.right types c.args.names.now h sized))

pub returns-in-Some-clause-right : goal.returns-in-Some-clause-right
returns-in-Some-clause-right c = λ types h sized.
    let part = h c.in-Some.id (subst IsSized c.extent_of_part-in-Some.ensures sized) in
    let defined = c.in-Some.ensures in
    rw (c.in-Named.is, c.extent_of_part-in-Some.ensures) (part.0, named_laid c.in-Named.name defined.0 c.in-Some.id part.0 defined.1 part.1, part.2)

pub returns-in-None-clause-sized : goal.returns-in-None-clause-sized
returns-in-None-clause-sized c = rw c.in-Named.is (λ x. c.in-None.ensures x.0 x.1)
