use Rattle.ir_sizes.proofs.Members.{end_all}
use Rattle.ir_sizes.proofs.single.of_struct.Goals as goal

pub returns-in-Some-clause-right : goal.returns-in-Some-clause-right
returns-in-Some-clause-right c = λ types names h.
    let e = c.in-Some.ensures.right types names h in
    rw (c.min.ensures, c.aligned_up.ensures) (end_all types names c.args.packed c.args.members.now c.in-Some.end.bytes c.in-Some.end.align c.in-Some.ensures.small.1 e)
