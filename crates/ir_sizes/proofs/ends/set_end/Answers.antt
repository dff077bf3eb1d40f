use Rattle.std.proofs.lemmas.Option.{slice_get-get_or}
use Rattle.std.proofs.Common.{arith}
use Rattle.ir_sizes.proofs.Leading.{end_set}
use Rattle.ir_sizes.proofs.Places.{defined_there}
use Rattle.ir_sizes.proofs.ends.set_end.Goals as goal

pub returns-in-Some-clause-ends : goal.returns-in-Some-clause-ends
returns-in-Some-clause-ends c =
    let names = c.args.names.now in
    let ends = c.set_on_the_way.ensures.ends in
    end_set c.args.types.now names c.set_on_the_way.new.ends c.args.place c.in-Some.end
    (omega (arith, ends.as_many, c.requires.within))
    ends
    (record {
      id = c.in-Defined.id;
      defined = defined_there names c.args.place _ c.in-Defined.id (slice_get-get_or names c.args.place _ c.requires.within) c.in-Defined.is;
      leads = c.in-Some.ensures.leads;
    })
