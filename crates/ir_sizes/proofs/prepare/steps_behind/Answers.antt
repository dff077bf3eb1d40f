use Rattle.std.proofs.Common.{sym}
use Rattle.ir_sizes.proofs.Setting.{extents_right}
use Rattle.ir_sizes.proofs.prepare.steps_behind.Goals as goal

pub returns-in-Ok-clause-are : goal.returns-in-Ok-clause-are
returns-in-Ok-clause-are c = λ names are old.
    let first = rw (sym c.steps.view_is) at old in
    let right = (extents_right c.args.types.now names c.args.extents.now are).each in
    record {
      first = record { ends = first.ends; starts = c.in-Ok.ensures.are names right first.starts };
      as_many = c.in-Ok.ensures.as_many first.starts.within;
    }
