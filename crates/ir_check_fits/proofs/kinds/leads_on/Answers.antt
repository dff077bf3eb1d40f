use Rattle.std.proofs.Common.{arith}
use Rattle.std.proofs.lemmas.Grind.{common_steps}
use Rattle.ir_types.specs.Denotes.{tables_of}
use Rattle.ir_check_fits.proofs.kinds.leads_on.Goals as goal

pub returns-in-Some : goal.returns-in-Some
returns-in-Some c =
    let stepped = c.is_stepped.ensures (tables_of c.args.x.now.whole) c.args.x.now.part.names in
    grind (arith, common_steps)
