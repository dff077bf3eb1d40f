use Rattle.std.proofs.Common.{rules}
use Rattle.ir_check_edges.specs.Phis.{wrong_in}
use Rattle.ir_check_edges.proofs.Firsts.{first_passed, first_found}
use Rattle.ir_check_edges.proofs.phis.first_wrong.Goals as goal

pub returns-in-Some : goal.returns-in-Some
returns-in-Some c = first_found (wrong_in c.args.m.now) c.args.functions.now c.loop-function.function-index c.function-item.result c.in_ok-breach.field-0 _ c.in-Some.breach c.loop-function.invariant (search rules) c.function-item.is c.in_ok-breach.ensures c.in-Some.is

pub loop-function-preserved : goal.loop-function-preserved
loop-function-preserved c = first_passed (wrong_in c.args.m.now) c.args.functions.now c.loop-function.function-index c.function-item.result c.in_ok-breach.field-0 _ c.loop-function.invariant (search rules) c.function-item.is c.in_ok-breach.ensures c.in_default.is
