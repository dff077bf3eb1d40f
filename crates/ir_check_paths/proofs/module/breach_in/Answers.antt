use Rattle.std.proofs.Common.{subst}
use Rattle.ir_check_paths.specs.Finding.{FindsFirst}
use Rattle.ir_check_paths.proofs.BreachLemmas.{use_within, breach_none, breach_some}
use Rattle.ir_check_paths.proofs.module.breach_in.Goals as goal

pub breach_at-requires : goal.breach_at-requires
breach_at-requires c = use_within c.args.function.now c.requires.tables (c.in-Some.name, c.in-Some.place) (subst (FindsFirst c.args.function.now) c.in-Some.is c.in_ok-name.ensures)

pub returns-in_ok-breach_at-in-Some : goal.returns-in_ok-breach_at-in-Some
returns-in_ok-breach_at-in-Some c = breach_some c.args.function.now (c.in-Some.name, c.in-Some.place) c.in_ok-breach_at-in-Some.field-0 c.in_ok-breach_at-in-Some.ensures (subst (FindsFirst c.args.function.now) c.in-Some.is c.in_ok-name.ensures)

pub returns-in-None : goal.returns-in-None
returns-in-None c = breach_none c.args.function.now (subst (FindsFirst c.args.function.now) c.in-None.is c.in_ok-name.ensures)
