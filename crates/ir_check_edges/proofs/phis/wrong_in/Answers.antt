use Rattle.std.proofs.Common.{Some, None, sym, ap, ◌∙◌}
use Rattle.ir_check_edges.proofs.Wrongs.{breach_is}
use Rattle.ir_check_edges.proofs.phis.wrong_in.Goals as goal

pub returns-in-Some : goal.returns-in-Some
returns-in-Some c = ap (λ n. Some (record { function = Some n; subject = c.in-Some.subject; place = c.in-Some.place })) c.in_ok-copy-in-Some.ensures ∙ breach_is c.args.m.now c.args.function.now (Some (c.in-Some.subject, c.in-Some.place)) (sym c.in-Some.is ∙ c.in_ok-subject.ensures)

pub returns : goal.returns
returns c = breach_is c.args.m.now c.args.function.now None (sym c.in-None.is ∙ c.in_ok-subject.ensures)
