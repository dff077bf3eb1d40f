use Rattle.kept_runs.proofs.Stack.{popped}
use Rattle.kept_runs.proofs.awaited.Awaited.close.Goals as goal

pub returns : goal.returns
returns c = popped c.args.self.now c.self.inside.closers.items c.pop.new.self.items c.in-Some.next c.args.kind c.eq.result c.self.view_is c.in-Some.ensures.items c.eq.ensures
