use Rattle.std.proofs.Common.{◌+◌, ◌≤◌, length, rules}
use Rattle.vplan_io.proofs.Appended.{front-written}
use Rattle.vplan_io.proofs.outside.write_whole.Goals as goal

pub loop-done-preserved : goal.loop-done-preserved
loop-done-preserved g c =
    let within : c.loop-done.done + c.in-Ok.n ≤ length c.args.bytes.now = search rules in
    record {
      within = within;
      written = front-written _ _ _ _ _ _ within c.loop-done.invariant.written (rw c.in-Ok.is at c.write_some.ensures.ok);
    }
