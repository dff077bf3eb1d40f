use Rattle.std.proofs.Common.{◌≡◌, [], ◌-◌, ◌≤◌, length, take}
use Rattle.vplan_io.specs.Causes.{and_then}
use Rattle.vplan_io.proofs.pieces.put_text.Given as goal

abbrev pub invariant-loop-done : goal.invariant-loop-done
invariant-loop-done g l = record {
  within : l.done ≤ length l.text;
  bytes : g.S.Sink.taken l.sink ≡ and_then (g.S.Sink.taken l.initial.sink) (take l.done l.text);
  none : l.text ≡ [] → l.sink ≡ l.initial.sink;
  later : g.S.Sink.faults l.initial.sink ≤ g.S.Sink.faults l.sink;
}

abbrev pub decreases-loop-done : goal.decreases-loop-done
decreases-loop-done g l = length l.text - l.done
