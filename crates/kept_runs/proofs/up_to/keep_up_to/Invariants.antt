use Rattle.std.proofs.Common.{◌≡◌, [], length}
use Rattle.text_forms.specs.Gives.{left}
use Rattle.text_forms.specs.Machine.{behind}
use Rattle.text_forms.specs.Reading.{read_up_to}
use Rattle.kept_runs.specs.Stopping.{stops_of}
use Rattle.kept_runs.proofs.up_to.keep_up_to.Given as goal

abbrev pub decreases-each : goal.decreases-each
decreases-each l = length l.rest.rest.now

abbrev pub invariant-each : goal.invariant-each
invariant-each l = behind l.texts (read_up_to (stops_of l.stops) l.awaited (left l.rest)) ≡ behind l.fn.texts (read_up_to (stops_of l.fn.stops) [] (left l.fn.tokens))
