use Rattle.std.proofs.Common.{◌≡◌, length}
use Rattle.text_forms.specs.Form.{many}
use Rattle.text_forms.specs.Reading.{read}
use Rattle.text_forms.specs.Walk.{completed}
use Rattle.text_forms.specs.Gives.{left}
use Rattle.ir_types.specs.InstForms.{case_of_switch}
use Rattle.ir_reader_values.specs.Seen.{name_seen, Widens, AreSteady}
use Rattle.ir_reader_values.specs.Split.{split_each, gathered}
use Rattle.ir_reader_control.specs.Labelled.{labels_in, case_at, cases_behind, cases_read}
use Rattle.ir_reader_control.proofs.switches.cases.Given as goal

abbrev pub decreases-more : goal.decreases-more
decreases-more l = length l.rest.rest.now

abbrev pub invariant-more : goal.invariant-more
invariant-more l = record {
  grows : Widens l.fn.scope l.scope;
  reads : gathered (cases_behind l.numbers.items l.wide (labels_in l.scope l.labels)) (completed (split_each (case_at l.bits)) (read (many case_of_switch) (left l.rest))) ≡ cases_read l.bits (labels_in l.fn.scope l.fn.labels) (left l.fn.tokens);
  stays : AreSteady name_seen l.scope l.labels;
  tables : l.scope.tables ≡ l.fn.scope.tables;
}
