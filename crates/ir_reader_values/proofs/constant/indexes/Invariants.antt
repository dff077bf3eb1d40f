use Rattle.std.proofs.Common.{◌≡◌, map, length}
use Rattle.std.specs.Prelude.{All}
use Rattle.text_forms.specs.Form.{many}
use Rattle.text_forms.specs.Reading.{read}
use Rattle.text_forms.specs.Gives.{left}
use Rattle.text_forms.proofs.Many.{behind_front}
use Rattle.ir_reader_values.specs.View.{index_in, HasWidth}
use Rattle.text_forms.specs.Combined.{some}
use Rattle.ir_types.specs.ValueForms.{comma_index}
use Rattle.ir_reader_values.proofs.constant.indexes.Given as goal

abbrev pub decreases-more : goal.decreases-more
decreases-more l = length l.rest.rest.now

abbrev pub invariant-more : goal.invariant-more
invariant-more l = record {
  reads : behind_front (map index_in l.indexes.items) (read (many comma_index) (left l.rest)) ≡ read (some comma_index) (left l.fn.tokens);
  within : All HasWidth l.indexes.items;
}
