use Rattle.std.proofs.Common.{◌≡◌, length}
use Rattle.text_forms.specs.declared.TokenKind.TheVariants.{Comma}
use Rattle.text_forms.specs.Form.{many}
use Rattle.text_forms.specs.Reading.{read}
use Rattle.text_forms.specs.Gives.{left}
use Rattle.text_forms.proofs.Many.{behind_front}
use Rattle.text_forms.specs.Combined.{commas, marked}
use Rattle.ir_types.specs.ValueForms.{typed_lane}
use Rattle.ir_reader_values.specs.View.{lanes_in}
use Rattle.ir_reader_values.proofs.lanes.some_lanes.Given as goal

abbrev pub decreases-more : goal.decreases-more
decreases-more l = length l.rest.rest.now

abbrev pub invariant-more : goal.invariant-more
invariant-more l = behind_front (lanes_in l.lanes.items) (read (many (marked Comma typed_lane)) (left l.rest)) ≡ read (commas typed_lane) (left l.fn.tokens)
