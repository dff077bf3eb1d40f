use Rattle.std.proofs.Common.{◌≡◌, length}
use Rattle.text_forms.specs.declared.TokenKind.TheVariants.{Comma}
use Rattle.text_forms.specs.Form.{many}
use Rattle.text_forms.specs.Reading.{read}
use Rattle.text_forms.specs.Gives.{left}
use Rattle.text_forms.proofs.Many.{behind_front}
use Rattle.text_forms.specs.Combined.{commas, marked}
use Rattle.ir_types.specs.TypeForms.{value_type}
use Rattle.ir_reader_memory.proofs.signature.types.Given as goal

abbrev pub decreases-more : goal.decreases-more
decreases-more l = length l.rest.rest.now

abbrev pub invariant-more : goal.invariant-more
invariant-more l = behind_front l.types.items (read (many (marked Comma value_type)) (left l.rest)) ≡ read (commas value_type) (left l.fn.tokens)
