use Rattle.text_forms.specs.Gives.{left}
use Rattle.ir_reader_types.proofs.Same.{gives_same}
use Rattle.ir_reader_items.specs.Parts.{item_of}
use Rattle.ir_reader_items.proofs.Typed.{definition_is}
use Rattle.ir_reader_items.proofs.definition.definition.Goals as goal

pub returns : goal.returns
returns c = λ d le. gives_same (λ x. (item_of x.0, left x.1)) c.parts.result _ _ (definition_is d (left c.args.tokens) le) c.parts.ensures
