use Rattle.text_forms.specs.Gives.{left}
use Rattle.ir_types.specs.Denotes.{function_in}
use Rattle.ir_reader_types.proofs.Same.{gives_same}
use Rattle.ir_reader_functions.proofs.Bodies.{declared_is}
use Rattle.ir_reader_functions.proofs.function.declared.Goals as goal

pub returns-clause-reads : goal.returns-clause-reads
returns-clause-reads c = λ t. gives_same (λ x. (function_in t x.0, left x.1)) c.declared_parts.result _ _ (declared_is (left c.args.tokens)) (c.declared_parts.ensures.reads t)
