use Rattle.text_forms.specs.Gives.{left}
use Rattle.ir_reader_types.proofs.Same.{gives_same}
use Rattle.ir_reader_types.proofs.Vectors.{vector_is}
use Rattle.ir_reader_types.proofs.types.vector_type.Goals as goal

pub returns-clause-reads : goal.returns-clause-reads
returns-clause-reads c = gives_same (λ x. (x.0, left x.1)) c.vector_parts.result _ _ (vector_is (left c.args.tokens)) c.vector_parts.ensures.reads
