use Rattle.text_forms.specs.Gives.{left}
use Rattle.ir_reader_values.specs.Seen.{definitions}
use Rattle.ir_reader_types.proofs.Same.{gives_same}
use Rattle.ir_reader_functions.specs.Blocks.{block_seen}
use Rattle.ir_reader_functions.proofs.Parts.{block_is}
use Rattle.ir_reader_functions.proofs.block.block.Goals as goal

pub returns-clause-reads : goal.returns-clause-reads
returns-clause-reads c =
    let f = c.parts.new in
    gives_same (λ x. ((block_seen f.scope x.0, f.numbering.next), left x.1)) c.parts.result _ _ (block_is (definitions c.args.scope.now) c.args.numbering.now.next (left c.args.tokens)) c.parts.ensures.reads
