use Rattle.text_forms.specs.Gives.{left}
use Rattle.ir_reader_items.specs.Sources.{outline_there, outline_read}
use Rattle.ir_reader_items.proofs.Outlines.{name_stands, name_is, outline_again}
use Rattle.ir_reader_items.proofs.passing.function_source.Goals as goal

pub invariant_of-source : goal.invariant_of-source
unfolding outline_read
invariant_of-source c =
    let there = outline_there c.args.defined (left c.args.tokens) in
    record {
      stands = name_stands there c.in_ok-name.name (left c.in_ok-name.rest) c.in_ok-name.ensures;
      named = name_is there c.in_ok-name.name (left c.in_ok-name.rest) c.in_ok-name.ensures;
    }

pub returns : goal.returns
unfolding outline_read
returns c = outline_again (outline_there c.args.defined (left c.args.tokens)) c.in_ok-name.name (left c.in_ok-name.rest) c.in_ok-name.ensures
