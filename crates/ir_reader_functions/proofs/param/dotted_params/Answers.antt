use Rattle.std.proofs.Common.{sym, ap, ◌∙◌}
use Rattle.text_forms.specs.Walk.{completed}
use Rattle.text_forms.specs.Gives.{left}
use Rattle.ir_reader_functions.specs.Functions.{dotted_in, numbered_dotted}
use Rattle.ir_reader_types.proofs.Same.{gives_same}
use Rattle.ir_reader_functions.proofs.Dotted.{dots_alone, dotted_none, some_dotted_is}
use Rattle.ir_reader_functions.proofs.param.dotted_params.Goals as goal

pub returns-then-is_next-clause-reads : goal.returns-then-is_next-clause-reads
returns-then-is_next-clause-reads c =
    rw c.new.ensures.items (ap (completed (numbered_dotted c.args.numbering.now.next)) (dots_alone (left c.args.tokens) (left c.in_ok-rest.rest) (sym c.is_next.ensures ∙ c.if-is_next.true) c.in_ok-rest.ensures))

pub returns-then-begins_param-clause-reads : goal.returns-then-begins_param-clause-reads
returns-then-begins_param-clause-reads c =
    let f = c.some_dotted.new in
    gives_same (λ x. ((dotted_in f.names x.0, f.numbering.next), left x.1)) c.some_dotted.result _ _
    (some_dotted_is c.args.numbering.now.next (left c.args.tokens) (sym c.is_next.ensures ∙ c.if-is_next.false) (sym c.begins_param.ensures ∙ c.if-begins_param.true)) c.some_dotted.ensures.reads

pub returns-clause-reads : goal.returns-clause-reads
returns-clause-reads c =
    rw c.new-2.ensures.items (ap (completed (numbered_dotted c.args.numbering.now.next)) (dotted_none (left c.args.tokens) (sym c.is_next.ensures ∙ c.if-is_next.false) (sym c.begins_param.ensures ∙ c.if-begins_param.false)))
