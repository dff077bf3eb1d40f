use Rattle.std.proofs.Common.{sym, ap, ◌∙◌}
use Rattle.text_forms.specs.Walk.{walk, completed}
use Rattle.text_forms.specs.Gives.{left}
use Rattle.ir_types.specs.Numbered.{numbered_param}
use Rattle.ir_reader_functions.specs.Functions.{params_in}
use Rattle.ir_reader_types.proofs.Same.{gives_same}
use Rattle.ir_reader_functions.proofs.Functions.{list_some, list_none}
use Rattle.ir_reader_functions.proofs.param.params.Goals as goal

pub returns-then-begins_param-clause-reads : goal.returns-then-begins_param-clause-reads
returns-then-begins_param-clause-reads c =
    let f = c.some_params.new in
    let ts = left c.args.tokens in
    gives_same (λ x. ((params_in f.names x.0.items, f.numbering.next), left x.1)) c.some_params.result _ _
    (ap (completed (walk numbered_param c.args.numbering.now.next)) (sym (list_some ts (sym c.begins_param.ensures ∙ c.if-begins_param.true)))) c.some_params.ensures.reads

pub returns-clause-reads : goal.returns-clause-reads
returns-clause-reads c =
    rw c.new.ensures.items (ap (completed (walk numbered_param c.args.numbering.now.next)) (list_none (left c.args.tokens) (sym c.begins_param.ensures ∙ c.if-begins_param.false)))
