use Rattle.std.proofs.Common.{◌≡◌, sym, ap, ◌∙◌}
use Rattle.text_forms.specs.Reading.{read}
use Rattle.text_forms.specs.Walk.{completed}
use Rattle.text_forms.specs.Gives.{left}
use Rattle.ir_types.specs.FunctionForms.{line}
use Rattle.ir_types.specs.Numbered.{numbered_inst}
use Rattle.ir_reader_values.specs.Seen.{definitions, inst_seen}
use Rattle.ir_reader_ops.specs.Words.{form_at}
use Rattle.ir_reader_functions.specs.Lines.{named_so}
use Rattle.ir_reader_functions.proofs.Lines.{named_at, plain_at}
use Rattle.ir_reader_types.proofs.Same.{gives_same}
use Rattle.ir_reader_functions.proofs.line.line.Goals as goal

pub returns-in-Some-clause-reads : goal.returns-in-Some-clause-reads
returns-in-Some-clause-reads c =
    let f = c.named.new in
    let name = c.in-Some.name.now in
    let v = c.in-Some.ensures.0 in
    let rest = left c.in-Some.rest in
    let defs = definitions c.args.scope.now in
    let form = form_at defs c.args.place in
    let same : read (line (form_at defs c.args.place)) (left c.args.tokens) ≡ named_so name v (read (form_at defs c.args.place) rest) = ap (read (line (form_at defs c.args.place))) c.in-Some.ensures.1 ∙ named_at defs c.args.place name v rest in
    gives_same (λ x. ((inst_seen f.scope x.0, f.numbering.next), left x.1)) c.named.result _ _ (ap (completed (numbered_inst c.args.numbering.now.next)) (sym same)) (c.named.ensures.reads v)

pub returns-in-None-clause-reads : goal.returns-in-None-clause-reads
returns-in-None-clause-reads c =
    let f = c.plain.new in
    let same = plain_at (definitions c.args.scope.now) c.args.place (left c.args.tokens) c.in-None.ensures in
    gives_same (λ x. ((inst_seen f.scope x.0, f.numbering.next), left x.1)) c.plain.result _ _ (ap (completed (numbered_inst c.args.numbering.now.next)) (sym same)) c.plain.ensures.reads
