use Rattle.std.proofs.Common.{ap, ◌∙◌}
use Rattle.text_forms.specs.Reading.{read}
use Rattle.text_forms.specs.Gives.{left}
use Rattle.ir_types.specs.InstForms.{branch}
use Rattle.ir_reader_values.specs.Seen.{definitions}
use Rattle.ir_reader_control.proofs.Conditions.{conditional_is}
use Rattle.ir_reader_control.proofs.branches.branch.Goals as goal

pub returns-in-Some-clause-reads : goal.returns-in-Some-clause-reads
returns-in-Some-clause-reads c =
    let defs = definitions c.args.scope.now in
    ap (read (branch defs)) c.in-Some.ensures ∙ conditional_is defs (left c.in-Some.rest) ∙ c.in_ok-inst.ensures.reads
