use Rattle.text_forms.specs.Gives.{left}
use Rattle.ir_reader_ops.proofs.Attached.{attached_reads, attached_steady}
use Rattle.ir_reader_values.specs.Seen.{definitions}
use Rattle.ir_types.specs.InstForms.{terminator}
use Rattle.ir_reader_ops.specs.Words.{bare_terminator}
use Rattle.ir_reader_ops.proofs.inst.terminator.Goals as goal

pub returns-clause-stays : goal.returns-clause-stays
returns-clause-stays c = attached_steady c.bare_terminator.new.scope c.in_ok-inst.inst c.in_ok-inst-2.inst (left c.in_ok-inst.rest) (left c.in_ok-inst-2.rest) c.in_ok-inst-2.ensures.reads c.in_ok-inst.ensures.stays

pub returns-clause-uses : goal.returns-clause-uses
returns-clause-uses c = rw (c.in_ok-inst-2.ensures.same.0, c.in_ok-inst-2.ensures.same.1) c.in_ok-inst.ensures.uses

pub returns-clause-reads : goal.returns-clause-reads
unfolding terminator
returns-clause-reads c =
    let defs = definitions c.args.scope.now in
    attached_reads (bare_terminator defs) c.bare_terminator.new.scope c.in_ok-inst.inst c.in_ok-inst-2.inst (left c.args.tokens) (left c.in_ok-inst.rest) (left c.in_ok-inst-2.rest) c.in_ok-inst.ensures.reads c.in_ok-inst-2.ensures.reads
