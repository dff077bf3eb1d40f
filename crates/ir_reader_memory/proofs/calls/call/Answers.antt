use Rattle.std.proofs.Common.{List, ap}
use Rattle.text_forms.specs.Gives.{left}
use Rattle.ir_types.specs.declared.call.Actual.{Actual}
use Rattle.ir_types.specs.Tree.{OperandTree}
use Rattle.ir_reader_values.specs.Seen.{definitions}
use Rattle.ir_reader_memory.specs.Calls.{actuals_in}
use Rattle.ir_reader_memory.proofs.Callees.{call_reads, call_of}
use Rattle.ir_reader_memory.proofs.calls.call.Goals as goal

pub returns-clause-reads : goal.returns-clause-reads
returns-clause-reads c =
    let s = c.enclosed_arguments.new.scope in
    rw c.applied.ensures (call_reads (definitions c.args.scope.now) c.args.tail c.in_ok-before.before c.in_ok-after.after c.in_ok-ty.ty c.in_ok-signature.signature c.in_ok-name.name (actuals_in s (c.in_ok-actuals.actuals, c.in_ok-actuals.args))
    (left c.args.tokens) (left c.in_ok-before.rest) (left c.in_ok-ty.rest) (left c.in_ok-signature.rest) (left c.in_ok-name.rest) (left c.in_ok-actuals.rest) (left c.in_ok-after.rest)
    c.in_ok-before.ensures c.in_ok-ty.ensures c.in_ok-signature.ensures c.in_ok-name.ensures c.in_ok-actuals.ensures.reads c.in_ok-after.ensures)

pub returns-clause-stays : goal.returns-clause-stays
returns-clause-stays c = λ later w.
    rw c.applied.ensures (ap (λ (p : List Actual × List OperandTree). call_of c.args.tail c.in_ok-before.before c.in_ok-ty.ty c.in_ok-signature.signature c.in_ok-name.name (c.in_ok-actuals.actuals, p.1) c.in_ok-after.after) (c.in_ok-actuals.ensures.stays later w))

pub returns-clause-uses : goal.returns-clause-uses
returns-clause-uses c = rw c.applied.ensures c.in_ok-actuals.ensures.uses
