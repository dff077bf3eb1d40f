use Rattle.std.proofs.Common.{◌≡◌, map, refl, ap}
use Rattle.ir_reader_values.specs.Seen.{operand_seen}
use Rattle.ir_reader_control.specs.Labelled.{labels_in}
use Rattle.ir_reader_control.proofs.entries.phi.Goals as goal

pub returns-clause-stays : goal.returns-clause-stays
returns-clause-stays c = λ later e.
    let n = c.entries.new.scope in
    let stays = c.in_ok-args.ensures.stays later e in
    let args : map (operand_seen later) c.in_ok-args.args ≡ map (operand_seen n) c.in_ok-args.args = ap (λ x. x.0) stays in
    let labels : labels_in later c.in_ok-args.labels ≡ labels_in n c.in_ok-args.labels = ap (λ x. x.1) stays in
    rw (c.bare.ensures, args, labels) refl

pub returns-clause-uses : goal.returns-clause-uses
returns-clause-uses c = rw c.bare.ensures c.in_ok-args.ensures.uses
