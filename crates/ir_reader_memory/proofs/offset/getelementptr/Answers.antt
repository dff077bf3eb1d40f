use Rattle.ir_reader_values.proofs.Using.{uses_type_before}
use Rattle.ir_types.specs.TypeNodes.{names_used}
use Rattle.std.proofs.Common.{◌≡◌, map, refl, ap}
use Rattle.ir_reader_values.specs.Seen.{nodes_seen, operand_seen}
use Rattle.ir_reader_values.proofs.Widening.{widens_trans, steady_behind}
use Rattle.ir_reader_memory.proofs.offset.getelementptr.Goals as goal

pub returns-clause-stays : goal.returns-clause-stays
returns-clause-stays c = λ later e.
    let n = c.steps.new.scope in
    let nodes = steady_behind nodes_seen c.memory.new.scope n c.in_ok-id.id c.in_ok-widths.ensures.grows c.in_ok-id.ensures.stays later e in
    let args : map (operand_seen later) c.in_ok-widths.args ≡ map (operand_seen n) c.in_ok-widths.args = ap (λ x. x.1) (c.in_ok-widths.ensures.stays later e) in
    rw (c.applied.ensures, nodes, args) refl

pub returns-clause-uses : goal.returns-clause-uses
returns-clause-uses c =
    let a = c.memory.new.scope in
    let n = c.steps.new.scope in
    let nodes = c.in_ok-id.ensures.stays n c.in_ok-widths.ensures.grows in
    rw (c.applied.ensures, nodes)
    (uses_type_before c.args.scope.now.tables a.tables n.tables (names_used (nodes_seen a c.in_ok-id.id)) (map (operand_seen n) c.in_ok-widths.args) c.in_ok-id.ensures.uses c.in_ok-widths.ensures.uses)

pub returns-in_err-widths-clause-grows : goal.returns-in_err-widths-clause-grows
returns-in_err-widths-clause-grows c = widens_trans c.args.scope.now c.memory.new.scope c.steps.new.scope c.in_ok-id.ensures.grows c.in_err-widths.ensures.grows

pub returns-clause-grows : goal.returns-clause-grows
returns-clause-grows c = widens_trans c.args.scope.now c.memory.new.scope c.steps.new.scope c.in_ok-id.ensures.grows c.in_ok-widths.ensures.grows
