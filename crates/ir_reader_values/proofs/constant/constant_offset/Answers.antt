use Rattle.ir_reader_values.proofs.Using.{uses_type_before}
use Rattle.ir_types.specs.Tree.{global}
use Rattle.ir_types.specs.TypeNodes.{names_used}
use Rattle.std.proofs.Common.{refl, [], ◌∷◌}
use Rattle.ir_reader_values.specs.Seen.{nodes_seen, symbol_seen}
use Rattle.ir_reader_values.proofs.Widening.{widens_trans, steady_behind}
use Rattle.ir_reader_values.proofs.constant.constant_offset.Goals as goal

pub returns-clause-stays : goal.returns-clause-stays
returns-clause-stays c = λ later e.
    let nodes = steady_behind nodes_seen c.memory.new.scope c.comma_symbol.new.scope c.in_ok-id.id c.in_ok-symbol.ensures.grows c.in_ok-id.ensures.stays later e in
    rw (nodes, c.in_ok-symbol.ensures.stays later e) refl

pub returns-clause-uses : goal.returns-clause-uses
returns-clause-uses c =
    let a = c.memory.new.scope in
    let n = c.comma_symbol.new.scope in
    rw (c.in_ok-id.ensures.stays n c.in_ok-symbol.ensures.grows)
    (uses_type_before c.args.scope.now.tables a.tables n.tables (names_used (nodes_seen a c.in_ok-id.id)) (global (symbol_seen n c.in_ok-symbol.symbol) 0 ∷ []) c.in_ok-id.ensures.uses c.in_ok-symbol.ensures.uses)

pub returns-in_err-symbol-clause-grows : goal.returns-in_err-symbol-clause-grows
returns-in_err-symbol-clause-grows c = widens_trans c.args.scope.now c.memory.new.scope c.comma_symbol.new.scope c.in_ok-id.ensures.grows c.in_err-symbol.ensures.grows

pub returns-in_err-indexes-clause-grows : goal.returns-in_err-indexes-clause-grows
returns-in_err-indexes-clause-grows c = widens_trans c.args.scope.now c.memory.new.scope c.comma_symbol.new.scope c.in_ok-id.ensures.grows c.in_ok-symbol.ensures.grows

pub returns-in_err-rest-3-clause-grows : goal.returns-in_err-rest-3-clause-grows
returns-in_err-rest-3-clause-grows c = widens_trans c.args.scope.now c.memory.new.scope c.comma_symbol.new.scope c.in_ok-id.ensures.grows c.in_ok-symbol.ensures.grows

pub returns-clause-grows : goal.returns-clause-grows
returns-clause-grows c = widens_trans c.args.scope.now c.memory.new.scope c.comma_symbol.new.scope c.in_ok-id.ensures.grows c.in_ok-symbol.ensures.grows
