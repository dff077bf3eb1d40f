use Rattle.ir_reader_types.proofs.LookUps.{looks_up_one, looks_up_this}
use Rattle.ir_reader_types.proofs.heads.leaf.Goals as goal

pub returns-clause-names : goal.returns-clause-names
returns-clause-names c = rw c.in_ok-place.ensures.place.1 (looks_up_one c.args.names.now c.place_of.new.self c.in_ok-name.name c.in_ok-place.ensures.ok)

pub returns-clause-looks_up : goal.returns-clause-looks_up
returns-clause-looks_up c = looks_up_this c.args.names.now c.place_of.new.self c.in_ok-name.name c.in_ok-place.ensures.ok
