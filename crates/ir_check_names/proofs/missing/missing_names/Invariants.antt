use Rattle.std.proofs.Common.{◌≡◌, [], drop}
use Rattle.ir_check_names.specs.Missing.{missing_names}
use Rattle.ir_check_names.proofs.missing.missing_names.Given as goal

abbrev pub invariant-loop-ty : goal.invariant-loop-ty
invariant-loop-ty l = missing_names l.names l.missing.items (drop l.ty-index l.types) ≡ missing_names l.names [] l.types
