use Rattle.std.proofs.Common.{◌≡◌, drop}
use Rattle.ir_types.specs.declared.memory_type.TypeName.{TypeName}
use Rattle.ir_limits.specs.Limits.{long_name}
use Rattle.ir_limits.proofs.Firsts.{first_of}
use Rattle.ir_reader_items.proofs.passing.first_long.Given as goal

abbrev pub invariant-loop-entry : goal.invariant-loop-entry
invariant-loop-entry l = first_of (λ (t : TypeName). long_name t.name) (drop l.entry-index l.names) ≡ first_of (λ (t : TypeName). long_name t.name) l.names
