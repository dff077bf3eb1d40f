use Rattle.std.proofs.Common.{◌≡◌, drop}
use Rattle.ir_types.specs.declared.memory_type.TypeName.{TypeName}
use Rattle.ir_check_names.specs.Choice.{first_of}
use Rattle.ir_check_names.specs.Missing.{missing_in_definition}
use Rattle.ir_check_names.proofs.unknown.missing_in_definitions.Given as goal

abbrev pub invariant-loop-entry : goal.invariant-loop-entry
invariant-loop-entry l = first_of (λ (n : TypeName). missing_in_definition l.missing n.ty) (drop l.entry-index l.names) ≡ first_of (λ (n : TypeName). missing_in_definition l.missing n.ty) l.names
