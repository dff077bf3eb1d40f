use Rattle.std.proofs.Common.{arith}
use Rattle.std.proofs.lemmas.Grind.{common_steps}
use Rattle.ir_types.specs.declared.memory_type.TypeName.{TypeName}
use Rattle.ir_printer_types.proofs.TypeNames.{named_by}
use Rattle.ir_printer_types.proofs.memory_type.put_type_name.Goals as goal

pub returns : goal.returns
returns c = rw (named_by (λ (n : TypeName). n.name) c.args.names.now c.args.name c.index-names-name.result c.requires c.index-names-name.is) (grind (arith, common_steps))
