use Rattle.std.proofs.Common.{◌≡◌, take}
use Rattle.std.specs.Prelude.{map}
use Rattle.ir_reader_items.specs.declared.part.Definition.{Definition}
use Rattle.ir_reader_types.specs.TypeTable.{missing_entry}
use Rattle.ir_reader.proofs.named.names_of.Given as goal

abbrev pub invariant-loop-definition : goal.invariant-loop-definition
invariant-loop-definition l = l.names ≡ map (λ (d : Definition). missing_entry d.name) (take l.definition-index l.definitions)
