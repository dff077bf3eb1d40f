use Rattle.std.proofs.Common.{length, take}
use Rattle.std.specs.List.{AllByRecursion}
use Rattle.ir_reader.specs.Trees.{stands_for, defined_as}
use Rattle.ir_reader.specs.Typed.{Made, definition_uses, StandsBefore}
use Rattle.ir_reader.proofs.named.named_types.Given as goal

abbrev pub invariant-loop-definition : goal.invariant-loop-definition
invariant-loop-definition l = record {
  made : Made stands_for defined_as definition_uses l.fn.names l.fn.types.items (take l.definition-index l.definitions) l.named.items l.names l.types.items;
  within : AllByRecursion (StandsBefore (length l.types.items)) l.named.items;
}
