use Rattle.std.proofs.Common.{◌≡◌, take, map}
use Rattle.std.specs.Prelude.{All}
use Rattle.ir_sizes.specs.Stepping.{index_pair, IsIndex}
use Rattle.ir_types.specs.ValueForms.{index_of}
use Rattle.ir_reader_values.specs.View.{index_in}
use Rattle.ir_reader_values.proofs.operand.held_indexes.Given as goal

abbrev pub invariant-loop-index : goal.invariant-loop-index
invariant-loop-index l = record {
  are : map index_pair l.held.items ≡ map index_of (map index_in (take l.index-index l.indexes));
  within : All IsIndex l.held.items;
}
