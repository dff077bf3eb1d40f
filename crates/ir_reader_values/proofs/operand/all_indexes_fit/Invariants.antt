use Rattle.std.proofs.Common.{◌≡◌, true, take, map}
use Rattle.std.specs.List.{list_all}
use Rattle.ir_types.specs.ValueForms.{index_fits}
use Rattle.ir_reader_values.specs.View.{index_in}
use Rattle.ir_reader_values.proofs.operand.all_indexes_fit.Given as goal

abbrev pub invariant-loop-index : goal.invariant-loop-index
invariant-loop-index l = list_all index_fits (map index_in (take l.index-index l.indexes)) ≡ true
