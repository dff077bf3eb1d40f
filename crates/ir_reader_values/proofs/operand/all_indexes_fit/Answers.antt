use Rattle.std.proofs.Common.{sym, ◌∙◌}
use Rattle.ir_types.specs.ValueForms.{index_fits}
use Rattle.ir_reader_values.specs.View.{index_in}
use Rattle.ir_reader_values.proofs.Operands.{one_fails}
use Rattle.ir_reader_values.proofs.operand.all_indexes_fit.Goals as goal

pub returns-then-not-fits_width : goal.returns-then-not-fits_width
returns-then-not-fits_width c = sym (one_fails index_fits index_in c.args.indexes.now c.loop-index.index-index _ c.loop-index-test.true (sym c.fits_width.ensures ∙ c.if-not-fits_width.true))
