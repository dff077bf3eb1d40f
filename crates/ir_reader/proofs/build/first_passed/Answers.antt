use Rattle.std.proofs.Common.{◌≡◌}
use Rattle.ir_reader.specs.Trees.{tables_in_parts}
use Rattle.ir_reader.proofs.Building.{passed_so}
use Rattle.ir_reader.proofs.build.first_passed.Goals as goal

pub returns : goal.returns
returns c =
    let t : c.in_ok-tables.tables ≡ tables_in_parts c.args.parts.now = rw (c.as_slice.ensures, c.as_slice-2.ensures, c.as_slice-3.ensures) at c.in_ok-tables.ensures in
    passed_so c.passed.result c.args.functions.now c.args.longs.now c.first_long.result c.in_ok-tables.tables (tables_in_parts c.args.parts.now) c.passed.ensures c.first_long.ensures t
