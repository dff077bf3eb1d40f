use Rattle.std.proofs.Common.{arith}
use Rattle.ir_sizes.proofs.Setting.{right_small, extents_right}
use Rattle.ir_sizes.proofs.Beginning.{no_starts}
use Rattle.ir_sizes.proofs.prepare.steps_of.Goals as goal

pub begins_behind-requires : goal.begins_behind-requires
begins_behind-requires c = record {
  small = right_small c.args.types.now c.args.names.now c.args.extents.now (extents_right c.args.types.now c.args.names.now c.args.extents.now c.requires.extents).each;
}

pub returns : goal.returns
returns c =
    let types = c.args.types.now in
    let names = c.args.names.now in
    let extents = c.args.extents.now in
    let begins = c.in_ok-begins_behind.ensures in
    record {
      first = record {
        ends = c.in_ok-ends.ensures;
        starts = begins.are names (extents_right types names extents c.requires.extents).each (no_starts types names extents c.new-starts.result.items c.new-begins.result.items c.new-starts.ensures.items);
      };
      as_many = begins.as_many (rw c.new-starts.ensures.items (omega arith));
    }
