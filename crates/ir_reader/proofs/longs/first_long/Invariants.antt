use Rattle.std.proofs.Common.{◌≡◌, length, map}
use Rattle.ir_types.specs.Denotes.{function_in}
use Rattle.ir_reader.specs.Gathered.{long_among}
use Rattle.ir_reader.proofs.longs.first_long.Given as goal

abbrev pub decreases-more : goal.decreases-more
decreases-more l = length l.longs_left

abbrev pub invariant-more : goal.invariant-more
invariant-more l = long_among l.longs_left (map (function_in l.tables) l.functions_left) ≡ long_among l.longs (map (function_in l.tables) l.functions)
