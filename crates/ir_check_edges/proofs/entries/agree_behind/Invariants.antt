use Rattle.std.proofs.Common.{◌≡◌, map, drop}
use Rattle.ir_types.specs.Denotes.{tables_of}
use Rattle.ir_check_edges.specs.Agreeing.{seen_in, agree_behind}
use Rattle.ir_check_edges.proofs.entries.agree_behind.Given as goal

abbrev pub invariant-loop-entry : goal.invariant-loop-entry
invariant-loop-entry l = agree_behind (seen_in (tables_of l.m) l.names l.before) (map (seen_in (tables_of l.m) l.names) (drop l.entry-index l.rest)) ≡ agree_behind (seen_in (tables_of l.m) l.names l.first) (map (seen_in (tables_of l.m) l.names) l.rest)
