use Rattle.ir_check_edges.proofs.Tallies.{told}
use Rattle.ir_check_edges.proofs.counted.same_counts.Goals as goal

pub returns : goal.returns
returns c = told c.args.names.now c.args.some.now c.args.others.now c.in_ok-places.places.items c.in_ok-other_places.other_places.items _ _ c.eq.result c.len-count.ensures.table c.in_ok-places.ensures c.in_ok-other_places.ensures c.in_ok-sort.ensures.permutation c.in_ok-sort-2.ensures.permutation c.in_ok-sort.ensures.sorted c.in_ok-sort-2.ensures.sorted c.eq.ensures
