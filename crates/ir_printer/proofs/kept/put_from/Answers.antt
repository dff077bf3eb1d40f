use Rattle.std.proofs.Common.{◌≡◌, ◌+◌, ◌-◌, arith}
use Rattle.ir_printer.proofs.KeptPrinted.{first_printed, next_printed, all_printed}
use Rattle.ir_printer.proofs.kept.put_from.Goals as goal

pub loop-place-init : goal.loop-place-init
loop-place-init c =
    let back : c.args.start + 1 - 1 ≡ c.args.start = omega arith in
    record {
      some = omega arith;
      printed = rw back (first_printed c.args.kept.now c.args.start c.at.result.now _ _ (omega arith) c.at.ensures.item c.in_ok-extend_from_slice.ensures.items);
    }

pub loop-place-preserved : goal.loop-place-preserved
loop-place-preserved c = record {
  some = omega arith;
  printed = next_printed c.args.kept.now c.loop-place.place c.at-in-loop-place.result.now c.at-text.result.now _ _ _ _ c.loop-place.invariant.some (omega arith) c.at-in-loop-place.ensures.item c.at-text.ensures.item c.in_ok-put_between.ensures c.in_ok-extend_from_slice-2.ensures.items c.loop-place.invariant.printed;
}

pub returns : goal.returns
returns c = all_printed c.args.kept.now c.loop-place.place _ _ _ (omega arith) c.loop-place.invariant.printed
